use Rattle.std.proofs.Common.{◌≡◌, ◌++◌, map, take, drop}
use Rattle.net_search.specs.Known.{as_forgotten}
use Rattle.net_search.proofs.labels.Labels.begin.Given as goal

-- the labels so far are those of vertices that no search has reached
abbrev pub invariant-loop-label : goal.invariant-loop-label
invariant-loop-label l = l.label-items ≡ map as_forgotten (take l.label-index l.initial.label-items) ++ drop l.label-index l.initial.label-items
