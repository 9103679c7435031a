use Rattle.std.proofs.Common.{◌≡◌, take}
use Rattle.eco_route.specs.EditRefusals.{terminals_of}
use Rattle.eco_route.proofs.opening.count_terminals.Given as goal

-- those of the nets so far
abbrev pub invariant-loop-net : goal.invariant-loop-net
invariant-loop-net l = l.terminals ≡ terminals_of (take l.net-index l.nets)
