use Rattle.std.proofs.Common.{ℕ, ◌-◌, ◌<◌}
use Rattle.shortest_paths.specs.LabelWords.{label_of}
use Rattle.steiner_exact.specs.Reading.{IsSplitBy}
use Rattle.steiner_exact.proofs.reading.split_of.Given as goal

-- no part before this one splits the mask
abbrev pub invariant-loop-one : goal.invariant-loop-one
invariant-loop-one l = (k : ℕ) → 0 < k → k < l.one → ¬ IsSplitBy (label_of l.labels) k (l.mask - k) l.mask l.fn.v.0
