use Rattle.std.proofs.Common.{◌≡◌, map}
use Rattle.std.specs.List.{range_with_len}
use Rattle.shortest_paths.specs.LabelWords.{label_of}
use Rattle.bound_climb.proofs.label_rows.label_row.Given as goal

abbrev pub invariant-loop-v : goal.invariant-loop-v
invariant-loop-v l = l.row.items ≡ map (label_of l.labels l.mask) (range_with_len 0 l.v)
