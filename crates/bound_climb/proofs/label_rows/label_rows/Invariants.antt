use Rattle.std.proofs.Common.{◌≡◌}
use Rattle.brought_bounds.specs.RowLists.{lists_of}
use Rattle.bound_climb.specs.LabelRows.{label_rows}
use Rattle.bound_climb.proofs.label_rows.label_rows.Given as goal

abbrev pub invariant-loop-place : goal.invariant-loop-place
invariant-loop-place l = lists_of l.rows.items ≡ label_rows l.labels l.place
