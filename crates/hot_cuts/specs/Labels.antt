-- Labels of nodes: what least trees cost that join some ends and a node.
use Rattle.std.specs.Prelude.{ℕ, ◌-◌, ◌^◌, List, Option, Some, None, Vec, slice_get, slice_index_or}
use Rattle.std.specs.declared.alloc.Global.{Global}
use Rattle.hot_cuts.specs.declared.least_trees.Label.{Label}
use Rattle.hot_cuts.specs.declared.least_trees.Step.TheVariants as steps

-- a node that is not reached
abbrev pub far_label : Label
far_label = record { cost = 2 ^ 64 - 1; step = steps.None }

-- the label of a node in a row, if there is one
abbrev pub label_in_row : Option (Vec Label Global) → ℕ → Label
label_in_row None node = far_label
label_in_row (Some row) node = slice_index_or row.items node far_label

-- the label of a node for a set of ends
abbrev pub label_at : List (Vec Label Global) → ℕ → ℕ → Label
label_at rows set node = label_in_row (slice_get rows set) node
