-- Vertices that were reached.
use Rattle.std.specs.Prelude.{ℕ, IsTrue, Option, Some, None, cond}
use Rattle.std.specs.BTreeSet.{contains}
use Rattle.std.specs.Ordering.{nat_cmp}
use Rattle.tree_set.specs.declared.reached.Reached.{Reached}

-- the vertex was reached
unfoldable pub Has : Reached → ℕ → Type 0
Has reached v = IsTrue (contains nat_cmp reached.numbers v)

-- as marks: what was reached has the mark 0
abbrev pub mark_of : Reached → ℕ → Option ℕ
mark_of reached v = cond (contains nat_cmp reached.numbers v) (Some 0) None
