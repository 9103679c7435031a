use Rattle.std.proofs.Common.{◌≡◌, ◌<◌, ◌≤◌, ℕ, length}
use Rattle.grid_base.specs.declared.vertex.Vertex.{Vertex}
use Rattle.grid_base.specs.Lists.{At}
use Rattle.steiner_tables.specs.Masks.{single}
use Rattle.brought_bounds.specs.TableWords.{table_number}
use Rattle.brought_bounds.proofs.own.are_own.Given as goal

abbrev pub invariant-loop-place : goal.invariant-loop-place
invariant-loop-place l = (place : ℕ) (v : Vertex) → place < l.place → At l.terminals place v → single place ≤ length l.rows
    → table_number l.rows (single place) v.0 ≡ 0
