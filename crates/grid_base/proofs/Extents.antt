-- No part of a grid is larger than the whole.
use Rattle.std.proofs.Common.{ℕ, ◌*◌, ◌≤◌, arith}
use Rattle.grid_base.specs.Limits.{IsGridSize, max_vertices}

pub first_factor : (a b c n : ℕ) → 1 ≤ b → 1 ≤ c → a * b * c ≤ n → a ≤ n
first_factor a b c n hb hc h = grind arith

pub middle_factor : (a b c n : ℕ) → 1 ≤ a → 1 ≤ c → a * b * c ≤ n → b ≤ n
middle_factor a b c n ha hc h = grind arith

-- a grid has no more columns than vertices
pub cols_within : (cols rows layers : ℕ) → IsGridSize cols rows layers → cols ≤ max_vertices
cols_within cols rows layers s = first_factor cols rows layers max_vertices s.has_row s.has_layer s.vertex_limit

-- and no more rows
pub rows_within : (cols rows layers : ℕ) → IsGridSize cols rows layers → rows ≤ max_vertices
rows_within cols rows layers s = middle_factor cols rows layers max_vertices s.has_col s.has_layer s.vertex_limit
