-- The least weight of the edges over a tile edge.
use Rattle.std.specs.Prelude.{ℕ, Bool, false, ◌==◌, List, [], ◌∷◌, cond, min}
use Rattle.grid_base.specs.declared.piece.Piece.{Piece}
use Rattle.grid_base.specs.declared.piece.Piece.TheVariants.{Edge, Via}
use Rattle.grid_base.specs.declared.size.Size.{Size}
use Rattle.grid_graph.specs.Flat.{tile_edge_of}
use Rattle.grid_graph.specs.Limits.{max_weight}

-- whether the piece is an edge over the tile edge of this number
abbrev pub is_over : Size → ℕ → Piece → Bool
is_over s e (Edge edge) = tile_edge_of s edge.0 == e
is_over s e (Via via) = false

-- the least that edges of the list over a tile edge weigh, and no more than a piece may weigh
abbrev pub least_over : Size → List (Piece × ℕ) → ℕ → ℕ
least_over s [] e = max_weight
least_over s (x ∷ pieces) e = cond (is_over s e x.0) (min x.1 (least_over s pieces e)) (least_over s pieces e)
