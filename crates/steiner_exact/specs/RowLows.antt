-- Lower bounds by a table of the flat grid.
use Rattle.std.specs.Prelude.{ℕ, ◌≡◌, ◌+◌, ◌*◌, ◌≤◌, min, max, List, length}
use Rattle.grid_base.specs.declared.piece.Piece.{Piece}
use Rattle.grid_base.specs.declared.size.Size.{Size}
use Rattle.grid_base.specs.declared.vertex.Vertex.{Vertex}
use Rattle.grid_base.specs.Lists.{At}
use Rattle.grid_base.specs.Numbers.{layer_of, Connects}
use Rattle.grid_graph.specs.Flat.{tile_of}
use Rattle.grid_graph.specs.Weighed.{Weighs}
use Rattle.label_search.specs.Stamped.{far}
use Rattle.steiner_tables.specs.Masks.{single, AreParts}
use Rattle.steiner_tables.specs.Tables.{completed}
use Rattle.terminal_balls.specs.Balls.{Balls, beyond, shares}
use Rattle.steiner_exact.specs.Boxes.{extent_of, width_with}
use Rattle.grid_graph.specs.TilePieces.{tiles_of}

-- how many layers the terminals of a mask extent with a vertex
abbrev pub layers_with : Size → List Vertex → ℕ → ℕ → ℕ
layers_with s terminals mask v = width_with (extent_of (layer_of s) terminals mask (length terminals)) (layer_of s v)

-- each layer to go at the floor of vias
abbrev pub layers_low : Size → List Vertex → ℕ → ℕ → ℕ → ℕ
layers_low s terminals via mask v = layers_with s terminals mask v * via

-- what may stand beside the number of a table of tiles: at most what pieces weigh beyond the tile edges under them
pub record IsBeside (s : Size) (pieces : List (Piece × ℕ)) (over : ℕ → ℕ) (terminals : List Vertex) (beside : ℕ → ℕ → ℕ) : Type 0 where
  pub own : (place : ℕ) (v : Vertex) → At terminals place v → beside (single place) v.0 ≡ 0
  pub steps : (mask : ℕ) (p : Piece) (k a b : ℕ) → Weighs pieces p k → Connects s p a b → beside mask b ≤ beside mask a + beyond s over p k
  pub splits : (one other mask v : ℕ) → AreParts one other mask → beside mask v ≤ beside one v + beside other v

-- the number of a table of tiles with what stands beside it; far where that is more
abbrev pub raised_by : Size → (ℕ → ℕ → ℕ) → (ℕ → ℕ → ℕ) → ℕ → ℕ → ℕ
raised_by s across beside mask v = min (across mask (tile_of s v) + beside mask v) far

-- the number of a table that was pruned under a family of tiles, and each layer to go
abbrev pub row_low : Size → List Vertex → ℕ → (ℕ → ℕ → ℕ) → ℕ → (ℕ → ℕ → ℕ) → ℕ → ℕ → ℕ
row_low s terminals via low limit number = raised_by s (completed (tiles_of s terminals) low limit far number) (layers_low s terminals via)

-- the same with what balls have, where that is more than the layers to go
abbrev pub ball_low : Size → List Vertex → ℕ → (ℕ → ℕ → ℕ) → ℕ → (ℕ → ℕ → ℕ) → Balls → ℕ → ℕ → ℕ
ball_low s terminals via low limit number balls =
    raised_by s (completed (tiles_of s terminals) low limit far number) (λ mask v. max (layers_low s terminals via mask v) (shares balls mask v))
