-- Vertices with their places.
use Rattle.std.specs.Prelude.{ℕ, ◌≡◌, ◌<◌, ◌+◌, ◌-◌, ◌*◌, ◌%◌, ◌^◌, min}
use Rattle.std.specs.Int.{abs_diff}
use Rattle.grid_base.specs.Numbers.{cols, rows, col_of, row_of, layer_of, to_next_col, to_next_row, to_next_layer}
use Rattle.grid_base.specs.declared.piece.Piece.{Piece}
use Rattle.grid_base.specs.declared.size.Size.{Size}
use Rattle.net_search.specs.declared.side.Side.{Side}
use Rattle.net_search.specs.declared.side.Side.TheVariants.{West, East, South, North, Down, Up}
use Rattle.net_search.specs.declared.site.Site.{Site}

-- the vertex with this number, and its place
abbrev pub site_at : Size → ℕ → Site
site_at s v = record { vertex = v; col = col_of s v; row = row_of s v; layer = layer_of s v }

-- a number of 32 bits so much further on, and so much further back
abbrev pub on : ℕ → ℕ → ℕ
on n steps = (n + steps) % 4294967296

abbrev pub back : ℕ → ℕ → ℕ
back n steps = (n + (4294967296 - steps)) % 4294967296

-- the neighbour on a side, one column, row or layer on or back
abbrev pub neighbour : Size → Site → Side → Site
neighbour s here West = record here { vertex = back here.vertex 1; col = back here.col 1 }
neighbour s here East = record here { vertex = on here.vertex 1; col = on here.col 1 }
neighbour s here South = record here { vertex = back here.vertex (cols s); row = back here.row 1 }
neighbour s here North = record here { vertex = on here.vertex (cols s); row = on here.row 1 }
neighbour s here Down = record here { vertex = back here.vertex (cols s * rows s % 4294967296); layer = back here.layer 1 }
neighbour s here Up = record here { vertex = on here.vertex (cols s * rows s % 4294967296); layer = on here.layer 1 }

-- the piece between a vertex and its neighbour on a side goes from the one with the lower number
abbrev pub piece_to : Size → Site → Side → Piece
piece_to s here West = to_next_col (neighbour s here West).vertex
piece_to s here East = to_next_col here.vertex
piece_to s here South = to_next_row (neighbour s here South).vertex
piece_to s here North = to_next_row here.vertex
piece_to s here Down = to_next_layer (neighbour s here Down).vertex
piece_to s here Up = to_next_layer here.vertex

-- the tile steps between the tiles of two vertices
abbrev pub tiles_between : Site → Site → ℕ
tiles_between a b = min (abs_diff a.col b.col + abs_diff a.row b.row) 4294967295

-- a step from a site to its neighbour on a side, and the piece of the step
pub record IsStepBack (s : Size) (site : Site) (side : Side) (taken : Piece) (from : Site) : Type 0 where
  pub next : from ≡ neighbour s site side
  pub piece : site.vertex < 2 ^ 31 → (neighbour s site side).vertex < 2 ^ 31 → taken ≡ piece_to s site side
