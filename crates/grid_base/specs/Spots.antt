-- Vertices with their places.
use Rattle.std.specs.Prelude.{ℕ, List, Option, map, option_map}
use Rattle.grid_base.specs.declared.piece.Piece.{Piece}
use Rattle.grid_base.specs.declared.size.Size.{Size}
use Rattle.grid_base.specs.declared.spot.Spot.{Spot}
use Rattle.grid_base.specs.declared.vertex.Vertex.{Vertex}
use Rattle.grid_base.specs.Numbers.{place_at}
use Rattle.grid_base.specs.Neighbours.{steps}
use Rattle.grid_base.specs.Standing.{StandsAt}

-- a vertex with its place
abbrev pub spot_at : Size → ℕ → Spot
spot_at s v = record { vertex = record { 0 = v }; place = place_at s v }

-- the place is that of the vertex
abbrev pub IsSpot : Size → Spot → Type 0
IsSpot s x = StandsAt s x.place x.vertex.0

-- a step with the place that it leads to
abbrev pub spotted : Size → Option (Vertex × Piece) → Option (Spot × Piece)
spotted s step = option_map (λ (x : Vertex × Piece). (spot_at s x.0.0, x.1)) step

-- the six steps with their places
abbrev pub spot_steps : Size → ℕ → List (Option (Spot × Piece))
spot_steps s v = map (spotted s) (steps s v)
