-- Halves as they are found.
use Rattle.std.specs.Prelude.{ℕ, ◌≡◌, ◌≢◌, ◌-◌, ◌/◌, ◌^◌, List, length, min}
use Rattle.std.specs.List.{sum}
use Rattle.grid_base.specs.declared.piece.Piece.{Piece}
use Rattle.grid_base.specs.declared.size.Size.{Size}
use Rattle.grid_base.specs.declared.vertex.Vertex.{Vertex}
use Rattle.grid_base.specs.Lists.{At}
use Rattle.lower_bound.specs.NetBounds.{IsLeastToOther}

-- the greatest number of 64 bits
abbrev pub all_ones : ℕ
all_ones = 2 ^ 64 - 1

-- another terminal stands at the vertex of the one at this place
pub record HasTwin (terminals : List Vertex) (place : ℕ) : Type 0 where
  pub vertex : Vertex
  pub stands : At terminals place vertex
  pub other : ℕ
  pub differs : other ≢ place
  pub stands_too : At terminals other vertex

-- half of the least weight of joining a terminal to one other
abbrev pub IsHalf : Size → List (Piece × ℕ) → List Vertex → ℕ → ℕ → Type 0
IsHalf s pieces terminals place half = (least : ℕ) × IsLeastToOther s pieces terminals place least × (half ≡ least / 2)

-- the sum of the halves of the first terminals
pub record IsSumOfHalves (s : Size) (pieces : List (Piece × ℕ)) (terminals : List Vertex) (count total : ℕ) : Type 0 where
  pub halves : List ℕ
  pub each : length halves ≡ count
  pub half : (place h : ℕ) → At halves place h → IsHalf s pieces terminals place h
  pub sums : total ≡ min (sum halves) all_ones
