-- A lower bound of what a net costs at a price list.
use Rattle.std.specs.Prelude.{ℕ, ◌≡◌, ◌≢◌, ◌/◌, ◌<◌, ◌≤◌, List, length, max}
use Rattle.std.specs.List.{sum}
use Rattle.grid_base.specs.declared.piece.Piece.{Piece}
use Rattle.grid_base.specs.declared.size.Size.{Size}
use Rattle.grid_base.specs.declared.vertex.Vertex.{Vertex}
use Rattle.grid_base.specs.Lists.{At}
use Rattle.grid_base.specs.Walks.{InVertices}
use Rattle.label_search.specs.Sets.{IsLeastWeight, IsEither}
use Rattle.lower_bound.specs.Moats.{IsWithinDistance}
use Rattle.lower_bound.specs.Spread.{IsSpread}
use Rattle.steiner_tables.specs.Masks.{few_terminals}

-- the least cost of joining the terminal at a place to one other terminal
pub record IsLeastToOther (s : Size) (pieces : List (Piece × ℕ)) (terminals : List Vertex) (place least : ℕ) : Type 0 where
  pub terminal : Vertex
  pub stands : At terminals place terminal
  pub other : ℕ
  pub near : Vertex
  pub differs : other ≢ place
  pub stands_near : At terminals other near
  pub joined : IsLeastWeight s pieces (IsEither terminal.0 near.0) least
  pub nearest : (i : ℕ) (u : Vertex) → i ≢ place → At terminals i u → IsWithinDistance s pieces terminal.0 u.0 least

-- of each terminal half of the least cost of joining it to one other terminal, rounded down
pub record AreHalves (s : Size) (pieces : List (Piece × ℕ)) (terminals : List Vertex) (halves : List ℕ) : Type 0 where
  pub each : length halves ≡ length terminals
  pub half : (place h : ℕ) → At halves place h → (least : ℕ) × IsLeastToOther s pieces terminals place least × (h ≡ least / 2)

-- the bound of more than five terminals: the greater of the least cost of their spread and the sum of their halves
pub record IsBoundOfMany (s : Size) (pieces : List (Piece × ℕ)) (terminals : List Vertex) (bound : ℕ) : Type 0 where
  pub chosen : List Vertex
  pub spread : IsSpread s terminals chosen
  pub of_chosen : ℕ
  pub least : IsLeastWeight s pieces (InVertices chosen) of_chosen
  pub halves : List ℕ
  pub are_halves : AreHalves s pieces terminals halves
  pub greater : bound ≡ max of_chosen (sum halves)

-- the net bound, at the pieces of the net's ground with what they cost
pub record IsNetBound (s : Size) (pieces : List (Piece × ℕ)) (terminals : List Vertex) (bound : ℕ) : Type 0 where
  pub few : length terminals ≤ few_terminals → IsLeastWeight s pieces (InVertices terminals) bound
  pub many : few_terminals < length terminals → IsBoundOfMany s pieces terminals bound
