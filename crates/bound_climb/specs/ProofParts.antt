-- What a proof is made of.
use Rattle.std.specs.Prelude.{ℕ, ◌<◌, ◌≤◌, List, length, Option, Some, None}
use Rattle.grid_base.specs.declared.piece.Piece.{Piece}
use Rattle.grid_base.specs.declared.size.Size.{Size}
use Rattle.grid_base.specs.declared.vertex.Vertex.{Vertex}
use Rattle.grid_base.specs.Walks.{InVertices}
use Rattle.label_search.specs.Sets.{IsLeastWeight}
use Rattle.steiner_tables.specs.Masks.{few_terminals}
use Rattle.lower_bound.specs.NetBounds.{AreHalves}
use Rattle.brought_bounds.specs.declared.moats.Moats.{Moats}
use Rattle.brought_bounds.specs.TableWords.{IsTableThatHolds}
use Rattle.bound_climb.specs.NetProofs.{AreTabled, table_bound}

-- a table that holds, whose bound is the least weight of its terminals
pub record IsLeastTable (s : Size) (pieces : List (Piece × ℕ)) (terminals : List Vertex) (rows : List (List ℕ)) : Type 0 where
  pub chosen : List Vertex
  pub tabled : AreTabled s terminals chosen
  pub holds : IsTableThatHolds s pieces chosen rows
  pub least : IsLeastWeight s pieces (InVertices chosen) (table_bound chosen rows)

-- moats of halves of least weights exactly above five terminals
abbrev pub AreHalfMoats : Size → List (Piece × ℕ) → List Vertex → Option Moats → Type 0
AreHalfMoats s pieces terminals None = length terminals ≤ few_terminals
AreHalfMoats s pieces terminals (Some moats) =
    (few_terminals < length terminals) × AreHalves s pieces terminals moats.radii
