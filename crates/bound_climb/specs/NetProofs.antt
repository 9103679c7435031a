-- Proofs of net bounds: a table of a few terminals and, where there are more than five, moats around all of them.
use Rattle.std.specs.Prelude.{ℕ, ◌≡◌, ◌<◌, ◌≤◌, ◌↔◌, List, [], length, Option, Some, None, IfSome, IsSome, max}
use Rattle.std.specs.List.{sum}
use Rattle.grid_base.specs.declared.piece.Piece.{Piece}
use Rattle.grid_base.specs.declared.size.Size.{Size}
use Rattle.grid_base.specs.declared.vertex.Vertex.{Vertex}
use Rattle.steiner_tables.specs.Masks.{all_but_root, few_terminals}
use Rattle.steiner_exact.specs.Roots.{root_of}
use Rattle.lower_bound.specs.Moats.{AreMoats}
use Rattle.lower_bound.specs.NetBounds.{IsNetBound}
use Rattle.lower_bound.specs.Spread.{IsSpread}
use Rattle.brought_bounds.specs.declared.moats.Moats.{Moats}
use Rattle.brought_bounds.specs.TableWords.{table_number, IsTableThatHolds}
use Rattle.bound_climb.specs.declared.net_proof.NetProof.{NetProof}

-- the terminals of a table are all of them, or the spread five where there are more
pub record AreTabled (s : Size) (terminals chosen : List Vertex) : Type 0 where
  pub few : length terminals ≤ few_terminals → chosen ≡ terminals
  pub many : few_terminals < length terminals → IsSpread s terminals chosen

-- a table bounds its terminals by its number of all of them but the last one, at that one
abbrev pub table_bound : List Vertex → List (List ℕ) → ℕ
table_bound chosen rows = table_number rows (all_but_root chosen) (root_of chosen).0

-- a table that holds, and what it bounds
pub record IsTableBound (s : Size) (pieces : List (Piece × ℕ)) (terminals : List Vertex) (rows : List (List ℕ))
    (bound : ℕ) : Type 0 where
  pub chosen : List Vertex
  pub tabled : AreTabled s terminals chosen
  pub holds : IsTableThatHolds s pieces chosen rows
  pub is : bound ≡ table_bound chosen rows

-- moats hold where there are any
abbrev pub MayHaveMoats : Size → List (Piece × ℕ) → List Vertex → Option Moats → Type 0
MayHaveMoats s pieces terminals moats = IfSome moats (λ m. AreMoats s pieces terminals m.radii)

-- the greater of the two bounds, where moats are bounded by the sum of their radii; the table's alone where there are none
abbrev pub greater_bound : ℕ → Option Moats → ℕ
greater_bound of_table None = of_table
greater_bound of_table (Some moats) = max of_table (sum moats.radii)

-- a proof for two or more terminals is right, and this is its number
pub record IsRightForSeveral (s : Size) (pieces : List (Piece × ℕ)) (terminals : List Vertex) (proof : NetProof)
    (number : ℕ) : Type 0 where
  pub moated : IsSome proof.moats ↔ (few_terminals < length terminals)
  pub moats : MayHaveMoats s pieces terminals proof.moats
  pub of_table : ℕ
  pub table : IsTableBound s pieces terminals proof.table.rows of_table
  pub is : number ≡ greater_bound of_table proof.moats

-- with fewer than two terminals a proof has no rows and no moats, and its number is 0
pub record IsRightForNone (proof : NetProof) (number : ℕ) : Type 0 where
  pub rows : proof.table.rows ≡ []
  pub moats : proof.moats ≡ None
  pub is : number ≡ 0

-- a proof is right, and this is its number
pub record IsRight (s : Size) (pieces : List (Piece × ℕ)) (terminals : List Vertex) (proof : NetProof)
    (number : ℕ) : Type 0 where
  pub few : length terminals < 2 → IsRightForNone proof number
  pub several : 2 ≤ length terminals → IsRightForSeveral s pieces terminals proof number

-- a proof is right, and its number is the net bound
pub record ProvesNetBound (s : Size) (pieces : List (Piece × ℕ)) (terminals : List Vertex) (proof : NetProof) : Type 0 where
  pub number : ℕ
  pub right : IsRight s pieces terminals proof number
  pub bound : IsNetBound s pieces terminals number
