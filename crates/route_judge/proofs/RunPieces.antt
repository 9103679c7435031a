-- The pieces of runs.
use Rattle.std.proofs.Common.{All, Contains, List, Result, Ok, Err, Bool, sym, subst}
use Rattle.std.specs.Prelude.{◌↔◌, IfOk, IsTrue}
use Rattle.std.proofs.lemmas.List.Elements.{All-contains, All-contains_itself, All-weaker}
use Rattle.straight_runs.specs.declared.run.Run.{Run}
use Rattle.straight_runs.specs.Runs.{IsStraightRun, pieces_of}
use Rattle.straight_runs.proofs.Merges.{of_some_run}
use Rattle.grid_base.specs.declared.no_memory.NoMemory.{NoMemory}
use Rattle.grid_base.specs.declared.piece.Piece.{Piece}
use Rattle.grid_base.specs.declared.size.Size.{Size}
use Rattle.grid_base.specs.declared.vertex.Vertex.{Vertex}
use Rattle.grid_base.specs.Numbers.{IsPiece}
use Rattle.grid_base.specs.Walks.{InPieces, InVertices, JoinsList}
use Rattle.grid_base.proofs.Joined.{Joins-superset}
use Rattle.tree_set.specs.Routings.{ArePieces}

-- what runs have are pieces of the grid
piece_of_runs : (s : Size) (runs : List Run) → All (IsStraightRun s) runs → (p : Piece) → Contains (pieces_of s runs) p → IsPiece s p
piece_of_runs s runs are p held =
    let of = of_some_run s runs p held in
    let is = All-contains (IsStraightRun s) runs of.0 are of.1 in
    subst (IsPiece s) (sym of.2.2) (is.each of.2.0 of.2.1)

-- and so has a list of the same pieces
pub same_pieces : (s : Size) (runs : List Run) (tree : List Piece) → All (IsStraightRun s) runs → ((p : Piece) → Contains tree p ↔ Contains (pieces_of s runs) p) → ArePieces s tree
same_pieces s runs tree are same =
    All-weaker (Contains tree) (IsPiece s) (λ p held. piece_of_runs s runs are p ((same p).0 held)) tree (All-contains_itself tree)

-- which joins the same terminals
pub same_joining : (s : Size) (xs ys : List Piece) (terminals : List Vertex) (result : Result Bool NoMemory) → ((p : Piece) → Contains xs p ↔ Contains ys p) → IfOk result (λ joined. IsTrue joined ↔ JoinsList s xs terminals) → IfOk result (λ joined. IsTrue joined ↔ JoinsList s ys terminals)
same_joining s xs ys terminals (Ok joined) same told = (
  λ so. Joins-superset s (InPieces xs) (InPieces ys) (InVertices terminals) (λ p. (same p).0) (told.0 so),
  λ joins. told.1 (Joins-superset s (InPieces ys) (InPieces xs) (InVertices terminals) (λ p. (same p).1) joins),
)
same_joining s xs ys terminals (Err e) same told = tt
