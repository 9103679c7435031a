-- Which sets nets keep.
use Rattle.std.specs.Prelude.{ℕ, List, Contains}
use Rattle.grid_base.specs.declared.piece.Piece.{Piece}
use Rattle.grid_base.specs.Lists.{At}

-- all nets have the sets that they had, but those at the renewed places, which may have others
abbrev pub AreKeptBut : List ℕ → List (List Piece) → List (List Piece) → Type 0
AreKeptBut renewed old new = (k : ℕ) (tree : List Piece) → At old k tree → ¬ Contains renewed k → At new k tree
