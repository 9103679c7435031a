-- The lightest of all sets of pieces, beside some that are chosen already.
use Rattle.std.specs.Prelude.{ℕ, ◌+◌, ◌*◌, ◌^◌, ◌<◌, ◌≤◌, ◌⊎◌, List}
use Rattle.std.specs.List.{Contains}
use Rattle.grid_base.specs.declared.piece.Piece.{Piece}
use Rattle.grid_base.specs.declared.size.Size.{Size}
use Rattle.grid_base.specs.Walks.{Joins, InPieces}
use Rattle.grid_graph.specs.Weighed.{IsAllowed}
use Rattle.label_search.specs.Sets.{IsSetOf, weight}

-- above what all pieces of a grid weigh together: 3 * 2^23 of them, each of at most 2^38
abbrev pub apart : ℕ
apart = 3 * 2 ^ 61 + 1

-- the piece is a chosen one already, or in the set
abbrev pub IsChosen : List Piece → List (Piece × ℕ) → Piece → Type 0
IsChosen chosen set p = InPieces chosen p ⊎ IsAllowed set p

-- a set of these pieces joins the vertices of T together with the chosen ones, and weighs at most this
pub record JoinsBeside (s : Size) (chosen : List Piece) (pieces : List (Piece × ℕ)) (T : ℕ → Type 0) (limit : ℕ) : Type 0 where
  pub set : List (Piece × ℕ)
  pub is_set : IsSetOf pieces set
  pub joins : Joins s (IsChosen chosen set) T
  pub light : weight set ≤ limit

-- the least weight that some of these pieces add to the chosen ones, so that all together join the vertices of T; `apart` where
-- none do
pub record IsLeastBeside (s : Size) (chosen : List Piece) (pieces : List (Piece × ℕ)) (T : ℕ → Type 0)
    (least : ℕ) : Type 0 where
  pub limit : least ≤ apart
  pub joined : least < apart → JoinsBeside s chosen pieces T least
  pub lightest : (part : List (Piece × ℕ)) → ((x : Piece × ℕ) → Contains part x → Contains pieces x)
      → Joins s (IsChosen chosen part) T → least ≤ weight part
