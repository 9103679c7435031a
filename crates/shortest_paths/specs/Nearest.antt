-- The nearest of some vertices to a source.
use Rattle.std.specs.Prelude.{ℕ, ◌≢◌, ◌<◌, ◌≤◌, List, Option, Some, None}
use Rattle.grid_base.specs.declared.piece.Piece.{Piece}
use Rattle.grid_base.specs.declared.size.Size.{Size}
use Rattle.grid_base.specs.declared.vertex.Vertex.{Vertex}
use Rattle.grid_base.specs.Walks.{InVertices, WalkBetween}
use Rattle.grid_graph.specs.Weighed.{IsAllowed}
use Rattle.label_search.specs.declared.row.Row.{Row}
use Rattle.label_search.specs.Founds.{index_in}
use Rattle.label_search.specs.Rows.{number_in, Waits}
use Rattle.label_search.specs.Sets.{IsSetOf, IsLeastWeight, IsEither, AreApart, weight}
use Rattle.label_search.specs.Stamped.{far}

-- one of the listed vertices, and not the source
abbrev pub IsGoal : List Vertex → ℕ → ℕ → Type 0
IsGoal goals source v = InVertices goals v × (v ≢ source)

-- no goal is joined to the source by a set that weighs less
abbrev pub NoneIsNearer : Size → List (Piece × ℕ) → ℕ → (ℕ → Type 0) → ℕ → Type 0
NoneIsNearer s pieces source Goal x =
    (v : ℕ) → Goal v → (set : List (Piece × ℕ)) → IsSetOf pieces set → WalkBetween s (IsAllowed set) source v → x ≤ weight set

-- the distance of the source to a goal, than which none is nearer
pub record IsLeastToGoal (s : Size) (pieces : List (Piece × ℕ)) (goals : List Vertex) (source least : ℕ) : Type 0 where
  pub goal : ℕ
  pub is_goal : IsGoal goals source goal
  pub joined : IsLeastWeight s pieces (IsEither source goal) least
  pub nearest : NoneIsNearer s pieces source (IsGoal goals source) least

-- the distance of the source to the nearest goal; none where no set joins it to any
abbrev pub IsNearestDistance : Size → List (Piece × ℕ) → List Vertex → ℕ → Option ℕ → Type 0
IsNearestDistance s pieces goals source (Some d) = IsLeastToGoal s pieces goals source d
IsNearestDistance s pieces goals source None = (v : ℕ) → IsGoal goals source v → AreApart s pieces (IsEither source v)

-- one of the first so many vertices that were found, and not the source
abbrev pub IsFoundGoal : Row → ℕ → ℕ → ℕ → Type 0
IsFoundGoal r count source v = (index_in r.found v < count) × (v ≢ source)

-- each of these that has a number waits
abbrev pub DoGoalsWait : Row → ℕ → ℕ → Type 0
DoGoalsWait r count source = (v : ℕ) → IsFoundGoal r count source v → number_in r v < far → Waits r v
