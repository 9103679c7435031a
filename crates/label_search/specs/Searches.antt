-- What stands in the course of a search.
use Rattle.std.specs.Prelude.{ℕ, ◌≡◌, ◌+◌, ◌≤◌, ◌⊎◌, ◌-◌, List, min}
use Rattle.grid_base.specs.declared.piece.Piece.{Piece}
use Rattle.grid_base.specs.declared.size.Size.{Size}
use Rattle.grid_base.specs.Numbers.{IsVertex, Connects}
use Rattle.grid_base.specs.Walks.{WalkBetween}
use Rattle.grid_graph.specs.Weighed.{Weighs, IsAllowed}
use Rattle.label_search.specs.Sets.{IsSetOf, weight}
use Rattle.label_search.specs.Stamped.{most}

-- a set of allowed pieces of at most this weight joins the source and v
pub record HasSet (s : Size) (pieces : List (Piece × ℕ)) (source v limit : ℕ) : Type 0 where
  pub set : List (Piece × ℕ)
  pub is_set : IsSetOf pieces set
  pub walk : WalkBetween s (IsAllowed set) source v
  pub light : weight set ≤ limit

-- v has its number by way of a neighbour: its number is at least the neighbour's and the weight of the piece between
pub record IsBehind (s : Size) (pieces : List (Piece × ℕ)) (num : ℕ → ℕ) (v : ℕ) : Type 0 where
  pub before : ℕ
  pub piece : Piece
  pub by : ℕ
  pub connects : Connects s piece before v
  pub weighs : Weighs pieces piece by
  pub less : num before + by ≤ num v

-- the source has 0, and each vertex with a number is joined to the source at that weight, and is behind a neighbour
pub record IsReached (s : Size) (pieces : List (Piece × ℕ)) (source : ℕ) (num : ℕ → ℕ) : Type 0 where
  pub vertex : IsVertex s source
  pub start : num source ≡ 0
  pub limit : (v : ℕ) → num v ≤ most + 1
  pub joined : (v : ℕ) → num v ≤ most → HasSet s pieces source v (num v)
  pub behind : (v : ℕ) → num v ≤ most → (v ≡ source) ⊎ IsBehind s pieces num v

-- the number of v is at most the weight of each set of allowed pieces that joins the source and v
abbrev pub IsLow : Size → List (Piece × ℕ) → ℕ → (ℕ → ℕ) → ℕ → Type 0
IsLow s pieces source num v = (set : List (Piece × ℕ)) → IsSetOf pieces set → WalkBetween s (IsAllowed set) source v
    → num v ≤ weight set

-- no neighbour of v by an allowed piece has a number that v could lower
abbrev pub IsRelaxed : Size → List (Piece × ℕ) → (ℕ → ℕ) → ℕ → Type 0
IsRelaxed s pieces num v = (p : Piece) (k u : ℕ) → Weighs pieces p k → Connects s p v u → num u ≤ num v + k

-- what a search knows in which no waiting key is below x: a vertex's number, or x less what is still to go from it, where that
-- is smaller
abbrev pub known : (ℕ → ℕ) → (ℕ → ℕ) → ℕ → ℕ → ℕ
known num rest x v = min (num v) (x - rest v)
