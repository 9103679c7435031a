-- A flood: a vertex and all that walks in a set of pieces join to it get a mark. A vertex has one mark or none.
use Rattle.std.specs.Prelude.{◌≡◌, ◌≢◌, ℕ, ◌<◌, ◌≤◌, ◌⊎◌, Bool, true, false, List, length, map, eqb, Option, None, Some, IsSome}
use Rattle.std.specs.List.{IsDistinct}
use Rattle.grid_base.specs.declared.piece.Piece.{Piece}
use Rattle.grid_base.specs.declared.size.Size.{Size}
use Rattle.grid_base.specs.declared.vertex.Vertex.{Vertex}
use Rattle.grid_base.specs.Lists.{At}
use Rattle.grid_base.specs.Walks.{AreLinked, WalkBetween, InVertices}

-- a vertex was marked: it gets the mark if it has none, which `new` tells, and every other vertex stays as it is
pub record IsMarked (before after : ℕ → Option ℕ) (mark v : ℕ) (new : Bool) : Type 0 where
  pub first : new ≡ true → (before v ≡ None) × (after v ≡ Some mark)
  pub again : new ≡ false → IsSome (before v) × (after v ≡ before v)
  pub others : (w : ℕ) → w ≢ v → after w ≡ before w

-- what a piece of F links to a marked vertex is marked
abbrev pub IsClosed : Size → (Piece → Type 0) → (ℕ → Option ℕ) → Type 0
IsClosed s F marks = (v w : ℕ) → IsSome (marks v) → AreLinked s F v w → IsSome (marks w)

-- a flood from `start`: old marks stay, and the mark was given to the other vertices that a walk in F joins to the start
pub record IsFlooded (s : Size) (F : Piece → Type 0) (before after : ℕ → Option ℕ) (mark start : ℕ) : Type 0 where
  pub kept : (v m : ℕ) → before v ≡ Some m → after v ≡ Some m
  pub new : (v m : ℕ) → before v ≡ None → after v ≡ Some m → (m ≡ mark) × WalkBetween s F start v
  pub reached : (v : ℕ) → WalkBetween s F start v → IsSome (after v)

-- a flood on its way: `met` has the vertices that were marked, in order, and all that is linked to the first `done` of them is marked
pub record IsFlooding (s : Size) (F : Piece → Type 0) (before now : ℕ → Option ℕ) (mark start : ℕ) (met : List Vertex) (done : ℕ) : Type 0 where
  pub kept : (v m : ℕ) → before v ≡ Some m → now v ≡ Some m
  pub new : (v : ℕ) → InVertices met v → (before v ≡ None) × (now v ≡ Some mark) × WalkBetween s F start v
  pub only : (v : ℕ) → IsSome (now v) → IsSome (before v) ⊎ InVertices met v
  pub distinct : IsDistinct eqb (map (λ v. v.0) met)
  pub within : done ≤ length met
  pub begun : InVertices met start
  pub spread : (k w : ℕ) (v : Vertex) → k < done → At met k v → AreLinked s F v.0 w → IsSome (now w)
