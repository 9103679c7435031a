-- Walks in a set of pieces, and what it means that a set of pieces joins a set of vertices.
use Rattle.std.specs.Prelude.{◌≡◌, ℕ, ◌-◌, List, [], ◌∷◌, length, slice_get, Some, Contains}
use Rattle.grid_base.specs.declared.piece.Piece.{Piece}
use Rattle.grid_base.specs.declared.size.Size.{Size}
use Rattle.grid_base.specs.declared.vertex.Vertex.{Vertex}
use Rattle.grid_base.specs.Numbers.{IsVertex, Connects}

-- a piece of the set F has these two ends
pub record AreLinked (s : Size) (F : Piece → Type 0) (a b : ℕ) : Type 0 where
  pub piece : Piece
  pub in_set : F piece
  pub connects : Connects s piece a b

-- each vertex of the list is linked to the one before it, and the first one to `a`
abbrev pub GoesOn : Size → (Piece → Type 0) → ℕ → List ℕ → Type 0
GoesOn s F a [] = Unit {0}
GoesOn s F a (b ∷ rest) = AreLinked s F a b × GoesOn s F b rest

-- a list of vertices in which each two that follow each other are the ends of a piece of F; a vertex alone is a walk
abbrev pub IsWalk : Size → (Piece → Type 0) → List ℕ → Type 0
IsWalk s F [] = ⊥
IsWalk s F (a ∷ rest) = IsVertex s a × GoesOn s F a rest

-- a walk in F leads from `a` to `b`
pub record WalkBetween (s : Size) (F : Piece → Type 0) (a b : ℕ) : Type 0 where
  pub way : List ℕ
  pub walks : IsWalk s F way
  pub starts : slice_get way 0 ≡ Some a
  pub arrives : slice_get way (length way - 1) ≡ Some b

-- the set of pieces F joins the set of vertices T: any two of them are the ends of a walk in F
abbrev pub Joins : Size → (Piece → Type 0) → (ℕ → Type 0) → Type 0
Joins s F T = (a b : ℕ) → T a → T b → WalkBetween s F a b

-- the piece is in the list
abbrev pub InPieces : List Piece → Piece → Type 0
InPieces pieces p = Contains pieces p

-- the vertex is in the list
abbrev pub InVertices : List Vertex → ℕ → Type 0
InVertices vertices v = Contains vertices (record { 0 = v })

-- the pieces of the list join the vertices of the list
abbrev pub JoinsList : Size → List Piece → List Vertex → Type 0
JoinsList s pieces terminals = Joins s (InPieces pieces) (InVertices terminals)
