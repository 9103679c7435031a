-- Spanning trees of terminals by distances.
use Rattle.std.specs.Prelude.{ℕ, ◌≡◌, ◌+◌, ◌⊎◌, List, [], ◌∷◌, length, All, Contains}
use Rattle.std.specs.List.{sum_by}
use Rattle.grid_base.specs.declared.piece.Piece.{Piece}
use Rattle.grid_base.specs.declared.size.Size.{Size}
use Rattle.grid_base.specs.declared.vertex.Vertex.{Vertex}
use Rattle.grid_base.specs.Walks.{InVertices}
use Rattle.label_search.specs.Sets.{IsEither, IsLeastWeight}

-- a pair of terminals with their distance
pub record Link : Type 0 where
  pub one : ℕ
  pub other : ℕ
  pub distance : ℕ

-- one of the links is that of a and b
pub record AreLinkEnds (links : List Link) (a b : ℕ) : Type 0 where
  pub link : Link
  pub listed : Contains links link
  pub ends : ((link.one ≡ a) × (link.other ≡ b)) ⊎ ((link.one ≡ b) × (link.other ≡ a))

-- links lead from a through these vertices, and end at b
abbrev pub LeadTo : List Link → ℕ → List ℕ → ℕ → Type 0
LeadTo links a [] b = a ≡ b
LeadTo links a (next ∷ way) b = AreLinkEnds links a next × LeadTo links next way b

-- a spanning tree by distances: so many links of the terminals, one fewer than there are terminals, that lead from each to each
pub record IsSpanningTree (s : Size) (pieces : List (Piece × ℕ)) (terminals : List Vertex) (links : List Link) : Type 0 where
  pub count : length links + 1 ≡ length terminals
  pub ends : All (λ link. InVertices terminals link.one × InVertices terminals link.other) links
  pub distances : All (λ link. IsLeastWeight s pieces (IsEither link.one link.other) link.distance) links
  pub connects : (a b : ℕ) → InVertices terminals a → InVertices terminals b → (way : List ℕ) × LeadTo links a way b

-- its weight: the sum of the distances
abbrev pub links_weight : List Link → ℕ
links_weight links = sum_by (λ link. link.distance) links
