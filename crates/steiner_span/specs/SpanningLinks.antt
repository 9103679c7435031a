-- Links that span terminals, each with a number that its ends are joined within.
use Rattle.std.specs.Prelude.{ℕ, ◌≤◌, List, Contains}
use Rattle.grid_base.specs.declared.piece.Piece.{Piece}
use Rattle.grid_base.specs.declared.size.Size.{Size}
use Rattle.grid_base.specs.declared.vertex.Vertex.{Vertex}
use Rattle.grid_base.specs.Walks.{InVertices, WalkBetween}
use Rattle.grid_graph.specs.Weighed.{IsAllowed}
use Rattle.label_search.specs.Sets.{IsSetOf, weight}
use Rattle.shortest_paths.specs.Spanning.{Link, LeadTo}

-- a set of allowed pieces that weighs at most n joins the two vertices
pub record AreJoinedWithin (s : Size) (pieces : List (Piece × ℕ)) (a b n : ℕ) : Type 0 where
  pub set : List (Piece × ℕ)
  pub is_set : IsSetOf pieces set
  pub walk : WalkBetween s (IsAllowed set) a b
  pub light : weight set ≤ n

-- links of the terminals that lead from each to each, none shorter than some set that joins its ends: those of a spanning
-- tree by distances are such, and those of a tour
pub record AreSpanningLinks (s : Size) (pieces : List (Piece × ℕ)) (terminals : List Vertex) (links : List Link) : Type 0 where
  pub ends : (link : Link) → Contains links link → InVertices terminals link.one × InVertices terminals link.other
  pub joined : (link : Link) → Contains links link → AreJoinedWithin s pieces link.one link.other link.distance
  pub connects : (a b : ℕ) → InVertices terminals a → InVertices terminals b → (way : List ℕ) × LeadTo links a way b
