-- Sets of least weight that join terminals.
use Rattle.std.specs.Prelude.{ℕ, ◌≡◌, List, map}
use Rattle.grid_base.specs.declared.piece.Piece.{Piece}
use Rattle.grid_base.specs.declared.size.Size.{Size}
use Rattle.grid_base.specs.declared.vertex.Vertex.{Vertex}
use Rattle.grid_base.specs.Walks.{InVertices, JoinsList}
use Rattle.label_search.specs.Sets.{IsSetOf, IsLeastWeight, weight}
use Rattle.tree_set.specs.Order.{IsRising}

-- the tree is a set of the allowed pieces whose weight is the least of those that join the terminals
pub record IsLeastSet (s : Size) (pieces : List (Piece × ℕ)) (terminals : List Vertex) (tree : List Piece) : Type 0 where
  pub set : List (Piece × ℕ)
  pub of : map (λ x. x.0) set ≡ tree
  pub is_set : IsSetOf pieces set
  pub least : IsLeastWeight s pieces (InVertices terminals) (weight set)

-- a tree that joins the terminals, of the allowed pieces and of least weight, and that weight
pub record IsLeastTree (s : Size) (pieces : List (Piece × ℕ)) (terminals : List Vertex) (tree : List Piece) (weight : ℕ) : Type 0 where
  pub rising : IsRising tree
  pub joins : JoinsList s tree terminals
  pub least : IsLeastSet s pieces terminals tree
  pub weighs : IsLeastWeight s pieces (InVertices terminals) weight
