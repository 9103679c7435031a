-- Trees that are no heavier than spanning trees by distances, and at most twice as heavy as least ones.
use Rattle.std.specs.Prelude.{ℕ, ◌≡◌, ◌*◌, ◌≤◌, List, map}
use Rattle.grid_base.specs.declared.piece.Piece.{Piece}
use Rattle.grid_base.specs.declared.size.Size.{Size}
use Rattle.grid_base.specs.declared.vertex.Vertex.{Vertex}
use Rattle.grid_base.specs.Walks.{Joins, JoinsList, InVertices}
use Rattle.grid_graph.specs.Weighed.{IsAllowed}
use Rattle.label_search.specs.Sets.{IsSetOf, weight}
use Rattle.shortest_paths.specs.Spanning.{Link, IsSpanningTree, links_weight}
use Rattle.tree_set.specs.Order.{IsRising}

-- a tree that joins the terminals, of the allowed pieces, and its weight, which no spanning tree by distances is below
pub record IsLightTree (s : Size) (pieces : List (Piece × ℕ)) (terminals : List Vertex) (tree : List Piece) (total : ℕ) : Type 0 where
  pub rising : IsRising tree
  pub joins : JoinsList s tree terminals
  pub set : List (Piece × ℕ)
  pub of : map (λ x. x.0) set ≡ tree
  pub is_set : IsSetOf pieces set
  pub weighs : weight set ≡ total
  pub light : (links : List Link) → IsSpanningTree s pieces terminals links → total ≤ links_weight links

-- the total is at most twice the weight of each set of allowed pieces that joins the terminals, whatever cycles and loose
-- pieces it has: so a least tree weighs at least half as much (Takahashi and Matsuyama, 1980)
abbrev pub IsAtMostTwice : Size → List (Piece × ℕ) → List Vertex → ℕ → Type 0
IsAtMostTwice s pieces terminals total =
    (set : List (Piece × ℕ)) → IsSetOf pieces set → Joins s (IsAllowed set) (InVertices terminals) → total ≤ 2 * weight set
