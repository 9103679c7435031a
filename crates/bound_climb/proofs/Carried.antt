-- What is true at the weights that a call made is true at what the net pays.
use Rattle.std.proofs.Common.{◌≡◌, ℕ, List, sym, ◌∙◌, ap, subst}
use Rattle.grid_base.specs.declared.piece.Piece.{Piece}
use Rattle.grid_base.specs.declared.size.Size.{Size}
use Rattle.grid_base.specs.declared.vertex.Vertex.{Vertex}
use Rattle.grid_base.specs.Walks.{Joins, InVertices}
use Rattle.grid_graph.specs.declared.grid.Grid.{Grid}
use Rattle.grid_graph.specs.declared.ground.Ground.{Ground}
use Rattle.grid_graph.specs.Grids.{size_of}
use Rattle.grid_graph.specs.Grounds.{JoinsTerminals}
use Rattle.grid_graph.specs.Weighed.{IsAllowed}
use Rattle.edge_prices.specs.PieceLists.{pieces_with}
use Rattle.edge_prices.specs.Weights.{cost}
use Rattle.lower_bound.specs.Costs.{costed}
use Rattle.lower_bound.specs.Raised.{raised}
use Rattle.lower_bound.proofs.Costed.{raised_costs, joined_by_costs}

-- pieces of a size and terminals, which are those of a net that pays these prices
pub record AreOfNet (grid : Grid) (width : ℕ) (over : Ground) (prices : List ℕ) (piece : ℕ) (terminals : List Vertex) (s : Size)
    (pieces : List (Piece × ℕ)) (listed : List Vertex) : Type 0 where
  pub size : s ≡ size_of grid
  pub pieces_are : pieces ≡ costed grid width over prices piece
  pub listed_are : listed ≡ terminals

-- costs of edges alone, with a price for each piece, are what the net pays
pub of_net : (grid : Grid) (width : ℕ) (over : Ground) (prices : List ℕ) (piece : ℕ) (terminals : List Vertex) (s t : Size)
    (base pieces : List (Piece × ℕ)) (listed : List Vertex) → s ≡ t → t ≡ size_of grid → pieces ≡ raised base piece
    → base ≡ pieces_with grid over (cost grid width prices) → listed ≡ terminals
    → AreOfNet grid width over prices piece terminals s pieces listed
of_net grid width over prices piece terminals s t base pieces listed size_is grid_is more are same = record {
  size = size_is ∙ grid_is;
  pieces_are = more ∙ ap (λ xs. raised xs piece) are ∙ raised_costs grid width over prices piece;
  listed_are = same;
}

pub carried : (P : Size → List (Piece × ℕ) → List Vertex → Type 0) (grid : Grid) (width : ℕ) (over : Ground) (prices : List ℕ)
    (piece : ℕ) (terminals : List Vertex) (s : Size) (pieces : List (Piece × ℕ)) (listed : List Vertex)
    → AreOfNet grid width over prices piece terminals s pieces listed → P s pieces listed
    → P (size_of grid) (costed grid width over prices piece) terminals
carried P grid width over prices piece terminals s pieces listed are holds =
    subst (P (size_of grid) (costed grid width over prices piece)) are.listed_are
    (subst (λ (xs : List (Piece × ℕ)). P (size_of grid) xs listed) are.pieces_are
    (subst (λ (t : Size). P t pieces listed) are.size holds))

pub joined_here : (grid : Grid) (width : ℕ) (over : Ground) (prices : List ℕ) (piece : ℕ) (terminals : List Vertex) (s : Size)
    (pieces : List (Piece × ℕ)) (listed : List Vertex) → AreOfNet grid width over prices piece terminals s pieces listed
    → JoinsTerminals grid over terminals → Joins s (IsAllowed pieces) (InVertices listed)
joined_here grid width over prices piece terminals s pieces listed are joins =
    subst (λ (t : Size). Joins t (IsAllowed pieces) (InVertices listed)) (sym are.size)
    (subst (λ (xs : List (Piece × ℕ)). Joins (size_of grid) (IsAllowed xs) (InVertices listed)) (sym are.pieces_are)
    (subst (λ (ts : List Vertex). Joins (size_of grid) (IsAllowed (costed grid width over prices piece)) (InVertices ts))
    (sym are.listed_are) (joined_by_costs grid width over prices piece terminals joins)))
