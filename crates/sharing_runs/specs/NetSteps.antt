-- A step: how a net is routed at the prices of the loads that are seen. It is the block solver of min-max resource
-- sharing in Müller, Radke and Vygen, "Faster min-max resource sharing in theory and practice" (2011): a least Steiner tree.
use Rattle.std.specs.Prelude.{ℕ, ◌≤◌, ◌<◌, List, length, Option}
use Rattle.std.specs.List.{sum_by}
use Rattle.grid_base.specs.declared.piece.Piece.{Piece}
use Rattle.grid_base.specs.Walks.{InVertices}
use Rattle.grid_graph.specs.declared.grid.Grid.{Grid}
use Rattle.grid_graph.specs.declared.ground.Ground.{Ground}
use Rattle.grid_graph.specs.declared.net_spec.NetSpec.{NetSpec}
use Rattle.grid_graph.specs.Grids.{size_of}
use Rattle.edge_prices.specs.Vectors.{price_vector}
use Rattle.edge_prices.specs.Weights.{piece_weight}
use Rattle.edge_prices.specs.PieceLists.{pieces_with}
use Rattle.label_search.specs.Sets.{IsLeastWeight}
use Rattle.tree_set.specs.Order.{IsRising}
use Rattle.tree_set.specs.Routings.{IsRoute}
use Rattle.shortest_paths.specs.Spanning.{Link, IsSpanningTree, links_weight}
use Rattle.steiner_tables.specs.Masks.{few_terminals}

-- the pieces of a ground with their weights for a net of this width at these prices
abbrev pub weighed : Grid → ℕ → Ground → List ℕ → List (Piece × ℕ)
weighed g width over prices = pieces_with g over (piece_weight g width prices)

-- the weight of a set of pieces: the sum of the weights of its pieces
abbrev pub set_weight : Grid → ℕ → List ℕ → List Piece → ℕ
set_weight g width prices pieces = sum_by (piece_weight g width prices) pieces

-- with at most five terminals, no set of allowed pieces that joins them weighs less
abbrev pub IsLightest : Grid → NetSpec → Ground → List ℕ → List Piece → Type 0
IsLightest g n over prices tree =
    IsLeastWeight (size_of g) (weighed g n.width over prices) (InVertices n.terminals) (set_weight g n.width prices tree)

-- with more, the set weighs at most what every spanning tree by distances weighs
abbrev pub IsLight : Grid → NetSpec → Ground → List ℕ → List Piece → Type 0
IsLight g n over prices tree =
    (links : List Link)
    → IsSpanningTree (size_of g) (weighed g n.width over prices) n.terminals links
    → set_weight g n.width prices tree ≤ links_weight links

-- the set is a route of the net that is light at these prices
pub record IsStepAt (g : Grid) (n : NetSpec) (prices : List ℕ) (tree : List Piece) : Type 0 where
  pub set : IsRising tree
  pub route : IsRoute g n tree
  pub lightest : length n.terminals ≤ few_terminals → IsLightest g n route.over prices tree
  pub light : few_terminals < length n.terminals → IsLight g n route.over prices tree

-- a step from seen loads: at the price vector of these loads
abbrev pub IsStep : Grid → NetSpec → List ℕ → ℕ → Option ℕ → List Piece → Type 0
IsStep g n seen scale budget tree = IsStepAt g n (price_vector g seen scale budget) tree
