-- What a net's sets cost at a price list: in min-max resource sharing, after Müller, Radke and Vygen, "Faster min-max resource
-- sharing in theory and practice" (2011), the sum over the resources of the price and how much the set uses.
use Rattle.std.specs.Prelude.{ℕ, ◌+◌, ◌*◌, List, length}
use Rattle.std.specs.List.{sum_by}
use Rattle.grid_base.specs.declared.piece.Piece.{Piece}
use Rattle.grid_base.specs.declared.vertex.Vertex.{Vertex}
use Rattle.grid_base.specs.Walks.{InVertices}
use Rattle.grid_graph.specs.declared.grid.Grid.{Grid}
use Rattle.grid_graph.specs.declared.ground.Ground.{Ground}
use Rattle.grid_graph.specs.Grids.{size_of}
use Rattle.edge_prices.specs.PieceLists.{pieces_with}
use Rattle.edge_prices.specs.Weights.{cost}
use Rattle.label_search.specs.Sets.{IsLeastWeight}

-- the cost of a set for a net of this width: over its open edges the price and what the net uses, and for each piece the
-- wirelength's price
abbrev pub set_cost : Grid → ℕ → List ℕ → ℕ → List Piece → ℕ
set_cost g width prices per_piece set = sum_by (cost g width prices) set + per_piece * length set

-- the pieces of the net's ground, each with the cost of it alone
abbrev pub costed : Grid → ℕ → Ground → List ℕ → ℕ → List (Piece × ℕ)
costed g width over prices per_piece = pieces_with g over (λ p. cost g width prices p + per_piece)

-- the least cost of these vertices: that of a subset of the net's ground that joins them, over all such subsets
abbrev pub IsLeastCost : Grid → ℕ → Ground → List ℕ → ℕ → List Vertex → ℕ → Type 0
IsLeastCost g width over prices per_piece terminals least =
    IsLeastWeight (size_of g) (costed g width over prices per_piece) (InVertices terminals) least
