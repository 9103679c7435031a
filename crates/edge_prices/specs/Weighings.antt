-- What a weighing allows, as a list of pieces.
use Rattle.std.specs.Prelude.{ℕ, List}
use Rattle.grid_base.specs.declared.piece.Piece.{Piece}
use Rattle.grid_base.specs.declared.size.Size.{Size}
use Rattle.grid_graph.specs.Grids.{size_of}
use Rattle.edge_prices.specs.declared.weighing.Weighing.{Weighing}
use Rattle.edge_prices.specs.PieceLists.{pieces_with}
use Rattle.edge_prices.specs.TilePrices.{least_weight_over}
use Rattle.edge_prices.specs.Weights.{piece_weight}

-- the grid's size
abbrev pub weighed_size : Weighing → Size
weighed_size w = size_of w.net.grid.now

-- the weight of each piece
abbrev pub weight_by : Weighing → Piece → ℕ
weight_by w = piece_weight w.net.grid.now w.net.width w.net.prices.now

-- the ground's pieces with their weights
abbrev pub weighed_pieces : Weighing → List (Piece × ℕ)
weighed_pieces w = pieces_with w.net.grid.now w.net.ground (weight_by w)

-- what the edges over a tile edge weigh at least
abbrev pub weight_over : Weighing → ℕ → ℕ
weight_over w = least_weight_over w.net.grid.now w.net.prices.now w.demand
