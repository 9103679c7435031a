-- What a costing allows, as a list of pieces.
use Rattle.std.specs.Prelude.{ℕ, List}
use Rattle.grid_base.specs.declared.piece.Piece.{Piece}
use Rattle.grid_base.specs.declared.size.Size.{Size}
use Rattle.grid_graph.specs.Grids.{size_of}
use Rattle.edge_prices.specs.declared.costing.Costing.{Costing}
use Rattle.edge_prices.specs.PieceLists.{pieces_with}
use Rattle.edge_prices.specs.Weights.{cost}

-- the grid's size
abbrev pub costed_size : Costing → Size
costed_size c = size_of c.net.grid.now

-- the ground's pieces with their costs
abbrev pub costed_pieces : Costing → List (Piece × ℕ)
costed_pieces c = pieces_with c.net.grid.now c.net.ground (cost c.net.grid.now c.net.width c.net.prices.now)
