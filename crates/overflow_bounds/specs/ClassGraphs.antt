-- What the nets of one width and one ground pay, on a graph of few nodes.
use Rattle.std.specs.Prelude.{ℕ, ◌≡◌, List}
use Rattle.grid_base.specs.declared.piece.Piece.{Piece}
use Rattle.grid_base.specs.declared.size.Size.{Size}
use Rattle.grid_graph.specs.declared.grid.Grid.{Grid}
use Rattle.grid_graph.specs.declared.ground.Ground.{Ground}
use Rattle.grid_graph.specs.Flat.{IsFlatOf}
use Rattle.grid_graph.specs.Grids.{size_of}
use Rattle.grid_graph.specs.TilePieces.{AreLeastBetweenTiles}
use Rattle.edge_prices.specs.Weights.{AreEdgePrices}
use Rattle.lower_bound.specs.Costs.{costed}
use Rattle.overflow_bounds.specs.declared.class_graph.ClassGraph.{ClassGraph}
use Rattle.overflow_bounds.specs.declared.merged_graph.MergedGraph.{MergedGraph}
use Rattle.overflow_bounds.specs.MergedGraphs.{IsMerged}

-- a graph of the tiles of a grid, at the least costs between them for nets of a width and a ground
pub record IsGraphOfClass (g : Grid) (width : ℕ) (over : Ground) (prices : List ℕ) (m : MergedGraph) : Type 0 where
  pub flat : Size
  pub flat_of : IsFlatOf flat (size_of g)
  pub across : List (Piece × ℕ)
  pub between : AreLeastBetweenTiles (size_of g) (costed g width over prices 0) across
  pub merged : IsMerged flat across m

-- the costs have room for the tiles of the grid, and the graph is that of the width and the ground that it is told to be of
pub record IsCurrentGraph (c : ClassGraph) : Type 0 where
  pub priced : AreEdgePrices c.grid.now c.prices.now
  pub flat_of : IsFlatOf c.costs.size (size_of c.grid.now)
  pub graph : IsGraphOfClass c.grid.now c.width c.ground c.prices.now c.graph

-- the graph is that of a class at these prices
pub record IsGraphAt (g : Grid) (prices : List ℕ) (c : ClassGraph) : Type 0 where
  pub grid : c.grid.now ≡ g
  pub prices_of : c.prices.now ≡ prices
  pub current : IsCurrentGraph c
