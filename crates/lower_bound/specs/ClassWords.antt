-- What the nets of one width and one ground pay between tiles.
use Rattle.std.specs.Prelude.{ℕ, ◌≡◌, ◌<◌, List}
use Rattle.grid_base.specs.declared.piece.Piece.{Piece}
use Rattle.grid_base.specs.declared.size.Size.{Size}
use Rattle.grid_graph.specs.declared.grid.Grid.{Grid}
use Rattle.grid_graph.specs.declared.ground.Ground.{Ground}
use Rattle.grid_graph.specs.Flat.{IsFlatOf}
use Rattle.grid_graph.specs.Grids.{size_of, demand_on, edge_numbers, IsNetWidth}
use Rattle.grid_graph.specs.TilePieces.{AreLeastBetweenTiles}
use Rattle.edge_prices.specs.PieceLists.{IsWeightList}
use Rattle.edge_prices.specs.Weights.{AreEdgePrices}
use Rattle.landmarks.specs.Numbers.{AreLandmarks}
use Rattle.least_weights.specs.KeptCosts.{AreKeptCosts}
use Rattle.lower_bound.specs.declared.class_costs.ClassCosts.{ClassCosts}
use Rattle.lower_bound.specs.Costs.{costed}
use Rattle.lower_bound.specs.Representatives.{AreRepresentatives}
use Rattle.lower_bound.specs.TileCosts.{costs_between}

-- the list holds the least costs between the tiles of a grid, at prices of the edges alone
pub record AreClassCosts (g : Grid) (width : ℕ) (over : Ground) (prices : List ℕ) (flat : Size)
    (across : List (Piece × ℕ)) : Type 0 where
  pub flat_of : IsFlatOf flat (size_of g)
  pub wide : IsNetWidth g width
  pub priced : AreEdgePrices g prices
  pub listed : IsWeightList (size_of g) (costed g width over prices 0)
  pub between : AreLeastBetweenTiles (size_of g) (costed g width over prices 0) across

-- the size of the flat grid
abbrev pub tiles_size : ClassCosts → Size
tiles_size c = c.costs.size

-- the costs, what stands for the tiles, the costs that are kept and the landmarks are those of the width and the ground that
-- they are told to be of
pub record IsCurrentClass (c : ClassCosts) : Type 0 where
  pub costs : AreClassCosts c.grid.now c.width c.ground c.prices.now (tiles_size c) (costs_between c.costs.costs.items)
  pub representatives : AreRepresentatives (tiles_size c) (costs_between c.costs.costs.items) c.representatives.of.parents.items
  pub kept : AreKeptCosts (tiles_size c) (costs_between c.costs.costs.items) c.kept.entries.items
  pub landmarks : AreLandmarks (tiles_size c) (costs_between c.costs.costs.items) c.landmarks

-- nets of two widths use as much of each edge
abbrev pub UseAsMuch : Grid → ℕ → ℕ → Type 0
UseAsMuch g one other = (e : ℕ) → e < edge_numbers g → demand_on g one e ≡ demand_on g other e

-- nothing but what is kept changed
pub record KeepsClass (old new : ClassCosts) : Type 0 where
  pub grid : new.grid.now ≡ old.grid.now
  pub prices : new.prices.now ≡ old.prices.now
  pub width : new.width ≡ old.width
  pub ground : new.ground ≡ old.ground
  pub costs : new.costs ≡ old.costs
  pub representatives : new.representatives ≡ old.representatives

-- the pieces of the class, each with what it costs
abbrev pub class_pieces : ClassCosts → List (Piece × ℕ)
class_pieces c = costed c.grid.now c.width c.ground c.prices.now 0
