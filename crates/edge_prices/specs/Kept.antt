-- A price list that is kept.
use Rattle.std.specs.Prelude.{ℕ, ◌≡◌, ◌*◌, Bool, false, List, length, Option}
use Rattle.grid_graph.specs.declared.grid.Grid.{Grid}
use Rattle.grid_graph.specs.Flat.{tiles}
use Rattle.grid_graph.specs.Grids.{size_of, entries}
use Rattle.edge_prices.specs.declared.least_prices.LeastPrices.{LeastPrices}
use Rattle.edge_prices.specs.declared.top_index.TopIndex.{TopIndex}
use Rattle.edge_prices.specs.Floors.{AreLeast}
use Rattle.edge_prices.specs.TilePrices.{AreTilePrices}
use Rattle.edge_prices.specs.TopIndices.{IsTopIndex}
use Rattle.edge_prices.specs.Vectors.{index_of, price_vector, IsLoadList}

-- the prices, their greatest index and how many have it, their least numbers and the least over tile edges are those of these loads
pub record IsCurrent (g : Grid) (loads : List ℕ) (scale : ℕ) (budget : Option ℕ) (prices : List ℕ) (top : TopIndex) (least : LeastPrices) (over : List ℕ) : Type 0 where
  pub greatest : IsTopIndex (index_of g loads scale budget) (entries g) top
  pub vector : prices ≡ price_vector g loads scale budget
  pub lowest : AreLeast g prices least
  pub tiled : AreTilePrices g prices over

-- there is a load and a price for each entry and a price for each tile edge, and unless they are stale the prices are current
pub record IsKept (g : Grid) (loads : List ℕ) (scale : ℕ) (budget : Option ℕ) (prices : List ℕ) (top : TopIndex) (least : LeastPrices) (over : List ℕ) (stale : Bool) : Type 0 where
  pub loaded : IsLoadList g loads
  pub long : length prices ≡ entries g
  pub wide : length over ≡ 2 * tiles (size_of g)
  pub fresh : stale ≡ false → IsCurrent g loads scale budget prices top least over
