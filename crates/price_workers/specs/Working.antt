-- What is true of a worker at all times.
use Rattle.std.specs.Prelude.{◌≡◌, Bool, true}
use Rattle.edge_prices.specs.declared.kept_prices.KeptPrices.{KeptPrices}
use Rattle.edge_prices.specs.KeptLists.{grid_of, loads_of}
use Rattle.edge_prices.specs.Vectors.{IsLoadList}
use Rattle.grid_graph.specs.Grids.{entries, size_of}
use Rattle.load_table.specs.Holdings.{Holding, IsShare}
use Rattle.steiner_exact.specs.declared.tree_labels.TreeLabels.{TreeLabels}
use Rattle.steiner_exact.specs.TreeLabelWords.{AreTreeLabels}
use Rattle.price_workers.specs.Readings.{AreCloseTo}

-- the table has a word for each entry of the seen loads, none of which is above the limit; the labels are those of the grid;
-- and after a reading the seen loads are close to the own shares
pub record IsWorking (share : Holding) (kept : KeptPrices) (labels : TreeLabels) (refreshed : Bool) : Type 0 where
  pub words : share.table.words ≡ entries (grid_of kept)
  pub loaded : IsLoadList (grid_of kept) (loads_of kept)
  pub labelled : AreTreeLabels (size_of (grid_of kept)) labels
  pub share_holds : refreshed ≡ true → IsShare share
  pub close : refreshed ≡ true → AreCloseTo share.party (loads_of kept)
