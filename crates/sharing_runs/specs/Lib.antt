pub use Rattle.grid_graph.specs.Grids
pub use Rattle.tree_set.specs.Loads
pub mod NetSteps
pub mod Parts
pub mod SharingRuns
pub mod RepairRuns
