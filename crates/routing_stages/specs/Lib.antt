pub use Rattle.load_table.specs.Holdings
pub use Rattle.tree_set.specs.Loads
pub use Rattle.tree_set.specs.Routings
pub mod Limits
pub mod Phases
pub mod Settings
pub mod Whole
