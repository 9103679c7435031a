pub use Rattle.load_core.specs.Entries
pub use Rattle.load_core.specs.Parties
pub use Rattle.load_core.specs.Soundness
pub mod Blocks
pub mod Holdings
pub mod Runs
pub mod Shortened
pub mod Tables
