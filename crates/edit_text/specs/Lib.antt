pub use Rattle.grid_graph.specs.Layouts
pub use Rattle.text_scan.specs.Tokens
pub mod EditFaults
pub mod EditRanges
pub mod EditReads
pub mod Limits
pub mod ReadEdits
