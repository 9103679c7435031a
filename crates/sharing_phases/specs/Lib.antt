pub use Rattle.price_workers.specs.Readings
pub use Rattle.sharing_runs.specs.Parts
pub use Rattle.sharing_runs.specs.SharingRuns
pub mod Histories
pub mod PhaseWords
