pub use Rattle.price_workers.specs.Readings
pub use Rattle.routing_stages.specs.Phases
pub use Rattle.sharing_runs.specs.Parts
pub mod Histories
pub mod Passes
pub mod PassTurns
