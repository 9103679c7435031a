pub use Rattle.sharing_runs.specs.Parts
pub use Rattle.sharing_runs.specs.RepairRuns
pub mod Exchanged
pub mod RepairHistories
pub mod RoundsDone
