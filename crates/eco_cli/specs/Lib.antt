pub use Rattle.judge_cli.specs.MeasureRun
pub use Rattle.eco_laws.specs.EcoChains
pub use Rattle.eco_laws.specs.EditChains
pub mod RoutedCounts
pub mod Editable
pub mod EcoLines
pub mod EcoInputs
pub mod EcoRun
