pub use Rattle.bound_climb.specs.Climbs
pub use Rattle.judge_cli.specs.JudgeRun
pub use Rattle.judge_laws.specs.OpenPrices
pub mod ClimbedCerts
pub mod ClimbLines
pub mod ClimbRun
