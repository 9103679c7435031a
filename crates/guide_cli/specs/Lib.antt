pub use Rattle.guide_text.specs.GuideText
pub use Rattle.guide_text.specs.Guides
pub use Rattle.judge_cli.specs.MeasureRun
pub mod NearDesigns
pub mod GuideLines
pub mod GuideRun
