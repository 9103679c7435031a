pub use Rattle.gr_desk.specs.Pens
pub use Rattle.seed_streams.specs.SeedWords
pub mod Shapes
pub mod RandomWords
pub mod MadeNets
pub mod MadeAdjustments
pub mod MadeText
