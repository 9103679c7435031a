pub use Rattle.eco_route.specs.EcoSteps
pub use Rattle.eco_route.specs.EditRefusals
pub use Rattle.ispd_reader.specs.Designs
pub mod EcoChains
pub mod EditChains
pub mod TextEdits
