pub mod Blocks
pub mod HeldAfter
pub mod KeptRule
pub mod RunSteps
pub mod ShortValues
