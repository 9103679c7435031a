mod Common
pub mod LightSteps
pub mod MarkSteps
pub mod ReadSteps
pub mod Taken
pub mod TurnFacts
pub mod NetLoads
