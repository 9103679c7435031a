pub mod Merging
pub mod EvenSteps
pub mod Lifted
pub mod NetLows
pub mod MoreMasks
pub mod Shows
pub mod Splits
pub mod Units
