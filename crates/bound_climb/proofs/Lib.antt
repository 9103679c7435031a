pub mod ClimbBests
pub mod ClimbLoads
pub mod ClimbOffers
pub mod ClimbParts
pub mod ClimbStates
pub mod ClimbSteps
mod Carried
mod Chosen
mod Halves
mod LabelTables
mod Low
mod Proofs
mod Right
