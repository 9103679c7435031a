pub mod DistanceLows
pub mod DistanceWords
