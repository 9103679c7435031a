pub mod Distances
pub mod Backwards
pub mod LedSearches
pub mod Sources
pub mod NearestGoals
pub mod TileSets
