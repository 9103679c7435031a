pub mod EndPlaces
pub mod EndSets
pub mod Merging
pub mod Numbered
pub mod Ranges
pub mod Tight
