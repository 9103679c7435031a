pub mod Extents
pub mod LowestLayers
pub mod Spreads
