pub mod TileUses
pub mod Classes
pub mod Cells
pub mod Rasters
pub mod CutEdges
