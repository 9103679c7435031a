pub mod Bundles
pub mod Cuts
pub mod Fullness
pub mod Links
pub mod TileEdges
pub mod TileNets
pub mod Totals
pub mod Uses
