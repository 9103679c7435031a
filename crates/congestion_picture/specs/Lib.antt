pub mod Pictures
pub mod Heads
pub mod CellMaps
pub mod Paths
pub mod CutLines
pub mod ScaleBars
pub mod Tables
