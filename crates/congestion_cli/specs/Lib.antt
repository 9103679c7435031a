pub mod MapRuns
pub mod MapHeadline
pub mod MapSources
pub mod MapRun
pub mod Drawings
pub mod NoLayers
