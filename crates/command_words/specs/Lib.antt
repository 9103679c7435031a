pub mod CommandLine
pub mod RerouteLine
pub mod MapLine
pub mod Kinds
pub mod Apps
