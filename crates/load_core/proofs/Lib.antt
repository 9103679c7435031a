pub mod Entries
pub mod Soundness
pub mod Fitness
pub mod Joining
pub mod Parts
pub mod Runs
