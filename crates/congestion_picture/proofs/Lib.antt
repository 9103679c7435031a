pub mod Ranges
pub mod Runs
pub mod Rows
