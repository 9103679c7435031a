pub mod Runs
pub mod Faults
pub mod Places
pub mod Marks
pub mod Quiet
pub mod Pens
