pub mod Entries
pub mod Parties
pub mod Soundness
pub mod Events
pub mod Runs
