pub mod Between
pub mod Kept
pub mod Turns
pub mod Exchanges
