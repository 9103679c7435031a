pub mod Uses
pub mod Joined
pub mod Blocks
