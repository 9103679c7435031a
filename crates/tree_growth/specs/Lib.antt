pub mod Growns
pub mod Nearest
