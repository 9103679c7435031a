pub mod Picks
pub mod ChosenRoutings
