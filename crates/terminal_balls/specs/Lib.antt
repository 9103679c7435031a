pub mod Balls
pub mod Growths
