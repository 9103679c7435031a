pub mod Axes
pub mod ViaRests
