pub mod WholeMaps
pub mod Drawables
