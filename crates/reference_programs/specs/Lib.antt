pub mod LeastOver
pub mod LeastSets
pub mod LowerNumbers
pub mod Marks
