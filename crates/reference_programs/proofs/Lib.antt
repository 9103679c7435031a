pub mod LeastOver
pub mod LeastSets
pub mod Lowering
pub mod Marks
pub mod Repeats
pub mod RootLabels
