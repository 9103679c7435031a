pub mod Boxes
pub mod FlatPieces
pub mod GoalRests
pub mod LeastSets
pub mod Reading
pub mod Roots
pub mod RowLows
pub mod TreeLabelWords
