pub mod Attempts
pub mod BoxSides
pub mod BoxSteps
pub mod EdgeLists
mod GoalRests
pub mod LeastSets
pub mod RowLaws
pub mod TileTables
pub mod TreesRead
pub mod TwoTerminals
pub mod WeighedLists
