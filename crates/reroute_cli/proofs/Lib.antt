pub mod GivenSets
pub mod TrueRoutes
pub mod WholeRuns
