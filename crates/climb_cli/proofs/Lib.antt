pub mod BlockLoads
pub mod VectorCosts
pub mod NewBounds
pub mod ClimbRuns
