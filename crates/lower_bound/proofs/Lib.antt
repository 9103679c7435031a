mod Reach
mod Shares
pub mod Crossing
mod ManyBounds
pub mod Costed
mod AlikeWidths
mod HalvesOf
mod Mapped
mod LedWeights
mod Filling
mod Farthest
pub mod LowBounds
pub mod TileBounds
pub mod CostLists
pub mod ClassBounds
pub mod FreeJoins
pub mod Represented
pub mod NearestPairs
