pub mod LightTrees
pub mod SpanningLinks
pub mod Exchanges
pub mod Growths
pub mod Aheads
