pub mod PricedEdges
pub mod FindingParts
pub mod NewCerts
pub mod TwoLists
pub mod WholeRuns
pub mod ZeroBounds
