pub mod UnavoidableRuns
pub mod FoundHeadline
pub mod Findings
pub mod UnavoidableRun
pub mod Words
pub mod Report
pub mod PricedEdges
pub mod ShownLists
