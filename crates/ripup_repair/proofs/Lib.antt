mod Common
pub mod Positions
pub mod Exchanges
pub mod RepairNets
pub mod Overflows
pub mod RoundFacts
pub mod RoundRuns
