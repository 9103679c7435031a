pub mod Estimates
pub mod Labels
pub mod Markets
pub mod Offers
pub mod Searches
pub mod Standings
pub mod Trials
