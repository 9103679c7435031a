pub mod Fractions
pub mod Limits
pub mod LowestTerms
