pub mod DigitLists
pub mod LowestFractions
pub mod ReadBackTokens
pub mod ReadBackCerts
