pub mod CutTokens
pub mod NextTokens
pub mod Numerals
