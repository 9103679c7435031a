pub mod FieldTexts
pub mod Levels
pub mod Numbered
pub mod WordCounts
