pub mod LabelWords
pub mod Spanning
pub mod LabelParts
pub mod LedSearches
pub mod Sources
pub mod Nearest
