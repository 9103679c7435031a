pub mod Stacks
pub mod MaskSearches
pub mod Closed
pub mod LabelWords
