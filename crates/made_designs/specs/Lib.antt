pub mod Layers
pub mod MadeContents
