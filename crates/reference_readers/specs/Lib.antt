pub mod ReferenceBlocks
pub mod ReferenceNumbers
pub mod Words
