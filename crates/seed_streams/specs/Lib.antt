pub mod SeedWords
pub mod DrawnStreams
