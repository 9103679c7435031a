pub mod EvenParts
