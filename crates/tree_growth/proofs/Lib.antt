pub mod Joins
mod Swaps
