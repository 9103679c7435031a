pub mod Ratios
