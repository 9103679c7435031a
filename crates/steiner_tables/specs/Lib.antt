pub mod Masks
pub mod Tables
pub mod RowWork
pub mod KeptNumbers
pub mod Keeping
pub mod Kept
pub mod NoFamilies
pub mod LoneRows
