pub mod Growing
pub mod Lowering
pub mod MaskSums
pub mod Offering
pub mod Shares
pub mod Taking
