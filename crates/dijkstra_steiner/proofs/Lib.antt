pub mod Closed
pub mod OnStack
pub mod MaskOffers
pub mod Starting
pub mod Settling
