pub mod KeptCosts
pub mod NearestWithin
