pub mod DistanceLaws
