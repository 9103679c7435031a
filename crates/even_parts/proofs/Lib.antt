pub mod PartStarts
