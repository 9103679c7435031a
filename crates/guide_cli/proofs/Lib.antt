pub mod FarDesigns
pub mod GuidedRuns
