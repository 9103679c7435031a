pub mod Families
pub mod Lowered
pub mod Rising
pub mod SpanSteps
