pub mod EditTexts
pub mod EcoFiles
pub mod Reachable
pub mod StepsMade
pub mod RoutedIds
pub mod EcoRuns
