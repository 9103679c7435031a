pub mod JudgedFiles
pub mod JudgedRuns
