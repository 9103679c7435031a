pub mod Links
pub mod NodeTables
pub mod NodeRows
pub mod MergedGraphs
pub mod NetEnds
pub mod ClassGraphs
pub mod Shown
pub mod Units
