pub mod MoatWords
pub mod RowLists
pub mod TableWords
