pub mod ifs
pub mod lists
pub mod numbers
pub mod Rows
pub mod tags
pub mod texts
