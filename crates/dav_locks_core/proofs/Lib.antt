pub mod Rows
pub mod answers
pub mod ends
pub mod laws
pub mod lists
pub mod trees
pub mod walks
