pub mod Copies
pub mod Events
pub mod Handling
pub mod Sizes
