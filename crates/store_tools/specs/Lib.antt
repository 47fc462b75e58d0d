pub mod Exports
pub mod Private
