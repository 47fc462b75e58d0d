mod Passing
pub mod Streams
