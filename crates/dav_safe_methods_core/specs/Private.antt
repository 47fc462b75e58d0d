pub mod KnownFields
pub mod Telling
