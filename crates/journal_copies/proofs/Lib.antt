pub mod Breaking
pub mod Coming
pub mod Wholes
