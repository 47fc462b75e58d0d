pub mod Anew
pub mod Gathering
pub mod Owning
pub mod WalkPlaces
