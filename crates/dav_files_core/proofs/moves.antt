pub mod MovedLemmas
pub mod MovingLemmas
pub mod RelocatingLemmas
pub mod RenamedLemmas
