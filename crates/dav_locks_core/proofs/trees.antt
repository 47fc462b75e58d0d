pub mod ClearingLemmas
pub mod GrowingLemmas
pub mod PruningLemmas
pub mod StandingLemmas
pub mod WayLemmas
