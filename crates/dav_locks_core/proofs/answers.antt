pub mod ConflictLemmas
pub mod CoveringTokens
pub mod DeepConflictLemmas
pub mod DiscoverLemmas
pub mod FrontCountLemmas
pub mod ListingLemmas
pub mod LockListLemmas
pub mod PlacingLemmas
