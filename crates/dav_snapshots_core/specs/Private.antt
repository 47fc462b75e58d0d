-- Words that private contracts alone name.
pub mod Heads
pub mod LateMoments
pub mod MetPaths
pub mod ReadSnapshots
