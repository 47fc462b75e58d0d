pub mod Broken
pub mod DiskLookLaws
pub mod DiskLooks
pub mod ReadRounds
pub mod WholeRounds
