pub mod CompactLemmas
pub mod KeepLemmas
pub mod LoadLemmas
pub mod LongLemmas
pub mod MomentLemmas
pub mod SnapshotLemmas
