pub mod Private
pub mod SetBack
pub mod SnapshotReading
pub mod SnapshotText
pub mod Snapshots
pub mod WrittenSnapshots
