pub mod ExportWork
pub mod Recorded
