pub mod Adding
pub mod EndedLocks
pub mod FoundEntries
pub mod ImportedEntries
pub mod Importing
pub mod KeptImports
