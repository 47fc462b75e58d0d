pub mod EndedLockLemmas
pub mod FoundEntryLemmas
pub mod ImportLemmas
pub mod KeptImportLemmas
