-- Words that private contracts alone name.
pub mod Contents
pub mod Entries
pub mod Listed
pub mod Numbered
pub mod PropertyChanges
pub mod PropertyMaps
pub mod FileRepresents
pub mod Stored
pub mod TreeCalls
