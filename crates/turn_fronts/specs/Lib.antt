pub mod LineViews
pub mod LogLines
pub mod LogTaking
pub mod Looking
pub mod NamedUsers
pub mod Private
