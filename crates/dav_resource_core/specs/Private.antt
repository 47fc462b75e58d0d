-- Words that private contracts alone name.
pub mod LabelMaps
pub mod LineReading
pub mod Playing
