-- Words that private contracts alone name.
pub mod RequestServing
