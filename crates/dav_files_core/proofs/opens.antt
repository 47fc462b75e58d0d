pub mod NumberedLemmas
pub mod OpenedLemmas
pub mod OverwrittenLemmas
pub mod ReadLemmas
pub mod WrittenLemmas
