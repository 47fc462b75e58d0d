pub mod AboveLemmas
pub mod ListedLemmas
pub mod SiblingLemmas
pub mod WalkLemmas
