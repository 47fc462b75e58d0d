-- Texts, what stands between their commas, and the values that they are written as.
pub mod JoinedLemmas
pub mod LanguageLemmas
pub mod PieceLemmas
pub mod TextLemmas
pub mod WrittenLemmas
