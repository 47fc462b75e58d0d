-- Plain lists, values that may be missing, and what calls answer by them.
pub mod EveryLemmas
pub mod GivesLemmas
pub mod OptionalLemmas
pub mod PairwiseLemmas
