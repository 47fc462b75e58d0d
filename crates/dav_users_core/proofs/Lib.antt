pub mod CostLemmas
pub mod CryptLemmas
pub mod FileLemmas
pub mod Texts
