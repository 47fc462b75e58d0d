pub mod SubtreeLemmas
