-- Entity tags, and what an `If-Range` says.
pub mod IfRangeLemmas
pub mod StarLemmas
pub mod TagLemmas
