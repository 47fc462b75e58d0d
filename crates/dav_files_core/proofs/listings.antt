pub mod DescribingLemmas
pub mod ListedLemmas
pub mod MemberLemmas
