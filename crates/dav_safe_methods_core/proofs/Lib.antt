pub mod Acting
pub mod DescribingLemmas
pub mod FindingLemmas
pub mod FolderPageLemmas
pub mod GetMethodLemmas
pub mod SentLemmas
