pub mod FrontLemmas
pub mod LookLemmas
