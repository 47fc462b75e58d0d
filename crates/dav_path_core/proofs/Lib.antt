pub mod ClonedKeys
pub mod WordLemmas
pub mod children
pub mod index
pub mod lists
pub mod paths
pub mod trees
pub mod walks
