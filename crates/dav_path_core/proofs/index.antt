pub mod IndexLemmas
pub mod IndexMaps
pub mod NameMaps
pub mod Naming
pub mod Steps
