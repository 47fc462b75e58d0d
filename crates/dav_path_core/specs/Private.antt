-- Words of private fields and of private contracts: no contract of a public call speaks of them.
pub mod ChildNames
pub mod Chains
pub mod Keeping
pub mod Nodes
pub mod Tables
pub mod Trimming
pub mod Walked
