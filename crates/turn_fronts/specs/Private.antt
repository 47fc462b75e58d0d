pub mod LookTurns
pub mod NamedTurns
