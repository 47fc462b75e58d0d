pub mod LookRuns
pub mod NamedRuns
