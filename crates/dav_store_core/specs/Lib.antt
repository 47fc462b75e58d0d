pub mod Compacting
pub mod Loading
pub mod StandingFor
