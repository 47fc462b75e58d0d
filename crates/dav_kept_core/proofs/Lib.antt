pub mod BareAnswers
pub mod BareRuns
pub mod LifeLaws
pub mod RoomLemmas
pub mod StandLemmas
