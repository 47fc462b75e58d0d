pub mod AllLaws
pub mod DiskMoments
pub mod LookLaws
pub mod Looks
pub mod RoundSteps
pub mod Stages
