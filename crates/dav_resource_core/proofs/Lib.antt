pub mod LabelLemmas
pub mod PlayingLaws
pub mod Texts
