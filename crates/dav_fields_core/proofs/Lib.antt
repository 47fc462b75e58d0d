pub mod BaseLemmas
pub mod Collecting
pub mod DateTextLemmas
pub mod DestinationLemmas
pub mod DistinctTokens
pub mod FieldLemmas
mod FieldRows
pub mod FileTagLemmas
pub mod FrontedLemmas
pub mod IfSaysLemmas
pub mod InternetDateLemmas
pub mod LatestLemmas
pub mod ListedTagLemmas
pub mod OneDestinationLaws
pub mod OnePathLaws
pub mod OneSenderLaws
pub mod PreconditionLaws
mod PreconditionRows
pub mod ReadMarks
pub mod RefusalLemmas
pub mod TagFrontLemmas
pub mod TagGrammarLaws
pub mod TaggedLemmas
pub mod TypeLemmas
