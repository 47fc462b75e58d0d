pub mod AnswerLemmas
pub mod AnswerStatuses
pub mod DateLaws
pub mod DecidingLaws
pub mod DescriptionTextLemmas
pub mod DescriptionTexts
pub mod FileHistoryLemmas
pub mod FrameLemmas
pub mod HoldingLaws
pub mod KeptStoreLaws
pub mod LockAnswerLemmas
pub mod LockTextLemmas
pub mod LockTimeLaws
pub mod MomentLaws
pub mod MomentLemmas
mod MomentRows
pub mod PatchAnswerLemmas
pub mod PathFrameLaws
pub mod PathHistoryLemmas
pub mod PromiseLaws
mod SameLocks
pub mod SentAnswerLemmas
pub mod SentFieldLemmas
pub mod TagLaws
mod TagRows
pub mod ToldDocumentLaws
pub mod TransferAnswerLemmas
pub mod TransferLaws
pub mod UntoldLemmas
