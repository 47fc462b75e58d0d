pub mod AskedNameLemmas
pub mod AskedPropertyLemmas
pub mod ChildLemmas
pub mod ElementPlaceLemmas
mod ElementPlaceRows
mod ElementRows
pub mod FixedLemmas
pub mod ForestLemmas
pub mod FragmentLemmas
pub mod KeptLockTexts
pub mod KeptReadingLaws
mod LockInfoRows
pub mod MapValueLemmas
pub mod NamedLemmas
pub mod NamingLemmas
pub mod PatchDocumentLemmas
mod PatchRows
pub mod PieceLemmas
pub mod PlaceOrderLemmas
pub mod PropertyLemmas
pub mod QuestionLemmas
pub mod ReadChildLemmas
pub mod ReadPlaceLemmas
pub mod RefusalReadingLaws
pub mod RootPlaceLemmas
pub mod SearchLemmas
pub mod SearchedLemmas
pub mod SentOwnerLaws
pub mod SentUpdateLaws
pub mod TimeLeftLaws
pub mod ToldDocumentLemmas
pub mod VisibleTextLemmas
pub mod WordLemmas
pub mod WritingLemmas
pub mod WrittenTextLemmas
