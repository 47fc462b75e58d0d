-- The reader of `If` values on lists, its grammar, and the loops of the code.
pub mod BlankLemmas
pub mod ConditionLemmas
pub mod EnclosedLemmas
pub mod GroupLemmas
pub mod IfLoopLemmas
pub mod IfRows
pub mod ItemLemmas
pub mod ResolvingLemmas
pub mod ScanLemmas
pub mod Utf8Lemmas
pub mod WordLemmas
