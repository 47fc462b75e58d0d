pub mod FinMapLemmas
pub mod FromLemmas
pub mod KeyedLemmas
pub mod PatchLemmas
pub mod PropertyMapLemmas
