pub mod FrontLemmas
pub mod LengthLemmas
pub mod RemovedMaps
pub mod SubtreeMaps
