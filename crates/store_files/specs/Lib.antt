pub mod FoundStores
pub mod SetBackStores
pub mod Tellings
pub mod WrittenStores
