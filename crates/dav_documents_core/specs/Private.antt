pub mod LentKeys
pub mod Nesting
pub mod Rising
