pub mod Asking
pub mod MadeThenMoved
pub mod OneSize
pub mod SizeLemmas
