pub mod AloneLaws
pub mod BelowLaws
pub mod Frame
pub mod RunLaws
pub mod Serving
pub mod StepLaws
pub mod Telling
