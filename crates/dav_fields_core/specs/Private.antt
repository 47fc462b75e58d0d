pub mod ListElements
pub mod TagFronts
