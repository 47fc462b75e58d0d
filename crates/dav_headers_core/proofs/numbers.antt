-- Numbers, and the ranges and timeouts that hold them, which are read as they are written.
pub mod DashLemmas
pub mod NumberLemmas
pub mod RangeLaws
pub mod TimeoutLaws
