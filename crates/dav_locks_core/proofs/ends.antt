pub mod EndLemmas
pub mod ExpiringLemmas
pub mod ForgettingLemmas
