pub mod AgreeingLemmas
pub mod DoneLemmas
pub mod FollowingLemmas
pub mod GrownLemmas
pub mod PlaceLemmas
pub mod RestoredLaws
