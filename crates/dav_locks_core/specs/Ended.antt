-- Which locks a list loses (RFC 4918 section 6.4).
use Rattle.std.specs.Prelude.{◌≡◌, ◌⊎◌, List, [], ◌∷◌, Bool, true}
use Rattle.dav_locks_core.specs.Lock.{Lock}

-- the same lock, but for its timeout and the moment at which that ends
abbrev pub SameButTimes : Lock → Lock → Type 0
SameButTimes a b = b ≡ record a { timeout_at = b.timeout_at; timeout = b.timeout }

-- New is old without some locks that may end by the test, in the same order, but for timeouts, and behind them any others.
abbrev pub LocksEnded : (may_end : Lock → Bool) (old new : List Lock) → Type 0
LocksEnded may_end [] new = Unit {0}
LocksEnded may_end (a ∷ old) [] = (may_end a ≡ true) × LocksEnded may_end old []
LocksEnded may_end (a ∷ old) (b ∷ new) = (SameButTimes a b × LocksEnded may_end old new) ⊎ ((may_end a ≡ true) × LocksEnded may_end old (b ∷ new))

-- the locks of the first list stand in the second, unchanged and in the same order, maybe among others
abbrev pub StandIn : (old new : List Lock) → Type 0
StandIn [] new = Unit {0}
StandIn (a ∷ old) [] = ⊥
StandIn (a ∷ old) (b ∷ new) = ((b ≡ a) × StandIn old new) ⊎ StandIn (a ∷ old) new
