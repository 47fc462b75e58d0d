-- How many guesses are let through, and how many of them are wrong (own). Moments are in nanoseconds.
use Rattle.std.specs.Prelude.{◌≡◌, ◌≤◌, ◌+◌, ◌*◌, ◌⊎◌, ◌&&◌, ◌||◌, ℕ, Bool, Option, Some, None, is_some, max, nat_eq, nat_le, unwrap_or, if◌then◌else◌}
use Rattle.std.specs.HashMap.{get}
use Rattle.dav_login_core.specs.declared.buckets.Bucket.{Bucket}
use Rattle.dav_login_core.specs.declared.guesses.Guesses.{Guesses}

abbrev pub second : ℕ
second = 1000000000

-- ---- one bucket: five guesses, and one more each second

-- a minute has passed since its last wrong guess
abbrev pub has_rested : Bucket → ℕ → Bool
has_rested b now = nat_le b.rested now

-- a whole guess is left in it: it is full again within four seconds
abbrev pub has_one : Bucket → ℕ → Bool
has_one b now = nat_le b.full (now + 4 * second)

-- it lets a guess through
abbrev pub has_guess : Bucket → ℕ → Bool
has_guess b now = has_rested b now || has_one b now

-- One guess is taken from it. It is full again a second later than it was to be, and has rested after a minute.
abbrev pub behind_guess : Bucket → ℕ → Bucket
behind_guess b now = record { full = (if has_rested b now then now else max b.full now) + second; rested = now + 60 * second }

abbrev pub fresh : Bucket
fresh = record { full = 0; rested = 0 }

-- ---- all together: twenty hashes of passwords, and twenty more each second

-- the time in which the common bucket gets one
abbrev pub share : ℕ
share = 50000000

-- one is left in the common bucket, which is full at a moment
abbrev pub has_share : ℕ → ℕ → Bool
has_share common now = nat_le common (now + 19 * share)

-- ten are left in it
abbrev pub has_half : ℕ → ℕ → Bool
has_half common now = nat_le common (now + 10 * share)

-- one is taken from it
abbrev pub common_behind_hash : ℕ → ℕ → ℕ
common_behind_hash common now = max common now + share

-- ---- who may guess

-- One guess is let through at this moment, where the common bucket has one: for who had no wrong one for a minute its last one, too, and else one of its upper half, where the own bucket has one.
abbrev pub may : Bucket → ℕ → ℕ → Bool
may b common now = if has_rested b now then has_share common now else (has_one b now && has_half common now)

-- what is known: the buckets of those that have one of their own, by their labels; the bucket of all others; when the common one is full; and the last moment
pub record GuessState : Type 0 where
  pub table : ℕ → Option Bucket
  pub strangers : Bucket
  pub common : ℕ
  pub latest : ℕ

abbrev pub guessing : Guesses → GuessState
guessing g = record { table = λ q. get nat_eq g.buckets q; strangers = g.strangers; common = g.common; latest = g.latest }

-- the bucket that pays for a label
abbrev pub payer : GuessState → ℕ → Bucket
payer s label = unwrap_or (s.table label) s.strangers

abbrev pub may_guess : GuessState → ℕ → Bool
may_guess s label = may (payer s label) s.common s.latest

-- ---- what changes it

-- it is no bucket, or one that has rested
abbrev pub IsRested : Option Bucket → ℕ → Type 0
IsRested None now = Unit {0}
IsRested (Some b) now = b.rested ≤ now

-- it is no bucket, or a fresh one
abbrev pub IsUnused : Option Bucket → Type 0
IsUnused o = (o ≡ None) ⊎ (o ≡ Some fresh)

-- the bucket stays, or it had rested and is fresh now
abbrev pub RefreshesBucket : ℕ → Option Bucket → Option Bucket → Type 0
RefreshesBucket now old new = (new ≡ old) ⊎ (IsRested old now × IsUnused new)

-- Somebody asks at a moment, which is no earlier than the last. Buckets that have rested may be forgotten.
pub record AsksAt (told : ℕ) (old new : GuessState) : Type 0 where
  pub latest : new.latest ≡ max old.latest told
  pub table : (q : ℕ) → RefreshesBucket new.latest (old.table q) (new.table q)
  pub strangers : new.strangers ≡ old.strangers
  pub common : new.common ≡ old.common

-- a password is hashed at the last moment: the common bucket has one less
abbrev pub behind_hash : GuessState → GuessState
behind_hash s = record { table = s.table; strangers = s.strangers; common = common_behind_hash s.common s.latest; latest = s.latest }

-- Somebody asks for a guess of the label at a moment. What a hash costs is taken at once, where it is let through.
pub record TakesGuess (told label : ℕ) (is_let_through : Bool) (old new : GuessState) : Type 0 where
  pub asked : GuessState
  pub asks : AsksAt told old asked
  pub may : is_let_through ≡ may_guess asked label
  pub takes : new ≡ (if is_let_through then behind_hash asked else asked)

-- a guess of the label was wrong at the last moment: its bucket has one less
pub record CountsWrong (label : ℕ) (old new : GuessState) : Type 0 where
  pub table : (q : ℕ) → new.table q ≡ (if nat_eq label q && is_some (old.table label) then Some (behind_guess (payer old label) old.latest) else old.table q)
  pub strangers : new.strangers ≡ (if is_some (old.table label) then old.strangers else behind_guess old.strangers old.latest)
  pub common : new.common ≡ old.common
  pub latest : new.latest ≡ old.latest
