-- Refusals that are the same but for which of several locks they show (own).
use Rattle.std.specs.Prelude.{◌≡◌, ◌⊎◌, ℕ, Bool, true, false, Option, None, Some, IsSome}
use Rattle.dav_guarded_core.specs.Step.{State}
use Rattle.dav_fields_core.specs.Fields.{Sent}
use Rattle.dav_session_core.specs.Callers.{live}
use Rattle.dav_faults_core.specs.declared.faults.Fault.{Fault}
use Rattle.dav_faults_core.specs.declared.faults.Fault.TheVariants as fault

-- whether the lock that a fault shows refuses the caller; else it lets no other lock be granted
abbrev pub shows_refusing_lock : Fault → Option Bool
shows_refusing_lock (fault.Locked path) = Some true
shows_refusing_lock (fault.MemberLocked path) = Some true
shows_refusing_lock (fault.ConflictingLock path) = Some false
shows_refusing_lock (fault.ConflictingMember path other) = Some false
shows_refusing_lock e = None

-- they are equal, or both show a lock that does the same
abbrev pub SameFault : Fault → Fault → Type 0
SameFault e f =
    (e ≡ f)
    ⊎ (IsSome (shows_refusing_lock e) × (shows_refusing_lock e ≡ shows_refusing_lock f))

-- one of two refusals is for want of memory, or they are the same
abbrev pub AreAlike : Fault → Fault → Type 0
AreAlike e f =
    (e ≡ fault.InsufficientStorage) ⊎ ((f ≡ fault.InsufficientStorage) ⊎ SameFault e f)

-- A request is answered in one way, memory aside: what is done tells one status and leaves one
-- state, it isn't refused, and two refusals are alike.
pub record IsDetermined (Does : ℕ → State → Type 0) (Fails : Fault → Type 0) : Type 0 where
  pub done : (status other : ℕ) (s' s'' : State) → Does status s' → Does other s''
      → (status ≡ other) × (s' ≡ s'')
  pub either : (status : ℕ) (s' : State) (e : Fault) → Does status s' → Fails e
      → e ≡ fault.InsufficientStorage
  pub refused : (e f : Fault) → Fails e → Fails f → AreAlike e f

-- a method leaves such a state, but for locks that have expired at the moment
pub record LeavesLive (now : ℕ) (Does : Sent → State → Type 0) (t : State) : Type 0 where
  pub sent : Sent
  pub state : State
  pub does : Does sent state
  pub left : t ≡ live now state
