-- What a caller is granted, and what is taken back (RFC 4918 sections 6.5, 7.3, 9.10 and 9.11).
use Rattle.std.specs.Prelude.{◌≡◌, ℕ, Bool, true, List, [], ◌∷◌, ◌++◌, Option, Contains}
use Rattle.std.specs.List.{list_any}
use Rattle.dav_path_core.specs.Fronts.{Path, is_front}
use Rattle.dav_path_core.specs.PathText.{PathText}
use Rattle.dav_locks_core.specs.Lock.{Lock}
use Rattle.dav_locks_core.specs.Locks.{found_here, lock_path}
use Rattle.dav_locks_core.specs.NewLock.{new_lock}
use Rattle.dav_locks_core.specs.Tokens.{token_from}
use Rattle.dav_guarded_core.specs.Requests.{Answer, Command}
use Rattle.dav_guarded_core.specs.Step.{Serves, State}
use Rattle.dav_faults_core.specs.declared.faults.Fault.{Fault}
use Rattle.dav_faults_core.specs.declared.faults.Fault.TheVariants as fault
pub use Rattle.dav_session_core.specs.Callers.{also_naming}
use Rattle.dav_session_core.specs.Callers.{Caller, asking}
use Rattle.dav_fields_core.specs.IfTokens.{is_among}
use Rattle.dav_session_core.specs.LocksInTheWay.{IsPathOfOne}

-- the lock of the path that the caller is granted; the generator's next token names it
abbrev pub granted_lock : State → Caller → PathText → Option (List ℕ) → Option ℕ → Bool → Bool
    → Lock
granted_lock s who path owner timeout shared deep =
    new_lock (token_from s.rng).0 path who.principal owner timeout shared deep who.now

-- one lock more, whose token the generator gave
abbrev pub with_lock : State → Lock → State
with_lock s l = record { map = s.map; locks = s.locks ++ l ∷ []; rng = (token_from s.rng).1 }

-- nothing has changed, but that the generator gave a token
abbrev pub with_token_drawn : State → State
with_token_drawn s = record { map = s.map; locks = s.locks; rng = (token_from s.rng).1 }

-- a lock with the token stands at the path or above
abbrev pub stands_above : State → Path → List ℕ → Bool
stands_above s p token = list_any (found_here p token) s.locks

-- the token of each lock at the path or above is one of these
abbrev pub HaveTokens : State → Path → List (List ℕ) → Type 0
HaveTokens s p tokens =
    (l : Lock) → Contains s.locks l → is_front (lock_path l) p ≡ true
    → is_among tokens l.token ≡ true

-- each of these tokens is that of a lock at the path or above
abbrev pub AreAbove : State → Path → List (List ℕ) → Type 0
AreAbove s p tokens =
    (token : List ℕ) → is_among tokens token ≡ true → stands_above s p token ≡ true

-- one of these locks lets no other be granted, and its path is told; or there is no memory
abbrev pub IsConflictOf : List Lock → Fault → Type 0
IsConflictOf locks fault.InsufficientStorage = Unit {0}
IsConflictOf locks (fault.ConflictingLock path) = IsPathOfOne locks path
IsConflictOf locks e = ⊥

-- the caller, who names the token besides, puts an empty file at the path, and is answered so
abbrev pub PutsUnder : State → Caller → Path → List ℕ → Answer → State → Type 0
PutsUnder s who p token answer s' =
    Serves s (asking (also_naming who token) (Command.Put p [])) answer s'
