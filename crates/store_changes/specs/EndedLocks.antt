-- A lock that is ended by whoever may write the file of the stores (own).
use Rattle.std.specs.Prelude.{◌≡◌, ◌<◌, ◌+◌, ◌^◌, ℕ, List, [], ◌∷◌, codes, Bool, true, false, not, ◌&&◌, bytes_eq, Option, None, Result, Ok, Err}
use Rattle.std.specs.List.{list_any}
use Rattle.dav_path_core.specs.Fronts.{Path}
use Rattle.dav_locks_core.specs.Lock.{Lock}
use Rattle.dav_locks_core.specs.Locks.{found_here}
use Rattle.dav_locks_core.specs.Stale.{is_stale, without_stale}
use Rattle.dav_guarded_core.specs.Requests.{Command}
use Rattle.dav_guarded_core.specs.Stores.{Stores}
use Rattle.dav_notes_core.specs.Noting.{Noted}
use Rattle.dav_notes_core.specs.PlayedNotes.{NotePlayed}
use Rattle.dav_effects_core.specs.Records.{IsRecord}
use Rattle.store_changes.specs.ImportedEntries.{moment_behind}
use Rattle.store_changes.specs.declared.ending.Unended.{Unended}
use Rattle.store_changes.specs.declared.ending.Unended.TheVariants.{NoLock, NoMoment, OutOfMemory}

-- it stands beside the lock's own token in a request that no client has sent
abbrev pub operator_token : List ℕ
operator_token = codes "urn:dav-resource-core:operator"

-- a request that ends the lock with this token, as its principal's would, and tells that it is none
abbrev pub ending_note : ℕ → Option (List ℕ) → Path → List ℕ → Noted
ending_note now principal path token = record { request = record { principal = principal; tokens = token ∷ operator_token ∷ []; now = now; command = Command.Unlock path token }; drawn = None }

-- The stores are those behind a request that ends the lock with this token, at the moment that comes behind the last one; and these bytes, which are joined to others, are its record.
pub record IsEnded (s : Stores) (last clock : ℕ) (token : List ℕ) (s' : Stores) (last' : ℕ) (joins : List ℕ → Type 0) : Type 0 where
  pub moment : last' ≡ moment_behind last clock
  pub principal : Option (List ℕ)
  pub path : Path
  pub played : NotePlayed s (ending_note last' principal path token) s'
  pub bytes : List ℕ
  pub written : IsRecord (ending_note last' principal path token ∷ []) bytes
  pub joined : joins bytes

-- ---- whether there is one

-- the lock has this token, and has not expired at this moment
abbrev pub is_live_with : List ℕ → ℕ → Lock → Bool
is_live_with token now l = bytes_eq l.token token && not (is_stale now l)

-- a lock with this token stands at this moment
abbrev pub stands_with : List ℕ → ℕ → List Lock → Bool
stands_with token now locks = list_any (is_live_with token now) locks

-- at this path or above it a lock with this token stands at this moment
abbrev pub is_found_at : Path → List ℕ → ℕ → List Lock → Bool
is_found_at path token now locks = list_any (found_here path token) (without_stale now locks)

-- a request that ends a lock with this token, at whose path one stands
pub record EndsStanding (s : Stores) (n : Noted) : Type 0 where
  pub principal : Option (List ℕ)
  pub path : Path
  pub token : List ℕ
  pub is : n ≡ ending_note n.request.now principal path token
  pub found : is_found_at path token n.request.now s.locks ≡ true

-- What is answered: no moment comes behind the last one; one does, and no lock with this token stands then; or one stands, and is ended, or there is no memory for that.
abbrev pub AnswersEnding : Stores → ℕ → ℕ → List ℕ → Result (Unit {0}) Unended → Type 0
AnswersEnding s last now token (Err NoMoment) = last + 1 ≡ 2 ^ 64
AnswersEnding s last now token (Err NoLock) = (last + 1 < 2 ^ 64) × (stands_with token now s.locks ≡ false)
AnswersEnding s last now token (Err OutOfMemory) = (last + 1 < 2 ^ 64) × (stands_with token now s.locks ≡ true)
AnswersEnding s last now token (Ok x) = (last + 1 < 2 ^ 64) × (stands_with token now s.locks ≡ true)
