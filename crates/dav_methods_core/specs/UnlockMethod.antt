-- What an UNLOCK leaves, and why it is refused (RFC 4918 section 9.11).
use Rattle.std.specs.Prelude.{◌≡◌, true, ℕ, List, [], ◌∷◌, ◌++◌, Ok, IsUtf8, codes}
use Rattle.http_header.specs.FieldValue.{FieldValue}
use Rattle.http_header.specs.HeaderMap.{Entries, get_all}
use Rattle.dav_path_core.specs.declared.util.DavMethod.TheVariants as method
use Rattle.dav_path_core.specs.Fronts.{Path}
use Rattle.dav_guarded_core.specs.Step.{State}
use Rattle.dav_faults_core.specs.declared.faults.Fault.{Fault}
use Rattle.dav_faults_core.specs.declared.faults.Fault.TheVariants as fault
use Rattle.dav_session_core.specs.Callers.{Caller}
use Rattle.dav_session_core.specs.Conditions.{has_token}
use Rattle.dav_session_core.specs.Unlocking.{EndsOwn, IsAnothers, KeepsLock}
use Rattle.dav_methods_core.specs.ChangeConditions.{IsStopped, change_course}

-- a text is the token between angle brackets
abbrev pub IsBracketed : List ℕ → List ℕ → Type 0
IsBracketed text token = IsUtf8 text × (text ≡ codes "<" ++ (token ++ codes ">"))

-- the one `Lock-Token` has the token between angle brackets (RFC 4918 section 10.5)
abbrev pub NamesToken : Entries FieldValue → List ℕ → Type 0
NamesToken headers token = (value : FieldValue) × (get_all headers (codes "lock-token") ≡ value ∷ []) × IsBracketed value.bytes token

-- All but the conditions: the token is named, a lock with it covers the path, and each one with it
-- at the path or above is the caller's own.
pub record CanUnlock (headers : Entries FieldValue) (s : State) (who : Caller) (p : Path)
    (token : List ℕ) : Type 0 where
  pub names : NamesToken headers token
  pub covered : has_token s p token ≡ true
  pub own : ¬ IsAnothers s who p token

-- 204. The lock whose token is named is gone; it covered the path, and none with its token there or
-- above was another's; and the conditions of HTTP let it end.
pub record Unlocks (headers : Entries FieldValue) (s : State) (who : Caller) (p : Path) (status : ℕ)
    (s' : State) : Type 0 where
  pub status_is : status ≡ 204
  pub token : List ℕ
  pub names : NamesToken headers token
  pub covered : has_token s p token ≡ true
  pub own : ¬ IsAnothers s who p token
  pub course : change_course method.Unlock s.map p headers ≡ Ok tt
  pub ends : EndsOwn s who p token s'

-- Why it can't end, and where that comes: first a token that isn't named, or not so; then why its
-- lock stays.
abbrev pub CantUnlock : Entries FieldValue → State → Caller → Path → Fault → Type 0
CantUnlock headers s who p fault.InsufficientStorage = Unit {0}
CantUnlock headers s who p fault.BadRequest = (token : List ℕ) → ¬ NamesToken headers token
CantUnlock headers s who p e = (token : List ℕ) × NamesToken headers token × KeepsLock s who p token e

-- Each refusal of an UNLOCK: why the lock can't end, and then the conditions of HTTP.
abbrev pub FailsToUnlock : Entries FieldValue → State → Caller → Path → Fault → Type 0
FailsToUnlock headers s who p e =
    IsStopped (CantUnlock headers s who p) ((token : List ℕ) × CanUnlock headers s who p token)
    (change_course method.Unlock s.map p headers) e
