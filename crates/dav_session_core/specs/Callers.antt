-- Who asks: the same for all requests that one HTTP request leads to (RFC 4918 sections 6.4 and 10.4).
use Rattle.std.specs.Prelude.{◌≡◌, ◌⊎◌, ℕ, List, Bool, true, false, not, ◌||◌, map, filter, Option, Ok, Err, Contains}
use Rattle.std.specs.List.{list_any}
use Rattle.http_header.specs.FieldValue.{FieldValue}
use Rattle.http_header.specs.HeaderMap.{Entries}
use Rattle.dav_path_core.specs.Fronts.{Path, is_front}
use Rattle.dav_files_core.specs.Finding.{place}
use Rattle.dav_files_core.specs.Resources.{IsResourceMap}
use Rattle.dav_locks_core.specs.Ended.{StandIn}
use Rattle.dav_locks_core.specs.Exclusive.{Exclusive}
use Rattle.dav_locks_core.specs.Lock.{Lock}
use Rattle.dav_locks_core.specs.Locks.{LockCaller as LocksCaller, check_conflicts, covers, is_held_by, same_text}
use Rattle.dav_locks_core.specs.Stale.{is_stale}
use Rattle.dav_guarded_core.specs.Requests.{Command, Request, Answer, Refusal, OutOfMemory}
use Rattle.dav_guarded_core.specs.Step.{State, Run, Step}
use Rattle.dav_guarded_core.specs.Stores.{state_of}
use Rattle.dav_notes_core.specs.Stepping.{live_stores}
pub use Rattle.dav_notes_core.specs.Asking.{Caller, also_naming, asking}
pub use Rattle.dav_notes_core.specs.Changes.{is_look}
use Rattle.dav_fields_core.specs.Bases.{Site}
use Rattle.dav_fields_core.specs.Senders.{NamesPrincipal, Submits}

-- a request with these headers, sent to the site, is the caller's
pub record IsSender (user_header : Option (List ℕ)) (site : Site) (headers : Entries FieldValue)
    (who : Caller) : Type 0 where
  pub principal : NamesPrincipal user_header headers who.principal
  pub tokens : Submits site headers who.tokens

-- the command grants a lock, ends one, or gives it another timeout
abbrev pub changes_locks : Command → Bool
changes_locks (Command.Lock path owner timeout shared deep) = true
changes_locks (Command.Unlock path token) = true
changes_locks (Command.Refresh path token timeout) = true
changes_locks _ = false

-- there was no room for the note of a change, and nothing was done
pub record IsUndone (s : State) (c : Command) (e : Refusal) (s' : State) : Type 0 where
  pub changes : is_look c ≡ false
  pub lacks : e ≡ OutOfMemory
  pub same : s' ≡ s

-- What a caller's request is answered, and what it leaves: it is made, as `Step` says; or, of a change, there is no room for its note, and nothing is done.
abbrev pub Asked : State → Caller → Command → Answer → State → Type 0
Asked s who c (Ok reply) s' = Step s (asking who c) (Ok reply) s'
Asked s who c (Err e) s' = Step s (asking who c) (Err e) s' ⊎ IsUndone s c e s'

-- the same of a caller who names one token more; there may be no memory for that, too
abbrev pub AskedNaming : State → Caller → List ℕ → Command → Answer → State → Type 0
AskedNaming s who token c (Ok reply) s' = Step s (asking (also_naming who token) c) (Ok reply) s'
AskedNaming s who token c (Err e) s' = Step s (asking (also_naming who token) c) (Err e) s' ⊎ ((e ≡ OutOfMemory) × (s' ≡ s))

-- a run of requests leads from one state to the other
pub record Runs (s s' : State) : Type 0 where
  pub requests : List Request
  pub answers : List Answer
  pub run : Run s requests answers s'

-- a run of requests leads from one state to the other, all of them the caller's
pub record Asks (who : Caller) (s s' : State) : Type 0 where
  pub commands : List Command
  pub answers : List Answer
  pub run : Run s (map (asking who) commands) answers s'

-- a run of requests leads from one state to the other, all of them the caller's, and none grants,
-- ends or refreshes a lock
pub record RunBy (who : Caller) (s s' : State) : Type 0 where
  pub commands : List Command
  pub answers : List Answer
  pub run : Run s (map (asking who) commands) answers s'
  pub keeps : list_any changes_locks commands ≡ false

-- as locks know the caller
abbrev pub as_caller : Caller → LocksCaller
as_caller who = record { principal = who.principal; ignore = false; tokens = who.tokens }

-- the caller is the lock's principal and named its token
abbrev pub holds : Caller → Lock → Bool
holds who l = is_held_by l (as_caller who)

-- the caller is the lock's principal
abbrev pub is_own : Caller → Lock → Bool
is_own who l = same_text l.principal who.principal

-- the locks that refuse the caller a change at the path
abbrev pub refusing_at : State → Caller → Path → List Lock
refusing_at s who p = check_conflicts s.locks p false (as_caller who)

-- the caller holds one of these locks, which lasts, and covers the path or one above it
pub record HoldsAbove (who : Caller) (locks : List Lock) (p : Path) : Type 0 where
  pub lock : Lock
  pub stood : Contains locks lock
  pub lasts : is_stale who.now lock ≡ false
  pub held : holds who lock ≡ true
  pub front : Path
  pub is_above : is_front front p ≡ true
  pub covered : covers lock front ≡ true

-- what locks promise of a run of one caller's requests (RFC 4918 sections 6 and 7)
pub record KeepsApart (who : Caller) (s s' : State) : Type 0 where
  -- two locks that cover one path are both shared
  pub exclusive : Exclusive s'.locks
  -- a path under an exclusive lock that lasts is as it was, or the caller holds the lock
  pub isolated : (l : Lock) → Contains s.locks l → l.shared ≡ false → is_stale who.now l ≡ false → (p : Path) → covers l p ≡ true
      → (place s'.map p ≡ place s.map p) ⊎ (holds who l ≡ true)
  -- a path under any lock that lasts, shared or not, is as it was, or the caller holds a lock at it or
  -- above
  pub any_isolated : (l : Lock) → Contains s.locks l → is_stale who.now l ≡ false → (p : Path)
      → covers l p ≡ true
      → (place s'.map p ≡ place s.map p) ⊎ HoldsAbove who s.locks p
  -- the locks that last, and that the caller does not hold, stand as they were, in the same order
  pub stand : StandIn (filter (λ l. not (is_stale who.now l || holds who l)) s.locks) s'.locks
  pub shape : IsResourceMap s.map → IsResourceMap s'.map

-- the state without the locks that have expired at the moment
abbrev pub live : ℕ → State → State
live now s = state_of (live_stores now (record { map = s.map; locks = s.locks })) s.rng

-- nothing has changed, but locks that have expired at the moment may be gone
abbrev pub SameLive : ℕ → State → State → Type 0
SameLive now s s' = live now s' ≡ live now s
