-- What locks promise of each answer of the server (RFC 4918 sections 6.1, 6.4 and 7).
use Rattle.std.specs.Prelude.{◌≡◌, ◌⊎◌, ℕ, true, false, List, Contains}
use Rattle.http.specs.declared.request.Request.{Request}
use Rattle.http.specs.Request.{head_of}
use Rattle.dav_path_core.specs.Fronts.{Path, is_front}
use Rattle.dav_files_core.specs.Finding.{place}
use Rattle.dav_locks_core.specs.Lock.{Lock}
use Rattle.dav_locks_core.specs.Locks.{covers}
use Rattle.dav_locks_core.specs.Stale.{is_stale}
use Rattle.dav_handler_core.specs.Server.{IsFrom, Server}
use Rattle.dav_session_core.specs.Callers.{Caller, is_own}
use Rattle.dav_methods_core.specs.UnlockMethod.{NamesToken}

-- the request comes from the lock's principal and names its token, in its `If` or its `Lock-Token`
pub record IsHolders (before : Server) (request : Request (List ℕ)) (l : Lock) : Type 0 where
  pub who : Caller
  pub from : IsFrom before.options request who
  pub own : is_own who l ≡ true
  pub names : Contains who.tokens l.token ⊎ NamesToken (head_of request).headers l.token

-- a lock that stood before and whose moment hasn't come
pub record Lasts (before after : Server) (l : Lock) : Type 0 where
  pub stood : Contains before.state.locks l
  pub lasts : is_stale after.last l ≡ false

-- it stands, or the request is its holder's
abbrev pub StandsUnlessEnded : Server → Request (List ℕ) → Server → Type 0
StandsUnlessEnded before request after = (l : Lock) → Lasts before after l → Contains after.state.locks l ⊎ IsHolders before request l

-- a path that an exclusive one covers is as it was, or the request is its holder's
abbrev pub IsKeptUnlessHeld : Server → Request (List ℕ) → Server → Type 0
IsKeptUnlessHeld before request after = (l : Lock) → Lasts before after l → l.shared ≡ false → (p : Path) → covers l p ≡ true
    → (place after.state.map p ≡ place before.state.map p) ⊎ IsHolders before request l

-- the request is the holder's of a lock that lasts, which covers the path or one above it
pub record IsHoldersAbove (before after : Server) (request : Request (List ℕ)) (p : Path)
    : Type 0 where
  pub lock : Lock
  pub lasting : Lasts before after lock
  pub holders : IsHolders before request lock
  pub front : Path
  pub is_above : is_front front p ≡ true
  pub covered : covers lock front ≡ true

-- a path that any one covers, shared or not, is as it was, or the request is the holder's of one at
-- the path or above
abbrev pub IsKeptUnderAny : Server → Request (List ℕ) → Server → Type 0
IsKeptUnderAny before request after =
    (l : Lock) → Lasts before after l → (p : Path) → covers l p ≡ true
    → (place after.state.map p ≡ place before.state.map p) ⊎ IsHoldersAbove before after request p
