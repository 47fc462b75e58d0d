-- What a COPY leaves, and why it is refused (RFC 4918 section 9.8).
use Rattle.std.specs.Prelude.{◌≡◌, ◌⊎◌, Bool, true, ℕ, List, [], ◌++◌, map, None, Some, Ok, Option}
use Rattle.http_header.specs.FieldValue.{FieldValue}
use Rattle.http_header.specs.HeaderMap.{Entries}
use Rattle.dav_path_core.specs.declared.util.DavMethod.TheVariants as method
use Rattle.dav_path_core.specs.Fronts.{Path}
use Rattle.dav_path_core.specs.PathText.{PathText}
use Rattle.dav_path_core.specs.Segments.{segments}
use Rattle.dav_locks_core.specs.Lock.{Lock}
use Rattle.dav_guarded_core.specs.Step.{State}
use Rattle.dav_fields_core.specs.Bases.{Site}
use Rattle.dav_faults_core.specs.declared.faults.Fault.{Fault}
use Rattle.dav_faults_core.specs.declared.faults.Fault.TheVariants as fault
use Rattle.dav_session_core.specs.Callers.{Caller, SameLive, live}
use Rattle.dav_session_core.specs.Clearing.{IsCleared, refusing_clearing}
use Rattle.dav_methods_core.specs.TransferEnds.{EndsFit, FailsAtEnds, LeadsOn}
use Rattle.dav_session_core.specs.Ends.{GoesFrom, known_at}
use Rattle.dav_session_core.specs.LocksInTheWay.{IsPathOfOne, by_place}
use Rattle.dav_methods_core.specs.ChangeConditions.{IsStopped, change_course}
use Rattle.dav_methods_core.specs.Reaching.{reach_from}
use Rattle.dav_methods_core.specs.PutMethod.{put_status}
use Rattle.dav_session_core.specs.Subtrees.{HasOddName}
use Rattle.dav_session_core.specs.Copying.{IsCopied, IsPartlyCopied, AreCopied, copies_made, refusing_copies, source_and_target}
use Rattle.dav_files_core.specs.Resources.{IsResourceMap}
use Rattle.dav_files_core.specs.Meta.{Meta}

-- the locks that refuse it: to clear the target first, or to write any of the copies
abbrev pub refusing_copy : State → Caller → Path → List Path → List Path → List Lock
refusing_copy s who to gone rests = refusing_clearing s who to gone ++ refusing_copies s who to rests

-- 201, or 204 where something stood at the target. No lock refused it, and neither did the
-- conditions of HTTP, which are of the source; a folder at the target is gone; and the target has
-- what the source has, as the copies make it one after another. Where all the way down is copied,
-- each name below the source is one that a path can have which is read. Locks that have expired play
-- no part.
pub record Copies (site : Site) (prefix : List ℕ) (headers : Entries FieldValue) (s : State) (who : Caller) (from : Path) (status : ℕ) (s' : State) : Type 0 where
  pub deep : Bool
  pub reaches : reach_from s.map from headers ≡ Some deep
  pub to : PathText
  pub replaces : Bool
  pub leads : LeadsOn site prefix headers from true to replaces
  pub fit : EndsFit s.map from (segments to.bytes) replaces
  pub status_is : status ≡ put_status s.map (segments to.bytes)
  pub gone : List Path
  pub goes : GoesFrom s.map (segments to.bytes) gone
  pub plain : deep ≡ true → ¬ HasOddName s.map from
  pub rests : List Path
  pub are : AreCopied deep from (segments to.bytes) s.map rests
  pub free : refusing_copy s who (segments to.bytes) gone rests ≡ []
  pub mid : State
  pub cleared : IsCleared who.now (segments to.bytes) s mid
  pub copied : IsCopied who.now deep from (segments to.bytes) mid (live who.now s')
  pub made : copies_made who.now (map (source_and_target from (segments to.bytes)) rests) mid.map
      ≡ Ok (tt, s'.map)
  pub course : change_course method.Copy s.map from headers ≡ Ok tt

-- Why it can't be copied, and where that comes: first a depth that it can't have; then its ends; a
-- name below the source that no path has which is read; and the locks in its way. A lock below the
-- target is told as a member's.
pub data CantCopy (site : Site) (prefix : List ℕ) (headers : Entries FieldValue) (s : State) (who : Caller) (from : Path) : Fault → Type 0 where
  memory : CantCopy site prefix headers s who from fault.InsufficientStorage
  depth : reach_from s.map from headers ≡ None → CantCopy site prefix headers s who from fault.BadRequest
  ends : (deep : Bool) (e : Fault) → reach_from s.map from headers ≡ Some deep → FailsAtEnds site prefix headers s.map from true e → CantCopy site prefix headers s who from e
  odd : (to : PathText) (replaces : Bool) → reach_from s.map from headers ≡ Some true → LeadsOn site prefix headers from true to replaces
      → EndsFit s.map from (segments to.bytes) replaces → HasOddName s.map from → CantCopy site prefix headers s who from fault.BadRequest
  locked : (deep : Bool) (to : PathText) (replaces : Bool) (gone rests : List Path) (path : PathText) → reach_from s.map from headers ≡ Some deep
      → LeadsOn site prefix headers from true to replaces → EndsFit s.map from (segments to.bytes) replaces → GoesFrom s.map (segments to.bytes) gone
      → (deep ≡ true → ¬ HasOddName s.map from)
      → AreCopied deep from (segments to.bytes) s.map rests → IsPathOfOne (refusing_copy s who (segments to.bytes) gone rests) path
      → CantCopy site prefix headers s who from (by_place (segments to.bytes) (fault.Locked path))

-- All but the conditions: what it is asked, what is known of its target, what goes from there, and what is copied.
pub record IsPlanned (site : Site) (prefix : List ℕ) (headers : Entries FieldValue) (s : State) (who : Caller) (from : Path) (known : Option Meta) (gone : List Path)
    (pairs : List (Path × Path)) : Type 0 where
  pub shape : IsResourceMap s.map
  pub deep : Bool
  pub reaches : reach_from s.map from headers ≡ Some deep
  pub to : PathText
  pub replaces : Bool
  pub leads : LeadsOn site prefix headers from true to replaces
  pub fit : EndsFit s.map from (segments to.bytes) replaces
  pub known_is : known ≡ known_at s.map (segments to.bytes)
  pub goes : GoesFrom s.map (segments to.bytes) gone
  pub plain : deep ≡ true → ¬ HasOddName s.map from
  pub rests : List Path
  pub are : AreCopied deep from (segments to.bytes) s.map rests
  pub free : refusing_copy s who (segments to.bytes) gone rests ≡ []
  pub pairs_are : pairs ≡ map (source_and_target from (segments to.bytes)) rests

-- some plan of it is such
abbrev pub CanCopy : Site → List ℕ → Entries FieldValue → State → Caller → Path → Type 0
CanCopy site prefix headers s who from =
    (known : Option Meta) × (gone : List Path) × (pairs : List (Path × Path))
    × IsPlanned site prefix headers s who from known gone pairs

-- Each refusal of a COPY: why it can't be copied, and then the conditions of HTTP, which are of the
-- source.
abbrev pub FailsToCopy : Site → List ℕ → Entries FieldValue → State → Caller → Path → Fault → Type 0
FailsToCopy site prefix headers s who from e =
    IsStopped (CantCopy site prefix headers s who from)
    (CanCopy site prefix headers s who from) (change_course method.Copy s.map from headers) e

-- What a COPY leaves that began and then lacked memory: each of its requests was done or not. It began
-- once nothing refused it any more, as of one that is done.
pub record StartsToCopy (site : Site) (prefix : List ℕ) (headers : Entries FieldValue) (s : State) (who : Caller) (from : Path) (s' : State) : Type 0 where
  pub deep : Bool
  pub reaches : reach_from s.map from headers ≡ Some deep
  pub to : PathText
  pub replaces : Bool
  pub leads : LeadsOn site prefix headers from true to replaces
  pub fit : EndsFit s.map from (segments to.bytes) replaces
  pub gone : List Path
  pub goes : GoesFrom s.map (segments to.bytes) gone
  pub plain : deep ≡ true → ¬ HasOddName s.map from
  pub rests : List Path
  pub are : AreCopied deep from (segments to.bytes) s.map rests
  pub free : refusing_copy s who (segments to.bytes) gone rests ≡ []
  pub course : change_course method.Copy s.map from headers ≡ Ok tt
  pub mid : State
  pub cleared : IsCleared who.now (segments to.bytes) s mid
  pub copied : IsPartlyCopied who.now deep from (segments to.bytes) mid (live who.now s')

-- what a COPY leaves that is refused: all is as it was, unless it lacked memory and had begun
abbrev pub CopyLeaves : Site → List ℕ → Entries FieldValue → State → Caller → Path → Fault → State → Type 0
CopyLeaves site prefix headers s who from fault.InsufficientStorage s' =
    SameLive who.now s s' ⊎ StartsToCopy site prefix headers (live who.now s) who from s'
CopyLeaves site prefix headers s who from e s' = SameLive who.now s s'
