-- What a MOVE leaves, and why it is refused (RFC 4918 section 9.9).
use Rattle.std.specs.Prelude.{◌≡◌, ◌⊎◌, false, Bool, ℕ, List, [], Ok}
use Rattle.http_header.specs.FieldValue.{FieldValue}
use Rattle.http_header.specs.HeaderMap.{Entries}
use Rattle.dav_path_core.specs.declared.util.DavMethod.TheVariants as method
use Rattle.dav_path_core.specs.Fronts.{Path, parent}
use Rattle.dav_path_core.specs.PathText.{PathText}
use Rattle.dav_path_core.specs.Segments.{segments}
use Rattle.dav_guarded_core.specs.Step.{State}
use Rattle.dav_fields_core.specs.Bases.{Site}
use Rattle.dav_faults_core.specs.declared.faults.Fault.{Fault}
use Rattle.dav_faults_core.specs.declared.faults.Fault.TheVariants as fault
use Rattle.dav_session_core.specs.Callers.{Caller, SameLive, live}
use Rattle.dav_session_core.specs.Clearing.{IsCleared}
use Rattle.dav_methods_core.specs.TransferEnds.{EndsFit, FailsAtEnds, LeadsOn}
use Rattle.dav_session_core.specs.Ends.{GoesFrom, HasFolder}
use Rattle.dav_session_core.specs.LocksInTheWay.{IsPathOfOne, by_place}
use Rattle.dav_methods_core.specs.ChangeConditions.{IsStopped, change_course}
use Rattle.dav_methods_core.specs.Reaching.{ReachesDown}
use Rattle.dav_methods_core.specs.PutMethod.{put_status}
use Rattle.dav_session_core.specs.Moving.{IsMoved, refusing_move}

-- 201, or 204 where something stood at the target. The source stood in a folder; no lock refused it,
-- and neither did the conditions of HTTP, which are of the source; a folder at the target is gone;
-- and the source stands at the target.
pub record Moves (site : Site) (prefix : List ℕ) (headers : Entries FieldValue) (s : State) (who : Caller) (from : Path) (status : ℕ) (s' : State) : Type 0 where
  pub reaches : ReachesDown s.map from headers
  pub to : PathText
  pub replaces : Bool
  pub leads : LeadsOn site prefix headers from false to replaces
  pub fit : EndsFit s.map from (segments to.bytes) replaces
  pub stood_in : HasFolder s.map (parent from)
  pub status_is : status ≡ put_status s.map (segments to.bytes)
  pub gone : List Path
  pub goes : GoesFrom s.map (segments to.bytes) gone
  pub free : refusing_move s who from (segments to.bytes) gone ≡ []
  pub mid : State
  pub cleared : IsCleared who.now (segments to.bytes) s mid
  pub moved : IsMoved who.now from (segments to.bytes) mid s'
  pub course : change_course method.Move s.map from headers ≡ Ok tt

-- Why it can't be moved, and where that comes: first a depth that doesn't reach all the way down;
-- then its ends; and the locks in its way. A lock below the source or below the target is told as a
-- member's.
pub data CantMove (site : Site) (prefix : List ℕ) (headers : Entries FieldValue) (s : State) (who : Caller) (from : Path) : Fault → Type 0 where
  memory : CantMove site prefix headers s who from fault.InsufficientStorage
  depth : (¬ ReachesDown s.map from headers) → CantMove site prefix headers s who from fault.BadRequest
  ends : (e : Fault) → ReachesDown s.map from headers → FailsAtEnds site prefix headers s.map from false e → CantMove site prefix headers s who from e
  locked : (to : PathText) (replaces : Bool) (gone : List Path) (path : PathText) → ReachesDown s.map from headers → LeadsOn site prefix headers from false to replaces
      → EndsFit s.map from (segments to.bytes) replaces → GoesFrom s.map (segments to.bytes) gone
      → IsPathOfOne (refusing_move s who from (segments to.bytes) gone) path
      → CantMove site prefix headers s who from (by_place from (by_place (segments to.bytes) (fault.Locked path)))

-- All but the conditions: it reaches all the way down; its ends fit; this goes from its target; and
-- no lock refuses it.
pub record IsMovable (site : Site) (prefix : List ℕ) (headers : Entries FieldValue) (s : State)
    (who : Caller) (from : Path) : Type 0 where
  pub reaches : ReachesDown s.map from headers
  pub to : PathText
  pub replaces : Bool
  pub leads : LeadsOn site prefix headers from false to replaces
  pub fit : EndsFit s.map from (segments to.bytes) replaces
  pub gone : List Path
  pub goes : GoesFrom s.map (segments to.bytes) gone
  pub free : refusing_move s who from (segments to.bytes) gone ≡ []

-- Each refusal of a MOVE: why it can't be moved, and then the conditions of HTTP, which are of the
-- source.
abbrev pub FailsToMove : Site → List ℕ → Entries FieldValue → State → Caller → Path → Fault → Type 0
FailsToMove site prefix headers s who from e =
    IsStopped (CantMove site prefix headers s who from)
    (IsMovable site prefix headers s who from) (change_course method.Move s.map from headers) e

-- What a MOVE leaves that began and then lacked memory: a folder at its target is gone. It began once
-- nothing refused it any more.
pub record StartsToMove (site : Site) (prefix : List ℕ) (headers : Entries FieldValue) (s : State) (who : Caller) (from : Path) (s' : State) : Type 0 where
  pub movable : IsMovable site prefix headers s who from
  pub course : change_course method.Move s.map from headers ≡ Ok tt
  pub cleared : IsCleared who.now (segments movable.to.bytes) s (live who.now s')

-- what a MOVE leaves that is refused: all is as it was, unless it lacked memory and had begun
abbrev pub MoveLeaves : Site → List ℕ → Entries FieldValue → State → Caller → Path → Fault → State → Type 0
MoveLeaves site prefix headers s who from fault.InsufficientStorage s' =
    SameLive who.now s s' ⊎ StartsToMove site prefix headers (live who.now s) who from s'
MoveLeaves site prefix headers s who from e s' = SameLive who.now s s'
