-- What a PUT leaves, and why it is refused (RFC 9110 sections 9.3.4 and 13.2, RFC 4918 section 9.7).
use Rattle.std.specs.Prelude.{◌≡◌, ◌≢◌, ℕ, true, List, [], Option, None, Some, Ok, Err, if◌then◌else◌}
use Rattle.std.specs.FinMap.{empty}
use Rattle.http_header.specs.FieldValue.{FieldValue}
use Rattle.http_header.specs.HeaderMap.{Entries}
use Rattle.dav_path_core.specs.declared.errors.FsError.{FsError}
use Rattle.dav_path_core.specs.declared.util.DavMethod.TheVariants as method
use Rattle.dav_path_core.specs.Fronts.{Path}
use Rattle.dav_files_core.specs.declared.memfs.Kind.TheVariants.{Folder, File}
use Rattle.dav_files_core.specs.ResourcePutting.{put}
use Rattle.dav_files_core.specs.Resources.{Properties, Resource, ResourceMap, at_path}
use Rattle.dav_locks_core.specs.Lock.{Lock}
use Rattle.dav_guarded_core.specs.Requests.{Command}
use Rattle.dav_guarded_core.specs.Checks.{has}
use Rattle.dav_guarded_core.specs.Step.{State, conflicts}
use Rattle.dav_faults_core.specs.declared.faults.Fault.{Fault}
use Rattle.dav_faults_core.specs.declared.faults.Fault.TheVariants as fault
use Rattle.dav_session_core.specs.Callers.{Caller, asking, live}
use Rattle.dav_methods_core.specs.ChangeConditions.{IsStopped, change_course}
use Rattle.dav_session_core.specs.LocksInTheWay.{IsPathOfOne}

-- the locks that refuse the PUT of a caller
abbrev pub locks_against_putting : State → Caller → Path → List ℕ → List Lock
locks_against_putting s who p bytes = conflicts (live who.now s) (asking who (Command.Put p bytes))

-- 201 for a file that is made, 204 for one that has other bytes now
abbrev pub put_status : ResourceMap → Path → ℕ
put_status m p = if has m p then 204 else 201

-- the properties of what stood there; a new file has none
abbrev pub props_of : Option Resource → Properties
props_of None = empty
props_of (Some r) = r.node.props

-- after it the file has the bytes, and was changed last at the moment; each other path has what it had; and the locks that last stand
pub record Puts (s : State) (now : ℕ) (p : Path) (bytes : List ℕ) (s' : State) : Type 0 where
  pub file : Resource
  pub here : at_path s'.map p ≡ Some file
  pub kind : file.node.kind ≡ File
  pub bytes_are : file.node.bytes ≡ bytes
  pub modified : file.node.modified ≡ now
  pub props : file.node.props ≡ props_of (at_path s.map p)
  pub others : (q : Path) → q ≢ p → at_path s'.map q ≡ at_path s.map q
  pub did : put s.map p bytes now ≡ Ok (tt, s'.map)
  pub left : s' ≡ record (live now s) { map = s'.map }

-- 201 or 204. No lock refused it, the conditions let it be done, and the file has the bytes.
pub record Writes (headers : Entries FieldValue) (s : State) (who : Caller) (p : Path) (bytes : List ℕ)
    (status : ℕ) (s' : State) : Type 0 where
  pub status_is : status ≡ put_status s.map p
  pub course : change_course method.Put s.map p headers ≡ Ok tt
  pub free : locks_against_putting s who p bytes ≡ []
  pub puts : Puts s who.now p bytes s'

-- without conditions it would be done
abbrev pub CanPut : State → Caller → Path → List ℕ → Type 0
CanPut s who p bytes = (locks_against_putting s who p bytes ≡ []) × ((m : ResourceMap) × (put s.map p bytes who.now ≡ Ok (tt, m)))

-- Why it can't be done, and where that comes: first a lock in its way, whose path is told, and then what the files refuse.
abbrev pub CantPut : State → Caller → Path → List ℕ → Fault → Type 0
CantPut s who p bytes fault.InsufficientStorage = Unit {0}
CantPut s who p bytes (fault.Locked path) = IsPathOfOne (locks_against_putting s who p bytes) path
CantPut s who p bytes (fault.MethodNotAllowed folder) =
    (folder ≡ true) × (locks_against_putting s who p bytes ≡ []) × ((r : Resource) × (at_path s.map p ≡ Some r) × (r.node.kind ≡ Folder))
CantPut s who p bytes fault.Conflict =
    (locks_against_putting s who p bytes ≡ []) × (at_path s.map p ≡ None) × ((e : FsError) × (put s.map p bytes who.now ≡ Err e))
CantPut s who p bytes e = ⊥

-- Each refusal of a PUT: why it can't be done, and then the conditions (RFC 9110 section 13.2.1).
abbrev pub FailsToPut : State → Caller → Path → List ℕ → Entries FieldValue → Fault → Type 0
FailsToPut s who p bytes headers e = IsStopped (CantPut s who p bytes) (CanPut s who p bytes) (change_course method.Put s.map p headers) e
