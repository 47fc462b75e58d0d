-- What a MKCOL leaves, and why it is refused (RFC 4918 section 9.3).
use Rattle.std.specs.Prelude.{◌≡◌, ◌≢◌, ℕ, List, [], None, Some, Ok, Err}
use Rattle.http_header.specs.FieldValue.{FieldValue}
use Rattle.http_header.specs.HeaderMap.{Entries}
use Rattle.dav_path_core.specs.declared.errors.FsError.{FsError}
use Rattle.dav_path_core.specs.declared.util.DavMethod.TheVariants as method
use Rattle.dav_path_core.specs.Fronts.{Path, parent}
use Rattle.dav_files_core.specs.declared.memfs.Kind.TheVariants.{Folder}
use Rattle.dav_files_core.specs.Folders.{create_dir}
use Rattle.dav_files_core.specs.Following.{dated_entry}
use Rattle.dav_files_core.specs.Outcomes.{new_folder}
use Rattle.dav_files_core.specs.Resources.{Resource, ResourceMap, at_path, is_folder}
use Rattle.dav_locks_core.specs.Lock.{Lock}
use Rattle.dav_guarded_core.specs.Requests.{Command}
use Rattle.dav_guarded_core.specs.Step.{State, conflicts}
use Rattle.dav_faults_core.specs.declared.faults.Fault.{Fault}
use Rattle.dav_faults_core.specs.declared.faults.Fault.TheVariants as fault
use Rattle.dav_session_core.specs.Callers.{Caller, asking}
use Rattle.dav_session_core.specs.LocksInTheWay.{IsPathOfOne}
use Rattle.dav_methods_core.specs.ChangeConditions.{IsStopped, change_course}

-- a folder without members or properties stands there, made at the moment
abbrev pub IsNewFolder : ℕ → Resource → Type 0
IsNewFolder now r = r.node ≡ new_folder now

-- the locks that refuse it
abbrev pub locks_against_making : State → Caller → Path → List Lock
locks_against_making s who p = conflicts s (asking who (Command.MkCol p))

-- without conditions it would be made
abbrev pub CanMake : State → Caller → Path → Type 0
CanMake s who p =
    (locks_against_making s who p ≡ [])
    × ((m : ResourceMap) × (create_dir s.map p who.now ≡ Ok (tt, m)))

-- 201. No lock refused it, and where nothing stood there is a new folder; the folder that it stands
-- in was changed at the moment; each other path has what it had; and so have the locks. The
-- conditions of HTTP let it be made.
pub record Makes (headers : Entries FieldValue) (s : State) (who : Caller) (p : Path) (status : ℕ)
    (s' : State) : Type 0 where
  pub status_is : status ≡ 201
  pub course : change_course method.MkCol s.map p headers ≡ Ok tt
  pub free : locks_against_making s who p ≡ []
  pub nothing : at_path s.map p ≡ None
  pub above : Resource
  pub stands : at_path s.map (parent p) ≡ Some above
  pub kind : above.node.kind ≡ Folder
  pub folder : Resource
  pub here : at_path s'.map p ≡ Some folder
  pub new : IsNewFolder who.now folder
  pub made : create_dir s.map p who.now ≡ Ok (tt, s'.map)
  pub changed : at_path s'.map (parent p) ≡ Some (dated_entry who.now above)
  pub others : (q : Path) → q ≢ p → q ≢ parent p → at_path s'.map q ≡ at_path s.map q
  pub left : s' ≡ record s { map = s'.map }

-- Why it can't be made, and where that comes: first a lock in its way, whose path is told, then what
-- stands there, and then what stands above.
abbrev pub CantMake : State → Caller → Path → Fault → Type 0
CantMake s who p fault.InsufficientStorage = Unit {0}
CantMake s who p (fault.Locked path) = IsPathOfOne (locks_against_making s who p) path
CantMake s who p (fault.MethodNotAllowed folder) =
    (locks_against_making s who p ≡ [])
    × ((r : Resource) × (at_path s.map p ≡ Some r) × (folder ≡ is_folder r.node.kind))
CantMake s who p fault.Conflict =
    (locks_against_making s who p ≡ []) × (at_path s.map p ≡ None)
    × ((e : FsError) × (create_dir s.map p who.now ≡ Err e))
CantMake s who p e = ⊥

-- Each refusal of a MKCOL: why it can't be made, and then the conditions of HTTP.
abbrev pub FailsToMake : Entries FieldValue → State → Caller → Path → Fault → Type 0
FailsToMake headers s who p e =
    IsStopped (CantMake s who p) (CanMake s who p) (change_course method.MkCol s.map p headers) e
