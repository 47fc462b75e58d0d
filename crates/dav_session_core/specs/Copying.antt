-- What is copied, what that leaves, and which locks refuse it (RFC 4918 sections 7, 9.8 and 11.5).
use Rattle.std.specs.Prelude.{◌≡◌, ◌⊎◌, ◌↔◌, Bool, true, false, not, ◌&&◌, ℕ, List, [], ◌∷◌, ◌++◌, map, Option, None, IsSome, Contains, option_map, if◌then◌else◌, Ok, Err}
use Rattle.std.specs.List.{AllPairs}
use Rattle.dav_path_core.specs.Fronts.{Path, is_front, parent}
use Rattle.dav_files_core.specs.Outcomes.{Outcome, ◌>>=◌}
use Rattle.dav_files_core.specs.ResourceCopying.{copy}
use Rattle.dav_files_core.specs.Resources.{IsResourceMap, Node, ResourceMap, at_path}
use Rattle.dav_locks_core.specs.Lock.{Lock}
use Rattle.dav_guarded_core.specs.Checks.{refusing, shallow, target}
use Rattle.dav_guarded_core.specs.Step.{State, Step}
use Rattle.dav_faults_core.specs.declared.faults.Fault.{Fault}
use Rattle.dav_faults_core.specs.declared.faults.Fault.TheVariants as fault
use Rattle.dav_session_core.specs.Callers.{Caller, as_caller, asking}
use Rattle.dav_session_core.specs.Ends.{HasFolder}
use Rattle.dav_guarded_core.specs.Requests.{Command, Refusal}
use Rattle.dav_session_core.specs.StoreRefusals.{put_fault}
use Rattle.dav_session_core.specs.Subtrees.{ComesBefore}

-- ---- what is copied

-- Whether a resource is copied, by its path below the source: the source itself is; and all the way down each other one is that is neither at nor below the target.
abbrev pub is_copied : Bool → Path → Path → Path → Bool
is_copied deep from to [] = true
is_copied deep from to (s ∷ rest) = deep && not (is_front to (from ++ (s ∷ rest)))

-- what stands at a path, but for its number
abbrev pub node_at : ResourceMap → Path → Option Node
node_at m p = option_map (λ r. r.node) (at_path m p)

-- the same with another time of creation
abbrev pub created_at : ℕ → Node → Node
created_at now node = record node { created = now }

-- what stands below the target then
abbrev pub copy_at : ℕ → Bool → Path → Path → ResourceMap → Path → Option Node
copy_at now deep from to m rest = if is_copied deep from to rest then option_map (created_at now) (node_at m (from ++ rest)) else None

-- The target has what the source has, kind, bytes, properties and moment of the last change, and nothing else; each other place is as it was, and so are the locks.
pub record IsCopied (now : ℕ) (deep : Bool) (from to : Path) (s s' : State) : Type 0 where
  pub there : (rest : Path) → node_at s'.map (to ++ rest) ≡ copy_at now deep from to s.map rest
  pub others : (q : Path) → is_front to q ≡ false → at_path s'.map q ≡ at_path s.map q
  pub left : s' ≡ record s { map = s'.map }

-- resources are copied one after another, each to where it goes
abbrev pub copies_made : ℕ → List (Path × Path) → ResourceMap → Outcome (Unit {0})
copies_made now [] m = Ok (tt, m)
copies_made now (pair ∷ pairs) m = copy m pair.0 pair.1 now >>= λ done. copies_made now pairs done.1

-- Each place at or below the target is as it was, or has what the source has; each other place is as it was, and so are the locks.
pub record IsPartlyCopied (now : ℕ) (deep : Bool) (from to : Path) (s s' : State) : Type 0 where
  pub there : (rest : Path) → (at_path s'.map (to ++ rest) ≡ at_path s.map (to ++ rest)) ⊎ (node_at s'.map (to ++ rest) ≡ copy_at now deep from to s.map rest)
  pub others : (q : Path) → is_front to q ≡ false → at_path s'.map q ≡ at_path s.map q
  pub left : s' ≡ record s { map = s'.map }

-- The paths of all that is copied, below the source, in order.
pub record AreCopied (deep : Bool) (from to : Path) (m : ResourceMap) (rests : List Path) : Type 0 where
  pub members : (rest : Path) → Contains rests rest ↔ ((is_copied deep from to rest ≡ true) × IsSome (at_path m (from ++ rest)))
  pub sorted : AllPairs ComesBefore rests

-- where one of them is copied from, and where to
abbrev pub source_and_target : Path → Path → Path → Path × Path
source_and_target from to rest = (from ++ rest, to ++ rest)

-- ---- which locks refuse it

-- those that refuse to change what stands at the target, or to make it where nothing does, or to make something below it
abbrev pub refusing_copies : State → Caller → Path → List Path → List Lock
refusing_copies s who to rests = refusing s.locks (as_caller who) (target s.map to ++ map (λ rest. shallow (to ++ rest)) rests)

-- All are ready to be copied: they are what is copied; the target isn't the source nor above it, a folder stands above it, and none at it; and no lock refuses it.
pub record IsReady (s : State) (who : Caller) (deep : Bool) (from to : Path) (rests : List Path) : Type 0 where
  pub shape : IsResourceMap s.map
  pub apart : is_front to from ≡ false
  pub stands : IsSome (at_path s.map from)
  pub above : HasFolder s.map (parent to)
  pub no_folder : ¬ HasFolder s.map to
  pub are : AreCopied deep from to s.map rests
  pub free : refusing_copies s who to rests ≡ []

-- ---- a copy that isn't made

-- there was no memory to ask for it, or it was refused, and this is told
abbrev pub NotCopied : Caller → State → Path → Path → Fault → State → Type 0
NotCopied who s from to e s' =
    ((e ≡ fault.InsufficientStorage) × (s' ≡ s)) ⊎ ((r : Refusal) × Step s (asking who (Command.Copy from to)) (Err r) s' × (e ≡ put_fault false r))
