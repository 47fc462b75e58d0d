-- How the properties of what stands at a path are changed, and why they aren't (RFC 4918 section 9.2).
use Rattle.std.specs.Prelude.{◌≡◌, ◌≢◌, List, None, Some}
use Rattle.dav_path_core.specs.Fronts.{Path}
use Rattle.dav_files_core.specs.Properties.{patched_properties}
use Rattle.dav_files_core.specs.Resources.{Resource, at_path}
use Rattle.dav_guarded_core.specs.Step.{State}
use Rattle.dav_faults_core.specs.declared.faults.Fault.{Fault}
use Rattle.dav_faults_core.specs.declared.faults.Fault.TheVariants as fault
use Rattle.dav_session_core.specs.Callers.{Caller, refusing_at}
use Rattle.dav_session_core.specs.LocksInTheWay.{IsPathOfOne}
use Rattle.dav_documents_core.specs.PropertyUpdates.{Update}

-- the properties of a resource, set and removed one after another; its times stay
abbrev pub with_updates : List Update → Resource → Resource
with_updates updates r = record r { node = record r.node { props = patched_properties r.node.props updates } }

-- What stands at the path has its properties so, and nothing else has changed. No two states are
-- left
-- so.
pub record IsPatched (p : Path) (updates : List Update) (s s' : State) : Type 0 where
  pub resource : Resource
  pub stood : at_path s.map p ≡ Some resource
  pub stands : at_path s'.map p ≡ Some (with_updates updates resource)
  pub others : (q : Path) → q ≢ p → at_path s'.map q ≡ at_path s.map q
  pub next : s'.map.next ≡ s.map.next
  pub left : s' ≡ record s { map = s'.map }

-- why the stores don't: nothing stands there; or a lock refuses it, whose path is told
abbrev pub KeepsProperties : State → Caller → Path → Fault → Type 0
KeepsProperties s who p fault.InsufficientStorage = Unit {0}
KeepsProperties s who p fault.NotFound = at_path s.map p ≡ None
KeepsProperties s who p (fault.Locked path) = IsPathOfOne (refusing_at s who p) path
KeepsProperties s who p e = ⊥
