-- Where a method puts something, by what is known to stand there (own).
use Rattle.std.specs.Prelude.{◌≡◌, Bool, true, false, List, [], ◌∷◌, Option, None, Some, if◌then◌else◌}
use Rattle.dav_path_core.specs.Fronts.{Path, parent}
use Rattle.dav_files_core.specs.declared.memfs.Kind.TheVariants.{Folder, File}
use Rattle.dav_files_core.specs.Meta.{Meta}
use Rattle.dav_files_core.specs.Resources.{Resource, ResourceMap, at_path}
use Rattle.dav_guarded_core.specs.Checks.{Check, member, shallow}
use Rattle.dav_faults_core.specs.declared.faults.Fault.{Fault}
use Rattle.dav_faults_core.specs.declared.faults.Fault.TheVariants as fault
use Rattle.dav_fields_core.specs.Marking.{IsNone}

-- what is checked, where something stands there or not
abbrev pub target_by : Bool → Path → List Check
target_by there p = if there then shallow p ∷ [] else member p false

-- a file can stand there
abbrev pub HasPlace : ResourceMap → Path → Option Meta → Type 0
HasPlace m p (Some known) = known.kind ≡ File
HasPlace m p None = (r : Resource) × (at_path m (parent p) ≡ Some r) × (r.node.kind ≡ Folder)

-- it can't, and this is why
abbrev pub LacksPlace : ResourceMap → Path → Option Meta → Fault → Type 0
LacksPlace m p (Some known) e = (e ≡ fault.MethodNotAllowed true) × (known.kind ≡ Folder)
LacksPlace m p None e = (e ≡ fault.Conflict) × IsNone m (parent p) Folder
