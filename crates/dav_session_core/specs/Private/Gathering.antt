-- Why the members of a folder can't be named. Private contracts alone speak of it.
use Rattle.std.specs.Prelude.{◌≡◌, ◌⊎◌}
use Rattle.dav_path_core.specs.Fronts.{Path}
use Rattle.dav_files_core.specs.Resources.{ResourceMap}
use Rattle.dav_faults_core.specs.declared.faults.Fault.{Fault}
use Rattle.dav_faults_core.specs.declared.faults.Fault.TheVariants as fault
use Rattle.dav_session_core.specs.Subtrees.{HasOddMember}

-- a member has such a name, or there is no memory
abbrev pub FailsToName : ResourceMap → Path → Fault → Type 0
FailsToName m p e =
    (e ≡ fault.InsufficientStorage) ⊎ ((e ≡ fault.BadRequest) × HasOddMember m p)
