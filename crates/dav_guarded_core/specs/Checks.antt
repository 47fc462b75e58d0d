-- What a command is checked for (RFC 4918 section 7): at which paths something may change, one clause a command.
use Rattle.std.specs.Prelude.{◌≡◌, ◌≢◌, List, [], ◌∷◌, ◌++◌, Bool, true, false, is_some, if◌then◌else◌}
use Rattle.std.specs.List.{list_any}
use Rattle.dav_path_core.specs.Fronts.{Path, parent}
use Rattle.dav_files_core.specs.Resources.{ResourceMap, at_path}
use Rattle.dav_locks_core.specs.Lock.{Lock}
use Rattle.dav_locks_core.specs.Locks.{LockCaller, reaches, check_conflicts}
use Rattle.dav_guarded_core.specs.Requests.{Command, Request}

-- a path at which something changes, and where it is deep below it too
pub record Check : Type 0 where
  pub path : Path
  pub deep : Bool

abbrev pub reach_check : Path → Bool → Check
reach_check p deep = record { path = p; deep = deep }

abbrev pub shallow : Path → Check
shallow p = reach_check p false

-- whether something may change at the path
abbrev pub is_reached : Check → Path → Bool
is_reached k p = reaches k.path k.deep p

-- no check of a list reaches the path
abbrev pub IsApart : List Check → Path → Type 0
IsApart ks p = list_any (λ k. is_reached k p) ks ≡ false

-- a request's tokens count under its principal alone
abbrev pub caller_of : Request → LockCaller
caller_of r = record { principal = r.principal; ignore = false; tokens = r.tokens }

-- the locks that refuse one of the checks
abbrev pub refusing : List Lock → LockCaller → List Check → List Lock
refusing locks who [] = []
refusing locks who (k ∷ ks) = check_conflicts locks k.path k.deep who ++ refusing locks who ks

-- something stands at the path
abbrev pub has : ResourceMap → Path → Bool
has m p = is_some (at_path m p)

-- what is made or taken away changes its parent too
abbrev pub member : Path → Bool → List Check
member p deep = reach_check p deep ∷ shallow (parent p) ∷ []

-- a target is made where it isn't there
abbrev pub target : ResourceMap → Path → List Check
target m p = if has m p then shallow p ∷ [] else member p false

-- the first column of the table of commands: what each is checked for
abbrev pub checks : ResourceMap → Command → List Check
checks m (Command.Put path bytes) = target m path
checks m (Command.Write path at bytes) = shallow path ∷ []
checks m (Command.MkCol path) = member path false
checks m (Command.Remove path) = member path true
checks m (Command.Move from to) = member from true ++ member to true
checks m (Command.Copy from to) = target m to
checks m (Command.PatchProps path patch) = shallow path ∷ []
checks m (Command.Check path deep) = reach_check path deep ∷ []
checks m _ = []

-- checks may be out of memory only to show a lock that refuses one of them
abbrev pub MayLack : List Lock → LockCaller → List Check → Type 0
MayLack locks who ks = refusing locks who ks ≢ []
