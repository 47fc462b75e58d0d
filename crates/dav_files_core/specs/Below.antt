-- What stands at and below a folder, and commands that see nothing else (RFC 4918 section 5.2).
use Rattle.std.specs.Prelude.{◌≡◌, Bool, true, ◌&&◌, not, ◌++◌, is_some, Result, Ok, Err}
use Rattle.dav_path_core.specs.declared.errors.FsError.{FsError}
use Rattle.dav_path_core.specs.Fronts.{Path, is_front, is_same_path}
use Rattle.dav_files_core.specs.Resources.{ResourceMap, at_path}
use Rattle.dav_files_core.specs.Outcomes.{Outcome}

-- the path stands below the folder, and isn't the folder's own
abbrev pub is_below : Path → Path → Bool
is_below folder p = is_front folder p && not (is_same_path folder p)

-- two maps have the same entries at and below a path
abbrev pub SameBelow : Path → ResourceMap → ResourceMap → Type 0
SameBelow folder m m' = (s : Path) → at_path m' (folder ++ s) ≡ at_path m (folder ++ s)

-- two maps have the same entries at and below a path that has one, and the same next number
pub record AgreeBelow (folder : Path) (m m' : ResourceMap) : Type 0 where
  pub there : is_some (at_path m folder) ≡ true
  pub same : SameBelow folder m m'
  pub next : m'.next ≡ m.next

-- both are done, with answers that the relation holds of, or both are refused alike
abbrev pub Alike : {A : Type 0} → (A → A → Type 0) → Result A FsError → Result A FsError → Type 0
Alike R (Ok x) (Ok y) = R x y
Alike R (Ok x) (Err d) = ⊥
Alike R (Err e) (Ok y) = ⊥
Alike R (Err e) (Err d) = d ≡ e

-- the same answer, and maps that agree
abbrev pub SameAnswer : {A : Type 0} → Path → A × ResourceMap → A × ResourceMap → Type 0
SameAnswer folder x y = (y.0 ≡ x.0) × AgreeBelow folder x.1 y.1

-- where two maps agree, the command has the same reply in both, and they agree afterwards
abbrev pub SeesBelow : {A : Type 0} → Path → (ResourceMap → Outcome A) → Type 0
SeesBelow folder command = (m m' : ResourceMap) → AgreeBelow folder m m' → Alike (SameAnswer folder) (command m) (command m')

-- the same of a command that changes nothing
abbrev pub TellsBelow : {A : Type 0} → Path → (ResourceMap → Result A FsError) → Type 0
TellsBelow folder command = (m m' : ResourceMap) → AgreeBelow folder m m' → command m' ≡ command m
