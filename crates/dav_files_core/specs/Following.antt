-- Laws of open files: what a rename does to the entries with numbers, and that a number is given once (own).
use Rattle.std.specs.Prelude.{◌≡◌, ℕ, ◌<◌, ◌≤◌, ◌++◌, ◌||◌, Some, None, if◌then◌else◌}
use Rattle.dav_path_core.specs.Fronts.{Path, parent, behind, is_same_path}
use Rattle.dav_files_core.specs.OpenFiles.{with_number}
use Rattle.dav_files_core.specs.Resources.{Resource, ResourceMap}

-- what is at or below the one path with its number is at or below the other, as it was
abbrev pub TakesAlong : ResourceMap → Path → Path → ResourceMap → Type 0
TakesAlong m from to m' = (n : ℕ) (s : Path) (r : Resource) → with_number m n ≡ Some (from ++ s, r) → with_number m' n ≡ Some (to ++ s, r)

-- what is at or below the target, and not at or below the source, is gone
abbrev pub TakesPlace : ResourceMap → Path → Path → ResourceMap → Type 0
TakesPlace m from to m' = (n : ℕ) (s : Path) (r : Resource) → with_number m n ≡ Some (to ++ s, r) → behind from (to ++ s) ≡ None → with_number m' n ≡ None

-- an entry with another modified time
abbrev pub dated_entry : ℕ → Resource → Resource
dated_entry now r = record { number = r.number; node = record r.node { modified = now } }

-- an entry elsewhere, as a rename leaves it
abbrev pub dated_folder : Path → Path → ℕ → Path → Resource → Resource
dated_folder from to now p r = if is_same_path p (parent from) || is_same_path p (parent to) then dated_entry now r else r

-- what is neither at or below the source nor at or below the target stays
abbrev pub OthersStay : ResourceMap → Path → Path → ℕ → ResourceMap → Type 0
OthersStay m from to now m' = (n : ℕ) (p : Path) (r : Resource) → with_number m n ≡ Some (p, r) → behind from p ≡ None → behind to p ≡ None
    → with_number m' n ≡ Some (p, dated_folder from to now p r)

-- a number that is gone, as all below the next one are that no entry has, isn't given again
abbrev pub NeverAgain : ResourceMap → ResourceMap → Type 0
NeverAgain m m' = (m.next ≤ m'.next) × ((n : ℕ) → n < m.next → with_number m n ≡ None → with_number m' n ≡ None)
