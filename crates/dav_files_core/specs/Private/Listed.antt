-- How the members of a folder are listed, step by step (own).
use Rattle.std.specs.Prelude.{◌≡◌, ℕ, List, [], ◌∷◌, Some}
use Rattle.dav_path_core.specs.Fronts.{Segment, Path}
use Rattle.dav_files_core.specs.declared.memfs.listing.MemFsEntry.{MemFsEntry}
use Rattle.dav_files_core.specs.Resources.{Resource, ResourceMap, at_path}
use Rattle.dav_files_core.specs.Meta.{meta_at, meta_of}
use Rattle.dav_files_core.specs.Private.Entries.{HasNumber}

-- a member by its name and number
abbrev pub numbered_member : Segment × Resource → Segment × ℕ
numbered_member e = (e.0, e.1.number)

-- each number is that of an entry
abbrev pub AllNumbers : ResourceMap → List (Segment × ℕ) → Type 0
AllNumbers m [] = Unit {0}
AllNumbers m (x ∷ xs) = HasNumber m x.1 × AllNumbers m xs

-- an entry that is listed for a name and a number
abbrev pub IsListedAs : ResourceMap → Segment × ℕ → MemFsEntry → Type 0
IsListedAs m x e = (e.name ≡ x.0) × ((p : Path) (r : Resource) → at_path m p ≡ Some r → r.number ≡ x.1 → meta_of e.meta ≡ meta_at r.node)

abbrev pub Described : ResourceMap → List (Segment × ℕ) → List MemFsEntry → Type 0
Described m [] [] = Unit {0}
Described m (x ∷ xs) (e ∷ es) = IsListedAs m x e × Described m xs es
Described m _ _ = ⊥
