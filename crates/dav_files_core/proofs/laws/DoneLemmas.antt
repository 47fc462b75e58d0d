-- What a command that is done says of the map before it, and that the map after it is a resource map.
use Rattle.std.proofs.Common.{◌≡◌, ◌⊎◌, inl, inr, ℕ, [], ◌∷◌, ◌++◌, Option, Some, None, is_some, Result, Ok, Err, refl, sym, ap, ◌∙◌, subst}
use Rattle.std.specs.Prelude.{if◌then◌else◌}
use Rattle.dav_path_core.specs.declared.errors.FsError.{FsError}
use Rattle.dav_path_core.specs.declared.errors.FsError.TheVariants.{Exists}
use Rattle.dav_path_core.specs.Fronts.{Segment, Path, parent}
use Rattle.dav_path_core.proofs.lists.FinMaps.{none_some, get_other, dec}
use Rattle.dav_path_core.proofs.lists.Orders.{path_total, path_exact}
use Rattle.dav_path_core.proofs.lists.Snoc.{by_last}
use Rattle.dav_files_core.specs.declared.memfs.Kind.TheVariants.{Folder}
use Rattle.dav_files_core.specs.Finding.{find}
use Rattle.dav_files_core.specs.Folders.{create_dir}
use Rattle.dav_files_core.specs.Outcomes.{Outcome, ◌>>=◌, find_folder, with_new_entry, with_modified_time, touched_at, new_folder}
use Rattle.dav_files_core.specs.Renaming.{rename, relocated_map}
use Rattle.dav_files_core.specs.Private.Entries.{IsBare}
use Rattle.dav_files_core.specs.Resources.{Node, Resource, ResourceMap, at_path, IsResourceMap}
use Rattle.dav_files_core.proofs.changes.AddedLemmas.{IsResourceMap-added}
use Rattle.dav_files_core.proofs.changes.ChangedLemmas.{IsResourceMap-changed}
use Rattle.dav_files_core.proofs.walks.FoundLemmas.{folder_there, found_there, parent-snoc}

-- a command that went on had an answer to go on with
went_on : {A B : Type 0} (o : Result A FsError) (f : A → Result B FsError) (y : B) → o >>= f ≡ Ok y → (x : A) × (o ≡ Ok x) × (f x ≡ Ok y)
went_on (Ok x) f y h = (x, refl, h)
went_on (Err e) f y h = absurd (cc)

left_is : (x m : ResourceMap) → ◌≡◌ {A = Outcome (Unit {0})} (Ok (tt, x)) (Ok (tt, m)) → m ≡ x
left_is x m h = let pairs : (tt {0}, x) ≡ (tt {0}, m) = cc in ap (λ (x : Unit {0} × ResourceMap). x.1) (sym pairs)

-- ---- a modified time that is set
module _ (m : ResourceMap) (q : Path) (now : ℕ) where
  pub touched_other : (p : Path) → ¬ (p ≡ q) → at_path (with_modified_time m q now) p ≡ at_path m p
  touched_other p other = by (at_path m q)
    where
      by : (o : Option Resource) → at_path (touched_at m q now o) p ≡ at_path m p
      by None = refl
      by (Some r) = get_other path_total path_exact m.entries q (record { number = r.number; node = record r.node { modified = now } }) p other

  pub touched_none : (p : Path) → at_path m p ≡ None → at_path (with_modified_time m q now) p ≡ None
  touched_none p none = elim (dec path_total path_exact p q) [
    | inl same ↦ ap (λ (o : Option Resource). at_path (touched_at m q now o) p) (ap (at_path m) (sym same) ∙ none) ∙ none
    | inr other ↦ touched_other p other ∙ none
  ]

  pub IsResourceMap-touched : IsResourceMap m → IsResourceMap (with_modified_time m q now)
  IsResourceMap-touched is_map = by (at_path m q) refl
    where
      by : (o : Option Resource) → at_path m q ≡ o → IsResourceMap (touched_at m q now o)
      by None e = is_map
      by (Some r) e = IsResourceMap-changed m is_map q r (record r.node { modified = now }) e (λ f. f) (is_map.bare q r e)

-- ---- an entry that is new in its folder
pub IsResourceMap-added_free : (m : ResourceMap) (p : Path) (node : Node) (f : Resource) → IsResourceMap m → at_path m p ≡ None → find_folder m (parent p) ≡ Ok f → IsBare node → IsResourceMap (with_new_entry m p node)
IsResourceMap-added_free m p node f is_map free folder bare = by (by_last p)
  where
    by : (p ≡ []) ⊎ ((q : Path) × (s : Segment) × (p ≡ q ++ (s ∷ []))) → IsResourceMap (with_new_entry m p node)
    by (inl empty) = none_some (at_path m p) is_map.root.0 free (ap (at_path m) empty ∙ is_map.root.1)
    by (inr last) =
        let above = folder_there m (parent p) f folder in
        let here : at_path m last.0 ≡ Some f = ap (at_path m) (sym (ap parent last.2 ∙ parent-snoc last.0 last.1)) ∙ above.0 in
        subst (λ p. IsResourceMap (with_new_entry m p node)) (sym last.2)
        (IsResourceMap-added m is_map last.0 last.1 f node here above.1 (ap (at_path m) (sym last.2) ∙ free) bare)

-- ---- a folder that was made
pub record MadeFolder (m m' : ResourceMap) (p : Path) (now : ℕ) : Type 0 where
  pub folder : (f : Resource) × (at_path m (parent p) ≡ Some f) × (f.node.kind ≡ Folder)
  pub free : at_path m p ≡ None
  pub left : m' ≡ with_modified_time (with_new_entry m p (new_folder now)) (parent p) now

pub made_folder : (m m' : ResourceMap) (p : Path) (now : ℕ) → create_dir m p now ≡ Ok (tt, m') → MadeFolder m m' p now
made_folder m m' p now h =
    let w = went_on (find_folder m (parent p)) (λ (_ : Resource). if is_some (at_path m p) then Err Exists else Ok (tt {0}, with_modified_time (with_new_entry m p (new_folder now)) (parent p) now)) (tt {0}, m') h in
    let f = folder_there m (parent p) w.0 w.1 in
    let rest = by (at_path m p) w.2 in
    record { folder = (w.0, f.0, f.1); free = rest.0; left = rest.1 }
  where
    by : (o : Option Resource) → ◌≡◌ {A = Outcome (Unit {0})} (if is_some o then Err Exists else Ok (tt, with_modified_time (with_new_entry m p (new_folder now)) (parent p) now)) (Ok (tt, m')) → (o ≡ None) × (m' ≡ with_modified_time (with_new_entry m p (new_folder now)) (parent p) now)
    by None h = (refl, left_is _ m' h)
    by (Some r) h = absurd (cc)

-- ---- an entry that was renamed
pub record RenamedEntry (m m' : ResourceMap) (from to : Path) (now : ℕ) : Type 0 where
  pub source : (r : Resource) × (at_path m from ≡ Some r)
  pub folder : (f : Resource) × (find_folder m (parent to) ≡ Ok f)
  pub between : (x : ResourceMap) × (relocated_map m from to ≡ Ok x) × (m' ≡ with_modified_time (with_modified_time x (parent from) now) (parent to) now)

pub renamed_entry : (m m' : ResourceMap) (from to : Path) (now : ℕ) → rename m from to now ≡ Ok (tt, m') → RenamedEntry m m' from to now
renamed_entry m m' from to now h =
    let a = went_on (find m from) (λ (_ : Resource). find_folder m (parent to) >>= λ (_ : Resource). relocated_map m from to >>= done) (tt {0}, m') h in
    let b = went_on (find_folder m (parent to)) (λ (_ : Resource). relocated_map m from to >>= done) (tt {0}, m') a.2 in
    let c = went_on (relocated_map m from to) done (tt {0}, m') b.2 in
    record { source = (a.0, found_there m from a.0 a.1); folder = (b.0, b.1); between = (c.0, c.1, left_is _ m' c.2) }
  where
    done : ResourceMap → Outcome (Unit {0})
    done x = Ok (tt, with_modified_time (with_modified_time x (parent from) now) (parent to) now)
