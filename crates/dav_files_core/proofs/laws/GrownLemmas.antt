-- Each command leaves a resource map, whose numbers are those that were there, or new.
use Rattle.std.proofs.Common.{◌≡◌, ◌⊎◌, inl, inr, ℕ, ◌+◌, ◌≤◌, Bool, true, false, List, [], ◌∷◌, ◌++◌, Option, Some, None, is_some, Result, Ok, Err, refl, sym, ap, ◌∙◌, subst, arith, append-nil}
use Rattle.std.specs.Prelude.{◌||◌, if◌then◌else◌, nat_lt, length, ◌^◌, option_and_then, unwrap_or}
use Rattle.std.proofs.lemmas.Bool.{or_parts, true≢false}
use Rattle.dav_path_core.specs.declared.errors.FsError.{FsError}
use Rattle.dav_path_core.specs.declared.errors.FsError.TheVariants.{Exists, Forbidden, TooLarge}
use Rattle.dav_path_core.specs.Fronts.{Segment, Path, parent, behind}
use Rattle.dav_path_core.proofs.lists.FinMaps.{none_some, get_gone, inserted, removed}
use Rattle.dav_path_core.proofs.lists.Orders.{path_total, path_exact}
use Rattle.dav_path_core.proofs.lists.Snoc.{by_last, snoc_not_empty}
use Rattle.dav_path_core.proofs.trees.Trees.{none_from_is_some}
use Rattle.dav_files_core.specs.declared.fs.OpenOptions.{OpenOptions}
use Rattle.dav_files_core.specs.declared.memfs.Kind.{Kind}
use Rattle.dav_files_core.specs.declared.memfs.Kind.TheVariants.{Folder, File}
use Rattle.dav_files_core.specs.ContentParts.{write_at}
use Rattle.dav_files_core.specs.ResourcePutting.{put, put_at}
use Rattle.dav_files_core.specs.ResourceCopying.{copy, copy_to}
use Rattle.dav_files_core.specs.Finding.{find, has_members}
use Rattle.dav_files_core.specs.Folders.{create_dir, is_root, remove}
use Rattle.dav_files_core.specs.Following.{NeverAgain}
use Rattle.dav_files_core.specs.Moved.{moved_map, path_after}
use Rattle.dav_files_core.specs.OpenFiles.{open_file, overwritten_at, start_of_write, write_bytes}
use Rattle.dav_files_core.specs.Opening.{OpenFile, opened_file, opening, opening_at, emptied_if}
use Rattle.dav_files_core.specs.Outcomes.{Outcome, ◌>>=◌, only_file, find_folder, with_new_entry, with_other_node, without, with_modified_time, touched_at, new_file, new_folder}
use Rattle.dav_files_core.specs.Private.Entries.{HasNumber, IsBare}
use Rattle.dav_files_core.specs.Properties.{patch_answers, patch_props, patched_properties}
use Rattle.dav_files_core.specs.Renaming.{rename, relocated_map, put_elsewhere}
use Rattle.dav_files_core.specs.Resources.{Node, Property, Resource, ResourceMap, at_path, IsResourceMap}
use Rattle.dav_files_core.proofs.changes.ChangedLemmas.{IsResourceMap-changed}
use Rattle.dav_files_core.proofs.changes.WithoutLemmas.{IsResourceMap-without, stays}
use Rattle.dav_files_core.proofs.laws.DoneLemmas.{IsResourceMap-added_free, IsResourceMap-touched}
use Rattle.dav_files_core.proofs.moves.MovedLemmas.{get-moved, moved-without}
use Rattle.dav_files_core.proofs.moves.MovingLemmas.{IsResourceMap-moved}
use Rattle.dav_files_core.proofs.opens.NumberedLemmas.{gone_number, number_gone}
use Rattle.dav_files_core.proofs.opens.OpenedLemmas.{is_open}
use Rattle.dav_path_core.proofs.paths.FrontLemmas.{behind_append}
use Rattle.dav_files_core.proofs.paths.LengthLemmas.{no_longer}
use Rattle.dav_files_core.proofs.walks.FoundLemmas.{folder_there, found_there, parent-snoc}
use Rattle.dav_files_core.proofs.walks.HasMembersLemmas.{no_members}

-- each number of the second map is one of the first, or not below its next one
abbrev pub Known : ResourceMap → ResourceMap → Type 0
Known m m' = (q : Path) (x : Resource) → at_path m' q ≡ Some x → HasNumber m x.number ⊎ (m.next ≤ x.number)

pub record Grows (m m' : ResourceMap) : Type 0 where
  pub on : m.next ≤ m'.next
  pub known : Known m m'
  pub shape : IsResourceMap m → IsResourceMap m'

-- ---- an entry put where one without members may stand
module _ (m : ResourceMap) (is_map : IsResourceMap m) (from : Path) (r : Resource) (source : at_path m from ≡ Some r) (not_root : ¬ (from ≡ []))
    (p : Path) (name : Segment) (f : Resource) (folder : at_path m p ≡ Some f) (is_folder : f.node.kind ≡ Folder)
    (leaf : has_members m (p ++ (name ∷ [])) ≡ false) (apart : behind from (p ++ (name ∷ [])) ≡ None) where
  abbrev to : Path
  to = p ++ (name ∷ [])

  not_target : ¬ (from ≡ to)
  not_target e = none_some (behind from to) [] apart (ap (behind from) (sym e ∙ sym (append-nil from)) ∙ behind_append from [])

  not_folder : ¬ (p ≡ to)
  not_folder e = no_longer p name [] (e ∙ sym (append-nil to))

  IsResourceMap-put_over : IsResourceMap (moved_map m from to)
  IsResourceMap-put_over = by (at_path m to) refl
    where
      by : (o : Option Resource) → at_path m to ≡ o → IsResourceMap (moved_map m from to)
      by None e = IsResourceMap-moved m is_map from r p f name source not_root folder is_folder e apart
      by (Some x) e =
          let left = IsResourceMap-without m is_map to x e (snoc_not_empty p name) (no_members m to leaf) in
          subst IsResourceMap (moved-without m from to apart)
          (IsResourceMap-moved (without m to) left from r p f name
          (stays m is_map to x e (snoc_not_empty p name) (no_members m to leaf) from r not_target source) not_root
          (stays m is_map to x e (snoc_not_empty p name) (no_members m to leaf) p f not_folder folder) is_folder (get_gone path_total path_exact m.entries to) apart)

-- ---- changes of the map
-- a file needs no folder's shape
file_bare : (node : Node) → node.kind ≡ File → IsBare node
file_bare node file folder = let both : File ≡ Folder = sym file ∙ folder in absurd (cc)

only_file_is : (r x : Resource) → only_file r ≡ Ok x → (x ≡ r) × (x.node.kind ≡ File)
only_file_is r x h = by r.node.kind refl h
  where
    by : (k : Kind) → r.node.kind ≡ k → ◌≡◌ {A = Result Resource FsError} (elim k [ Folder ↦ Err Forbidden | File ↦ Ok r ]) (Ok x) → (x ≡ r) × (x.node.kind ≡ File)
    by Folder e h = absurd (cc)
    by File e h = let same : r ≡ x = cc in (sym same, ap (λ (r : Resource). r.node.kind) (sym same) ∙ e)

module _ (m : ResourceMap) where
  pub itself : Grows m m
  itself = record { on = omega arith; known = λ q x h. inl (q, x, h, refl); shape = λ is_map. is_map }

  by_added : (p : Path) (node : Node) (f : Resource) → at_path m p ≡ None → find_folder m (parent p) ≡ Ok f → (IsResourceMap m → IsBare node) → Grows m (with_new_entry m p node)
  by_added p node f free folder bare = record {
    on = omega arith;
    known = λ q x h. elim (inserted path_total path_exact m.entries p (record { number = m.next; node = node }) q x h) [
      | inl new ↦ let number : x.number ≡ m.next = ap (λ (r : Resource). r.number) new.1 in inr (omega arith)
      | inr old ↦ inl (q, x, old.1, refl)
    ];
    shape = λ is_map. IsResourceMap-added_free m p node f is_map free folder (bare is_map);
  }

  by_changed : (p : Path) (r : Resource) (node : Node) → at_path m p ≡ Some r → (r.node.kind ≡ Folder → node.kind ≡ Folder) → (IsResourceMap m → IsBare node) → Grows m (with_other_node m p r node)
  by_changed p r node here still_folder bare = record {
    on = omega arith;
    known = λ q x h. elim (inserted path_total path_exact m.entries p (record { number = r.number; node = node }) q x h) [
      | inl new ↦ inl (p, r, here, ap (λ (r : Resource). r.number) (sym new.1))
      | inr old ↦ inl (q, x, old.1, refl)
    ];
    shape = λ is_map. IsResourceMap-changed m is_map p r node here still_folder (bare is_map);
  }

  -- a file that gets another node
  by_file : (p : Path) (r x : Resource) (node : Node) → at_path m p ≡ Some r → only_file r ≡ Ok x → (IsResourceMap m → IsBare node) → Grows m (with_other_node m p x node)
  by_file p r x node here h bare =
      let is = only_file_is r x h in
      by_changed p x node (here ∙ ap Some (sym is.0)) (λ folder. let both : File ≡ Folder = sym is.1 ∙ folder in absurd (cc)) bare

  by_without : (p : Path) (r : Resource) → at_path m p ≡ Some r → is_root p ≡ false → has_members m p ≡ false → Grows m (without m p)
  by_without p r here root leaf = record {
    on = omega arith;
    known = λ q x h. inl (q, x, (removed path_total path_exact m.entries p q x h).1, refl);
    shape = λ is_map. IsResourceMap-without m is_map p r here (λ e. true≢false (sym (ap is_root e) ∙ root)) (no_members m p leaf);
  }

  by_touched : (p : Path) (now : ℕ) → Grows m (with_modified_time m p now)
  by_touched p now = record { on = (steps (at_path m p) refl).0; known = (steps (at_path m p) refl).1; shape = IsResourceMap-touched m p now }
    where
      steps : (o : Option Resource) → at_path m p ≡ o → (m.next ≤ (touched_at m p now o).next) × Known m (touched_at m p now o)
      steps None e = (omega arith, λ q x h. inl (q, x, h, refl))
      steps (Some r) e = (
        omega arith,
        λ q x h. elim (inserted path_total path_exact m.entries p (record { number = r.number; node = record r.node { modified = now } }) q x h) [
          | inl new ↦ inl (p, r, e, ap (λ (r : Resource). r.number) (sym new.1))
          | inr old ↦ inl (q, x, old.1, refl)
        ],
      )

  by_moved : (from to : Path) (r f : Resource) → at_path m from ≡ Some r → is_root from ≡ false → find_folder m (parent to) ≡ Ok f → is_root to ≡ false → has_members m to ≡ false → behind from to ≡ None → Grows m (moved_map m from to)
  by_moved from to r f source not_root folder away leaf apart = record {
    on = omega arith;
    known = λ q x h. by q x (path_after to from q) (sym (get-moved m from to q) ∙ h);
    shape = λ is_map. over is_map (by_last to);
  }
    where
      by : (q : Path) (x : Resource) (o : Option Path) → option_and_then (at_path m) o ≡ Some x → HasNumber m x.number ⊎ (m.next ≤ x.number)
      by q x None h = absurd (cc)
      by q x (Some p) h = inl (p, x, h, refl)

      over : IsResourceMap m → (to ≡ []) ⊎ ((q : Path) × (s : Segment) × (to ≡ q ++ (s ∷ []))) → IsResourceMap (moved_map m from to)
      over is_map (inl empty) = absurd (true≢false (sym (ap is_root empty) ∙ away))
      over is_map (inr last) =
          let above = folder_there m (parent to) f folder in
          let at : at_path m last.0 ≡ Some f = ap (at_path m) (sym (ap parent last.2 ∙ parent-snoc last.0 last.1)) ∙ above.0 in
          subst (λ to. IsResourceMap (moved_map m from to)) (sym last.2)
          (IsResourceMap-put_over m is_map from r source (λ e. true≢false (sym (ap is_root e) ∙ not_root)) last.0 last.1 f at above.1
          (ap (has_members m) (sym last.2) ∙ leaf) (ap (behind from) (sym last.2) ∙ apart))

both : (a b c : ResourceMap) → Grows a b → Grows b c → Grows a c
both a b c f g = record {
  on = let one = f.on in let two = g.on in omega arith;
  known = λ q x h. elim (g.known q x h) [
    | inl old ↦ elim (f.known old.0 old.1 old.2) [
      | inl older ↦ inl (older.0, older.1, older.2, older.3 ∙ old.3)
      | inr new ↦ inr (subst (λ n. a.next ≤ n) old.3 new)
    ]
    | inr new ↦ inr (let one = f.on in omega arith)
  ];
  shape = λ is_map. g.shape (f.shape is_map);
}

-- ---- outcomes
abbrev pub Grown : {A : Type 0} → ResourceMap → (A → ResourceMap) → Result A FsError → Type 0
Grown {A} m left o = (x : A) → o ≡ Ok x → Grows m (left x)

module _ {A : Type 0} (m : ResourceMap) (left : A → ResourceMap) where
  ok : (x : A) → Grows m (left x) → Grown m left (Ok x)
  ok x g y h = let same : x ≡ y = cc in subst (λ x. Grows m (left x)) same g

  err : (e : FsError) → Grown m left (Err e)
  err e y h = absurd (cc)

  first : {B : Type 0} (o : Result B FsError) (f : B → Result A FsError) → ((y : B) → o ≡ Ok y → Grown m left (f y)) → Grown m left (o >>= f)
  first (Ok y) f g = g y refl
  first (Err e) f g = err e

  chosen : (b : Bool) (s t : Result A FsError) → Grown m left s → (b ≡ false → Grown m left t) → Grown m left (if b then s else t)
  chosen true s t g h = g
  chosen false s t g h = h refl

abbrev pub map_of : {A : Type 0} → A × ResourceMap → ResourceMap
map_of x = x.1

-- ---- commands
module _ (m : ResourceMap) where
  pub put_grows : (p : Path) (bytes : List ℕ) (now : ℕ) → Grown m map_of (put m p bytes now)
  put_grows p bytes now = by (at_path m p) refl
    where
      by : (o : Option Resource) → at_path m p ≡ o → Grown m map_of (put_at m p bytes now o)
      by (Some r) e = first m map_of (only_file r) (λ (r : Resource). Ok (tt, with_other_node m p r (record r.node { bytes = bytes; modified = now })))
          (λ x h. ok m map_of (tt, with_other_node m p x (record x.node { bytes = bytes; modified = now })) (by_file m p r x (record x.node { bytes = bytes; modified = now }) e h
          (λ _. file_bare (record x.node { bytes = bytes; modified = now }) (only_file_is r x h).1)))
      by None e = first m map_of (find_folder m (parent p)) (λ (_ : Resource). Ok (tt, with_new_entry m p (new_file bytes now)))
          (λ x h. ok m map_of (tt, with_new_entry m p (new_file bytes now)) (by_added m p (new_file bytes now) x e h (λ _. file_bare (new_file bytes now) refl)))

  abbrev with_folder : Path → ℕ → ResourceMap
  with_folder p now = with_new_entry m p (new_folder now)

  abbrev made : Path → ℕ → ResourceMap
  made p now = with_modified_time (with_folder p now) (parent p) now

  pub create_dir_grows : (p : Path) (now : ℕ) → Grown m map_of (create_dir m p now)
  create_dir_grows p now = first m map_of (find_folder m (parent p)) (λ (_ : Resource). if is_some (at_path m p) then Err Exists else Ok (tt {0}, made p now))
      (λ x h. chosen m map_of (is_some (at_path m p)) (Err Exists) (Ok (tt, made p now)) (err m map_of Exists)
      (λ free. ok m map_of (tt, made p now) (both m (with_folder p now) (made p now) (by_added m p (new_folder now) x (none_from_is_some (at_path m p) free) h (λ _ _. refl)) (by_touched (with_folder p now) (parent p) now))))

  pub remove_grows : (p : Path) (now : ℕ) → Grown m map_of (remove m p now)
  remove_grows p now = first m map_of (find m p) (λ (_ : Resource). if is_root p || has_members m p then Err Forbidden else Ok (tt, with_modified_time (without m p) (parent p) now))
      (λ x h. chosen m map_of (is_root p || has_members m p) (Err Forbidden) (Ok (tt, with_modified_time (without m p) (parent p) now)) (err m map_of Forbidden)
      (λ leaf. let parts = or_parts (is_root p) (has_members m p) leaf in
      ok m map_of (tt, with_modified_time (without m p) (parent p) now) (both m (without m p) (with_modified_time (without m p) (parent p) now) (by_without m p x (found_there m p x h) parts.0 parts.1) (by_touched (without m p) (parent p) now))))

  relocated_grows : (from to : Path) (r f : Resource) → at_path m from ≡ Some r → find_folder m (parent to) ≡ Ok f → Grown m (λ (x : ResourceMap). x) (relocated_map m from to)
  relocated_grows from to r f source folder =
      chosen m (λ x. x) (is_root to) (Err (if is_root from then Forbidden else Exists)) _ (err m (λ x. x) (if is_root from then Forbidden else Exists))
      (λ away. chosen m (λ x. x) (has_members m to) (Err Exists) _ (err m (λ x. x) Exists)
      (λ leaf. chosen m (λ x. x) (is_root from) (Err Forbidden) _ (err m (λ x. x) Forbidden) (λ not_root. by away leaf not_root (behind from to) refl)))
    where
      by : is_root to ≡ false → has_members m to ≡ false → is_root from ≡ false → (o : Option Path) → behind from to ≡ o → Grown m (λ (x : ResourceMap). x) (put_elsewhere m from to o)
      by away leaf not_root (Some []) e = ok m (λ x. x) m (itself m)
      by away leaf not_root (Some (s ∷ below)) e = err m (λ x. x) Forbidden
      by away leaf not_root None e = ok m (λ x. x) (moved_map m from to) (by_moved m from to r f source not_root folder away leaf e)

  abbrev last : Path → Path → ℕ → ResourceMap → Outcome (Unit {0})
  last from to now z = Ok (tt, with_modified_time (with_modified_time z (parent from) now) (parent to) now)

  pub rename_grows : (from to : Path) (now : ℕ) → Grown m map_of (rename m from to now)
  rename_grows from to now =
      first m map_of (find m from) (λ (_ : Resource). find_folder m (parent to) >>= λ (_ : Resource). relocated_map m from to >>= last from to now)
      (λ x h. first m map_of (find_folder m (parent to)) (λ (_ : Resource). relocated_map m from to >>= last from to now)
      (λ y g. first m map_of (relocated_map m from to) (last from to now)
      (λ z e. ok m map_of (tt, with_modified_time (with_modified_time z (parent from) now) (parent to) now)
      (both m z (with_modified_time (with_modified_time z (parent from) now) (parent to) now) (relocated_grows from to x y (found_there m from x h) g z e)
      (both z (with_modified_time z (parent from) now) (with_modified_time (with_modified_time z (parent from) now) (parent to) now) (by_touched z (parent from) now) (by_touched (with_modified_time z (parent from) now) (parent to) now))))))

  pub copy_grows : (from to : Path) (now : ℕ) → Grown m map_of (copy m from to now)
  copy_grows from to now = first m map_of (find m from) (λ (r : Resource). copy_to m to (record r.node { created = now }) (at_path m to)) (λ r h. by (record r.node { created = now }) (λ is_map. is_map.bare from r (found_there m from r h)) (at_path m to) refl)
    where
      by : (node : Node) → (IsResourceMap m → IsBare node) → (o : Option Resource) → at_path m to ≡ o → Grown m map_of (copy_to m to node o)
      by node bare (Some target) e = first m map_of (only_file target) (λ (target : Resource). Ok (tt, with_other_node m to target node))
          (λ x h. ok m map_of (tt, with_other_node m to x node) (by_file m to target x node e h bare))
      by node bare None e = first m map_of (find_folder m (parent to)) (λ (_ : Resource). Ok (tt, with_new_entry m to node)) (λ x h. ok m map_of (tt, with_new_entry m to node) (by_added m to node x e h bare))

  pub opening_grows : (p : Path) (options : OpenOptions) (now : ℕ) → Grown m map_of (opening m p options now)
  opening_grows p options now = by (at_path m p) refl
    where
      emptied : (r : Resource) (b : Bool) → at_path m p ≡ Some r → Grows m (emptied_if m p r b now)
      emptied r true here = by_changed m p r (record r.node { bytes = []; modified = now }) here (λ folder. folder) (λ _ _. refl)
      emptied r false here = itself m

      by : (o : Option Resource) → at_path m p ≡ o → Grown m map_of (opening_at m p options now o)
      by (Some r) e =
          chosen m map_of options.create_new (Err Exists) (only_file r >>= λ (r : Resource). Ok (opened_file r.number options, emptied_if m p r options.truncate now)) (err m map_of Exists)
          (λ _. first m map_of (only_file r) (λ (r : Resource). Ok (opened_file r.number options, emptied_if m p r options.truncate now))
          (λ x h. ok m map_of (opened_file x.number options, emptied_if m p x options.truncate now) (emptied x options.truncate (e ∙ ap Some (sym (only_file_is r x h).0)))))
      by None e =
          chosen m map_of options.create (find_folder m (parent p) >>= λ (_ : Resource). Ok (opened_file m.next options, with_new_entry m p (new_file [] now))) (find m p >>= λ (r : Resource). Ok (opened_file r.number options, m))
          (first m map_of (find_folder m (parent p)) (λ (_ : Resource). Ok (opened_file m.next options, with_new_entry m p (new_file [] now)))
          (λ x h. ok m map_of (opened_file m.next options, with_new_entry m p (new_file [] now)) (by_added m p (new_file [] now) x e h (λ _ _. refl))))
          (λ _. first m map_of (find m p) (λ (r : Resource). Ok (opened_file r.number options, m)) (λ x h. ok m map_of (opened_file x.number options, m) (itself m)))

  pub patch_grows : (p : Path) (patch : List (Bool × Property)) → Grown m map_of (patch_props m p patch)
  patch_grows p patch = first m map_of (find m p) (λ (r : Resource). Ok (patch_answers patch, with_other_node m p r (record r.node { props = patched_properties r.node.props patch })))
      (λ r h. ok m map_of (patch_answers patch, with_other_node m p r (record r.node { props = patched_properties r.node.props patch })) (by_changed m p r (record r.node { props = patched_properties r.node.props patch }) (found_there m p r h) (λ folder. folder) (λ is_map. is_map.bare p r (found_there m p r h))))

  pub write_at_grows : (p : Path) (at : Option ℕ) (new : List ℕ) → Grown m map_of (write_at m p at new)
  write_at_grows p at new =
      first m map_of (find m p) (λ (r : Resource). only_file r >>= written) (λ r h. first m map_of (only_file r) written
      (λ x e. chosen m map_of (fits x) (Ok (tt, with_other_node m p x (node x))) (Err TooLarge)
      (ok m map_of (tt, with_other_node m p x (node x)) (by_file m p r x (node x) (found_there m p r h) e (λ _. file_bare (node x) (only_file_is r x e).1)))
      (λ _. err m map_of TooLarge)))
    where
      start : Resource → ℕ
      start r = unwrap_or at (length r.node.bytes)

      fits : Resource → Bool
      fits r = nat_lt (start r + length new) (2 ^ 64)

      node : Resource → Node
      node r = record r.node { bytes = overwritten_at r.node.bytes (start r) new }

      written : Resource → Outcome (Unit {0})
      written r = if fits r then Ok (tt, with_other_node m p r (node r)) else Err TooLarge

  abbrev file_map : Unit {0} × (OpenFile × ResourceMap) → ResourceMap
  file_map x = x.1.1

  abbrev written : OpenFile → List ℕ → Path × Resource → Node
  written f bytes e = record e.1.node { bytes = overwritten_at e.1.node.bytes (start_of_write f e.1.node.bytes) bytes }

  abbrev after : OpenFile → List ℕ → Path × Resource → OpenFile × ResourceMap
  after f bytes e =
      (record f { position = start_of_write f e.1.node.bytes + length bytes }, with_other_node m e.0 e.1 (written f bytes e))

  pub write_grows : (f : OpenFile) (bytes : List ℕ) → Grown m file_map (write_bytes m f bytes)
  write_grows f bytes = first m file_map (open_file m f) (λ (e : Path × Resource). if nat_lt (start_of_write f e.1.node.bytes + length bytes) (2 ^ 64) then Ok (tt {0}, after f bytes e) else Err TooLarge)
      (λ e h. chosen m file_map (nat_lt (start_of_write f e.1.node.bytes + length bytes) (2 ^ 64)) (Ok (tt, after f bytes e)) (Err TooLarge)
      (ok m file_map (tt, after f bytes e) (by_changed m e.0 e.1 (written f bytes e) (is_open m f e h).there (λ folder. folder) (λ _. file_bare (written f bytes e) (is_open m f e h).file))) (λ _. err m file_map TooLarge))

-- ---- so none gives a number again
pub never : (m m' : ResourceMap) → IsResourceMap m → Grows m m' → NeverAgain m m'
never m m' is_map g = (
  g.on,
  λ n below none. number_gone m' n (λ p x h number. elim (g.known p x h) [
    | inl old ↦ gone_number m is_map n none old.0 old.1 old.2 (old.3 ∙ number)
    | inr new ↦ absurd (omega arith)
  ]),
)
