-- The places that commands change: those of their paths, and of the parents of those.
use Rattle.std.proofs.Common.{◌≡◌, ◌⊎◌, inl, inr, ℕ, ◌+◌, ◌^◌, length, Bool, true, false, ◌||◌, is_some, List, [], ◌∷◌, ◌++◌, Option, Some, None, Result, Ok, Err, refl, sym, ap, ◌∙◌}
use Rattle.std.specs.Prelude.{if◌then◌else◌, nat_lt, unwrap_or}
use Rattle.std.proofs.lemmas.Bool.{false≢true, false_from_ne_true}
use Rattle.dav_path_core.specs.declared.errors.FsError.{FsError}
use Rattle.dav_path_core.specs.declared.errors.FsError.TheVariants.{Exists, Forbidden, TooLarge}
use Rattle.dav_path_core.specs.Fronts.{Segment, Path, parent, behind, is_front}
use Rattle.dav_path_core.proofs.lists.Orders.{path_total, path_exact}
use Rattle.dav_path_core.proofs.lists.FinMaps.{get_same, get_other, get_left, dec}
use Rattle.dav_path_core.proofs.paths.FrontLemmas.{is_front-parts, is_front-cons}
use Rattle.dav_files_core.specs.declared.memfs.Kind.{Kind}
use Rattle.dav_files_core.specs.declared.memfs.Kind.TheVariants.{Folder, File}
use Rattle.dav_files_core.specs.Resources.{Node, Property, Resource, ResourceMap, at_path}
use Rattle.dav_files_core.specs.Finding.{find, has_members, place}
use Rattle.dav_files_core.specs.Outcomes.{Outcome, ◌>>=◌, only_file, find_folder, with_new_entry, with_other_node, with_modified_time, touched_at, without, new_file, new_folder}
use Rattle.dav_files_core.specs.ContentParts.{write_at}
use Rattle.dav_files_core.specs.ResourcePutting.{put, put_at}
use Rattle.dav_files_core.specs.ResourceCopying.{copy, copy_to}
use Rattle.dav_files_core.specs.Folders.{is_root, create_dir, remove}
use Rattle.dav_files_core.specs.Moved.{moved_map}
use Rattle.dav_files_core.specs.OpenFiles.{overwritten_at}
use Rattle.dav_files_core.specs.Properties.{patch_answers, patched_properties, patch_props}
use Rattle.dav_files_core.specs.Renaming.{put_elsewhere, relocated_map, rename}
use Rattle.dav_files_core.proofs.listings.MemberLemmas.{same_place}
use Rattle.dav_files_core.proofs.walks.FoundLemmas.{found_there, parent-snoc}
use Rattle.dav_files_core.proofs.moves.MovedLemmas.{moved_other}

module _ (m : ResourceMap) (q : Path) (p : Path) (apart : ¬ (p ≡ q)) where
  -- another node of an entry changes no other place
  changed_places : (r : Resource) (node : Node) → at_path m q ≡ Some r → place (with_other_node m q r node) p ≡ place m p
  changed_places r node here = same_place m (with_other_node m q r node) p (get_other path_total path_exact m.entries q entry p apart) (λ s. below s (dec path_total path_exact (p ++ (s ∷ [])) q))
    where
      entry : Resource
      entry = record { number = r.number; node = node }

      below : (s : Segment) → ((p ++ (s ∷ [])) ≡ q) ⊎ ¬ ((p ++ (s ∷ [])) ≡ q) → is_some (at_path (with_other_node m q r node) (p ++ (s ∷ []))) ≡ is_some (at_path m (p ++ (s ∷ [])))
      below s (inl same) =
          ap (λ x. is_some (at_path (with_other_node m q r node) x)) same ∙ ap is_some (get_same path_total path_exact m.entries q entry)
          ∙ sym (ap (λ x. is_some (at_path m x)) same ∙ ap is_some here)
      below s (inr other) = ap is_some (get_other path_total path_exact m.entries q entry (p ++ (s ∷ [])) other)

  -- a new entry changes the place of its parent, too
  added_places : (node : Node) → ¬ (p ≡ parent q) → place (with_new_entry m q node) p ≡ place m p
  added_places node above = same_place m (with_new_entry m q node) p (get_other path_total path_exact m.entries q entry p apart) (λ s. ap is_some (get_other path_total path_exact m.entries q entry (p ++ (s ∷ [])) (other s)))
    where
      entry : Resource
      entry = record { number = m.next; node = node }

      other : (s : Segment) → ¬ ((p ++ (s ∷ [])) ≡ q)
      other s same = above (sym (parent-snoc p s) ∙ ap parent same)

  without_places : ¬ (p ≡ parent q) → place (without m q) p ≡ place m p
  without_places above = same_place m (without m q) p (get_left path_total path_exact m.entries q p apart) (λ s. ap is_some (get_left path_total path_exact m.entries q (p ++ (s ∷ [])) (other s)))
    where
      other : (s : Segment) → ¬ ((p ++ (s ∷ [])) ≡ q)
      other s same = above (sym (parent-snoc p s) ∙ ap parent same)

  touched_places : (now : ℕ) → place (with_modified_time m q now) p ≡ place m p
  touched_places now = by (at_path m q) refl
    where
      by : (o : Option Resource) → at_path m q ≡ o → place (touched_at m q now o) p ≡ place m p
      by None e = refl
      by (Some r) e = changed_places r (record r.node { modified = now }) e

abbrev done : ResourceMap → Outcome (Unit {0})
done m = Ok (tt, m)

-- what an outcome goes on to, where it is done
bound : {A B : Type 0} (f : Result A FsError) (g : A → Result B FsError) (y : B) → (f >>= g) ≡ Ok y → (x : A) × (f ≡ Ok x) × (g x ≡ Ok y)
bound (Ok x) g y h = (x, refl, h)
bound (Err e) g y h = absurd (cc)

-- what comes where a refusal doesn't
allowed : {A : Type 0} (b : Bool) (e : FsError) (f : Result A FsError) (y : A) → (if b then Err e else f) ≡ Ok y → f ≡ Ok y
allowed true e f y h = absurd (cc)
allowed false e f y h = h

fitting : {A : Type 0} (b : Bool) (e : FsError) (f : Result A FsError) (y : A) → (if b then f else Err e) ≡ Ok y → f ≡ Ok y
fitting true e f y h = h
fitting false e f y h = absurd (cc)

left_by : (n m' : ResourceMap) → done n ≡ done m' → m' ≡ n
left_by n m' h =
    let pairs : (tt {0}, n) ≡ (tt {0}, m') = cc in ap (λ (x : Unit {0} × ResourceMap). x.1) (sym pairs)

left_by_file : (r : Resource) (left : Resource → ResourceMap) (m' : ResourceMap) → (only_file r >>= λ r. done (left r)) ≡ done m' → m' ≡ left r
left_by_file r left m' h = by r.node.kind h
  where
    by : (k : Kind) → (elim k [ Folder ↦ Err Forbidden | File ↦ Ok r ] >>= (λ (r : Resource). done (left r))) ≡ done m' → m' ≡ left r
    by Folder h = absurd (cc)
    by File h = left_by (left r) m' h

left_by_folder : (m : ResourceMap) (f : Result Resource FsError) (new m' : ResourceMap) → (f >>= λ (r : Resource). done new) ≡ done m' → m' ≡ new
left_by_folder m f new m' h = left_by new m' (bound f (λ _. done new) (tt, m') h).2

-- where a put is done, each other place stays, but for that of the parent of a missing path
pub put_places : (m m' : ResourceMap) (q : Path) (bytes : List ℕ) (now : ℕ) → put m q bytes now ≡ done m'
    → (p : Path) → ¬ (p ≡ q) → (is_some (at_path m q) ≡ false → ¬ (p ≡ parent q)) → place m' p ≡ place m p
put_places m m' q bytes now h p apart above = by (at_path m q) refl
  where
    by : (o : Option Resource) → at_path m q ≡ o → place m' p ≡ place m p
    by (Some r) e =
        let node : Resource → Node = λ r. record r.node { bytes = bytes; modified = now } in
        let left = left_by_file r (λ r. with_other_node m q r (node r)) m' (sym (ap (put_at m q bytes now) e) ∙ h) in
        ap (λ m. place m p) left ∙ changed_places m q p apart r (node r) e
    by None e =
        let left = left_by_folder m (find_folder m (parent q)) (with_new_entry m q (new_file bytes now)) m' (sym (ap (put_at m q bytes now) e) ∙ h) in
        ap (λ m. place m p) left ∙ added_places m q p apart (new_file bytes now) (above (ap is_some e))

-- the same of a copy, for its target
pub copy_places : (m m' : ResourceMap) (from to : Path) (now : ℕ) → copy m from to now ≡ done m'
    → (p : Path) → ¬ (p ≡ to) → (is_some (at_path m to) ≡ false → ¬ (p ≡ parent to)) → place m' p ≡ place m p
copy_places m m' from to now h p apart above =
    let source = bound (find m from) (λ r. copy_to m to (record r.node { created = now }) (at_path m to)) (tt, m') h in
    by (record source.0.node { created = now }) (at_path m to) refl source.2
  where
    by : (node : Node) (o : Option Resource) → at_path m to ≡ o → copy_to m to node o ≡ done m' → place m' p ≡ place m p
    by node (Some r) e h = ap (λ m. place m p) (left_by_file r (λ r. with_other_node m to r node) m' h) ∙ changed_places m to p apart r node e
    by node None e h =
        ap (λ m. place m p) (left_by_folder m (find_folder m (parent to)) (with_new_entry m to node) m' h) ∙ added_places m to p apart node (above (ap is_some e))

-- where a folder is made, or an entry removed, each place stays but for those of the path and of its parent
pub create_dir_places : (m m' : ResourceMap) (q : Path) (now : ℕ) → create_dir m q now ≡ done m'
    → (p : Path) → ¬ (p ≡ q) → ¬ (p ≡ parent q) → place m' p ≡ place m p
create_dir_places m m' q now h p apart above =
    let new : ResourceMap = with_new_entry m q (new_folder now) in
    let folder = bound (find_folder m (parent q)) (λ _. if is_some (at_path m q) then Err Exists else done (with_modified_time new (parent q) now)) (tt, m') h in
    let left = left_by (with_modified_time new (parent q) now) m' (allowed (is_some (at_path m q)) Exists (done (with_modified_time new (parent q) now)) (tt, m') folder.2) in
    ap (λ m. place m p) left ∙ touched_places new (parent q) p above now ∙ added_places m q p apart (new_folder now) above

pub remove_places : (m m' : ResourceMap) (q : Path) (now : ℕ) → remove m q now ≡ done m'
    → (p : Path) → ¬ (p ≡ q) → ¬ (p ≡ parent q) → place m' p ≡ place m p
remove_places m m' q now h p apart above =
    let new : ResourceMap = without m q in
    let found = bound (find m q) (λ _. if is_root q || has_members m q then Err Forbidden else done (with_modified_time new (parent q) now)) (tt, m') h in
    let left = left_by (with_modified_time new (parent q) now) m' (allowed (is_root q || has_members m q) Forbidden (done (with_modified_time new (parent q) now)) (tt, m') found.2) in
    ap (λ m. place m p) left ∙ touched_places new (parent q) p above now ∙ without_places m q p apart above

-- where something is written, or properties are patched, each other place stays
pub write_places : (m m' : ResourceMap) (q : Path) (at : Option ℕ) (new : List ℕ) → write_at m q at new ≡ done m' → (p : Path) → ¬ (p ≡ q) → place m' p ≡ place m p
write_places m m' q at new h p apart =
    let found = bound (find m q) (λ r. only_file r >>= written) (tt, m') h in
    let r : Resource = found.0 in
    ap (λ m. place m p) (by r r.node.kind found.2) ∙ changed_places m q p apart r (node r) (found_there m q r found.1)
  where
    start : Resource → ℕ
    start r = unwrap_or at (length r.node.bytes)

    node : Resource → Node
    node r = record r.node { bytes = overwritten_at r.node.bytes (start r) new }

    written : Resource → Outcome (Unit {0})
    written r = if nat_lt (start r + length new) (2 ^ 64) then done (with_other_node m q r (node r)) else Err TooLarge

    by : (r : Resource) (k : Kind) → (elim k [ Folder ↦ Err Forbidden | File ↦ Ok r ] >>= written) ≡ done m' → m' ≡ with_other_node m q r (node r)
    by r Folder h = absurd (cc)
    by r File h = left_by (with_other_node m q r (node r)) m' (fitting (nat_lt (start r + length new) (2 ^ 64)) TooLarge (done (with_other_node m q r (node r))) (tt, m') h)

pub patch_places : (m m' : ResourceMap) (q : Path) (patch : List (Bool × Property)) (answers : List (ℕ × Property)) → patch_props m q patch ≡ Ok (answers, m')
    → (p : Path) → ¬ (p ≡ q) → place m' p ≡ place m p
patch_places m m' q patch answers h p apart =
    let found = bound (find m q) (λ r. Ok (patch_answers patch, with_other_node m q r (node r))) (answers, m') h in
    let r : Resource = found.0 in
    let pairs : (patch_answers patch, with_other_node m q r (node r)) ≡ (answers, m') = ok_same (found.2) in
    ap (λ m. place m p) (ap (λ (x : List (ℕ × Property) × ResourceMap). x.1) (sym pairs)) ∙ changed_places m q p apart r (node r) (found_there m q r found.1)
  where
    node : Resource → Node
    node r = record r.node { props = patched_properties r.node.props patch }

    ok_same : {x y : List (ℕ × Property) × ResourceMap} → ◌≡◌ {A = Outcome (List (ℕ × Property))} (Ok x) (Ok y) → x ≡ y
    ok_same h = cc

-- a path below one that is one segment longer is that one, or below the shorter
front_of_more : (f p : Path) (s : Segment) → is_front f (p ++ (s ∷ [])) ≡ true → (is_front f p ≡ true) ⊎ (f ≡ p ++ (s ∷ []))
front_of_more [] p s h = inl refl
front_of_more (x ∷ []) [] s h = let same = (is_front-parts x s [] [] h).0 in inr (cc)
front_of_more (x ∷ y ∷ f) [] s h = let none = (is_front-parts x s (y ∷ f) [] h).1 in absurd (cc)
front_of_more (x ∷ f) (y ∷ p) s h =
    let parts = is_front-parts x y f (p ++ (s ∷ [])) h in
    elim (front_of_more f p s parts.1) [
      | inl above ↦ inl (is_front-cons x y f p parts.0 above)
      | inr same ↦ let first = parts.0 in inr (cc)
    ]

-- what is neither at or below a path nor its parent has no name at or below it
apart_below : (f p : Path) (s : Segment) → is_front f p ≡ false → ¬ (p ≡ parent f) → is_front f (p ++ (s ∷ [])) ≡ false
apart_below f p s apart above = false_from_ne_true (is_front f (p ++ (s ∷ []))) (λ h. elim (front_of_more f p s h) [
  | inl front ↦ false≢true (sym apart ∙ front)
  | inr same ↦ above (sym (parent-snoc p s) ∙ ap parent (sym same))
])

nothing_behind : (f p : Path) → is_front f p ≡ false → behind f p ≡ None
nothing_behind f p h = by (behind f p) h
  where
    by : (o : Option Path) → is_some o ≡ false → o ≡ None
    by None h = refl
    by (Some s) h = absurd (cc)

moved_places : (m : ResourceMap) (from to p : Path) → is_front from p ≡ false → is_front to p ≡ false → ¬ (p ≡ parent from) → ¬ (p ≡ parent to)
    → place (moved_map m from to) p ≡ place m p
moved_places m from to p f t above_from above_to = same_place m (moved_map m from to) p (other p f t)
    (λ s. ap is_some (other (p ++ (s ∷ [])) (apart_below from p s f above_from) (apart_below to p s t above_to)))
  where
    other : (q : Path) → is_front from q ≡ false → is_front to q ≡ false → at_path (moved_map m from to) q ≡ at_path m q
    other q f t = moved_other m from to q (nothing_behind from q f) (nothing_behind to q t)

-- an entry put elsewhere is moved, or stands where it stood
relocated_left : (m : ResourceMap) (from to : Path) (n : ResourceMap) → relocated_map m from to ≡ Ok n → (n ≡ m) ⊎ (n ≡ moved_map m from to)
relocated_left m from to n h =
    let open_target = allowed (is_root to) (if is_root from then Forbidden else Exists) _ n h in
    let bare_target = allowed (has_members m to) Exists _ n open_target in
    by (behind from to) (allowed (is_root from) Forbidden (put_elsewhere m from to (behind from to)) n bare_target)
  where
    by : (o : Option Path) → put_elsewhere m from to o ≡ Ok n → (n ≡ m) ⊎ (n ≡ moved_map m from to)
    by None h = inr (cc)
    by (Some []) h = inl (cc)
    by (Some (s ∷ p)) h = absurd (cc)

-- where a rename is done, each place stays but for those at and below both ends and those of their parents
pub rename_places : (m m' : ResourceMap) (from to : Path) (now : ℕ) → rename m from to now ≡ done m'
    → (p : Path) → is_front from p ≡ false → is_front to p ≡ false → ¬ (p ≡ parent from) → ¬ (p ≡ parent to) → place m' p ≡ place m p
rename_places m m' from to now h p f t above_from above_to =
    let last : ResourceMap → ResourceMap = λ n. with_modified_time (with_modified_time n (parent from) now) (parent to) now in
    let source = bound (find m from) (λ _. find_folder m (parent to) >>= λ _. relocated_map m from to >>= λ m. done (with_modified_time (with_modified_time m (parent from) now) (parent to) now)) (tt, m') h in
    let folder = bound (find_folder m (parent to)) (λ _. relocated_map m from to >>= λ m. done (with_modified_time (with_modified_time m (parent from) now) (parent to) now)) (tt, m') source.2 in
    let put = bound (relocated_map m from to) (λ m. done (with_modified_time (with_modified_time m (parent from) now) (parent to) now)) (tt, m') folder.2 in
    let n : ResourceMap = put.0 in
    ap (λ m. place m p) (left_by (last n) m' put.2)
    ∙ touched_places (with_modified_time n (parent from) now) (parent to) p above_to now ∙ touched_places n (parent from) p above_from now
    ∙ elim (relocated_left m from to n put.1) [
      | inl same ↦ ap (λ m. place m p) same
      | inr new ↦ ap (λ m. place m p) new ∙ moved_places m from to p f t above_from above_to
    ]
