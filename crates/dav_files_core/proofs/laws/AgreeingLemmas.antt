-- What stands at and below a folder decides what commands below it answer, and what they leave there.
use Rattle.std.proofs.Common.{◌≡◌, ◌⊎◌, inl, inr, ℕ, ◌+◌, ◌^◌, length, Bool, true, false, not, ◌||◌, is_some, List, [], ◌∷◌, ◌++◌, Option, Some, None, Result, Ok, Err, refl, sym, ap, ◌∙◌, subst, arith, append_assoc, append-nil, length-append}
use Rattle.std.specs.Prelude.{if◌then◌else◌, nat_lt, unwrap_or, ok_or, take, drop, map, option_and_then}
use Rattle.std.specs.FinMap.{entries, get, insert, same_map, values}
use Rattle.std.proofs.lemmas.Bool.{and_parts, false≢true}
use Rattle.dav_path_core.specs.declared.errors.FsError.{FsError}
use Rattle.dav_path_core.specs.declared.errors.FsError.TheVariants.{Exists, Forbidden, NotFound, TooLarge}
use Rattle.dav_path_core.specs.Fronts.{Segment, Path, parent, behind, is_front, is_same_path}
use Rattle.dav_path_core.proofs.lists.Orders.{segment_total, segment_exact, path_total, path_exact}
use Rattle.dav_path_core.proofs.lists.FinMaps.{get_same, get_other, get_left, get_gone, dec}
use Rattle.dav_path_core.proofs.paths.FrontLemmas.{is_same_path-refl, behind_append, behind_is, behind_none}
use Rattle.dav_files_core.specs.declared.fs.OpenOptions.{OpenOptions}
use Rattle.dav_files_core.specs.Resources.{Node, Property, Resource, ResourceMap, at_path}
use Rattle.dav_files_core.specs.Finding.{find, members, has_any, has_members}
use Rattle.dav_files_core.specs.Outcomes.{Outcome, ◌>>=◌, only_file, only_folder, find_folder, with_new_entry, with_other_node, with_modified_time, touched_at, without, new_file, new_folder}
use Rattle.dav_files_core.specs.Below.{is_below, AgreeBelow, Alike, SameAnswer}
use Rattle.dav_files_core.specs.Describing.{metadata}
use Rattle.dav_files_core.specs.ContentParts.{read_at, write_at}
use Rattle.dav_files_core.specs.ResourcePutting.{put, put_at}
use Rattle.dav_files_core.specs.ResourceCopying.{copy, copy_to}
use Rattle.dav_files_core.specs.Folders.{is_root, create_dir, remove}
use Rattle.dav_files_core.specs.Listing.{listed_member, read_dir}
use Rattle.dav_files_core.specs.Meta.{meta_at}
use Rattle.dav_files_core.specs.Moved.{moved_map, path_after}
use Rattle.dav_files_core.specs.OpenFiles.{overwritten_at}
use Rattle.dav_files_core.specs.Opening.{OpenFile, opened_file, opening, opening_at, emptied_if}
use Rattle.dav_files_core.specs.Properties.{patch_answers, patched_properties, patch_props, shown_property, get_props, xml_of, get_prop}
use Rattle.dav_files_core.specs.Renaming.{put_elsewhere, relocated_map, rename}
use Rattle.dav_files_core.proofs.walks.FoundLemmas.{find_there, find_below, parent-append}
use Rattle.dav_files_core.proofs.paths.FrontLemmas.{after_cases}
use Rattle.dav_files_core.proofs.listings.MemberLemmas.{get-members}
use Rattle.dav_files_core.proofs.moves.MovedLemmas.{get-moved, moved_other}

-- ---- paths at and below a folder

-- the path is the folder's, or stands below it
abbrev pub Within : Path → Path → Type 0
Within folder p = (s : Path) × (p ≡ folder ++ s)

-- it stands below
abbrev pub Inside : Path → Path → Type 0
Inside folder p = (x : Segment) × (s : Path) × (p ≡ folder ++ (x ∷ s))

within : (folder p : Path) → Inside folder p → Within folder p
within folder p w = (w.0 ∷ w.1, w.2)

parent_within : (folder p : Path) → Inside folder p → Within folder (parent p)
parent_within folder p w = (parent (w.0 ∷ w.1), ap parent w.2 ∙ parent-append folder w.0 w.1)

pub within_front : (folder p : Path) → is_front folder p ≡ true → Within folder p
within_front folder p h = by (behind folder p) refl h
  where
    by : (o : Option Path) → behind folder p ≡ o → is_some o ≡ true → Within folder p
    by None e t = absurd (false≢true t)
    by (Some s) e t = (s, behind_is folder p s e)

pub inside : (folder p : Path) → is_below folder p ≡ true → Inside folder p
inside folder p h = let parts = and_parts (is_front folder p) (not (is_same_path folder p)) h in by (behind folder p) refl parts.0 parts.1
  where
    by : (o : Option Path) → behind folder p ≡ o → is_some o ≡ true → not (is_same_path folder p) ≡ true → Inside folder p
    by None e t other = absurd (false≢true t)
    by (Some (x ∷ s)) e t other = (x, s, behind_is folder p (x ∷ s) e)
    by (Some []) e t other =
        let same : p ≡ folder = behind_is folder p [] e ∙ append-nil folder in
        absurd (false≢true (sym (ap (λ q. not (is_same_path folder q)) same ∙ ap not (is_same_path-refl folder)) ∙ other))

-- the folder is not at or below what stands below it
not_above : (folder p : Path) → Inside folder p → (s : Path) → ¬ (folder ≡ p ++ s)
not_above folder p w s h =
    let long = ap length (h ∙ ap (λ q. q ++ s) w.2) in
    absurd (omega (arith, long, length-append (folder ++ (w.0 ∷ w.1)) s, length-append folder (w.0 ∷ w.1)))

pub not_front : (folder p : Path) → is_below folder p ≡ true → is_front p folder ≡ false
not_front folder p h = ap is_some (behind_none p folder (not_above folder p (inside folder p h)))

-- what is below has its parent at or below
pub parent_front : (folder p : Path) → is_below folder p ≡ true → is_front folder (parent p) ≡ true
parent_front folder p h =
    let w = parent_within folder p (inside folder p h) in
    ap (is_front folder) w.1 ∙ ap is_some (behind_append folder w.0)

-- ---- outcomes that are alike
module _ {A : Type 0} (R : A → A → Type 0) where
  -- a choice by a test that has one answer
  alike_if : (a b : Bool) (o u o' u' : Result A FsError) → b ≡ a → Alike R o u → Alike R o' u' → Alike R (if a then o else o') (if b then u else u')
  alike_if a b o u o' u' e k l = subst (λ b. Alike R (if a then o else o') (if b then u else u')) (sym e) (by a)
    where
      by : (a : Bool) → Alike R (if a then o else o') (if a then u else u')
      by true = k
      by false = l

  -- going on from alike outcomes, and from one
  alike_then : {B : Type 0} (S : B → B → Type 0) (o u : Result B FsError) (f g : B → Result A FsError) → Alike S o u → ((x y : B) → S x y → Alike R (f x) (g y)) → Alike R (o >>= f) (u >>= g)
  alike_then S (Ok x) (Ok y) f g h k = k x y h
  alike_then S (Ok x) (Err d) f g h k = absurd h
  alike_then S (Err e) (Ok y) f g h k = absurd h
  alike_then S (Err e) (Err d) f g h k = h

  alike_on : {B : Type 0} (o u : Result B FsError) (f g : B → Result A FsError) → u ≡ o → ((x : B) → Alike R (f x) (g x)) → Alike R (o >>= f) (u >>= g)
  alike_on o u f g e k = subst (λ u. Alike R (o >>= f) (u >>= g)) (sym e) (by o)
    where
      by : (o : Result _ FsError) → Alike R (o >>= f) (o >>= g)
      by (Ok x) = k x
      by (Err d) = refl

-- ---- two maps that agree
module _ (folder : Path) (m n : ResourceMap) (agree : AgreeBelow folder m n) where
  at_within : (p : Path) → Within folder p → at_path n p ≡ at_path m p
  at_within p w = ap (at_path n) w.1 ∙ agree.same w.0 ∙ sym (ap (at_path m) w.1)

  -- finding
  one_on : (s : Path) (x : Segment) → find n (folder ++ s) ≡ find m (folder ++ s) → find n ((folder ++ s) ++ (x ∷ [])) ≡ find m ((folder ++ s) ++ (x ∷ []))
  one_on s x above = by (at_path m ((folder ++ s) ++ (x ∷ []))) refl
    where
      here : at_path n ((folder ++ s) ++ (x ∷ [])) ≡ at_path m ((folder ++ s) ++ (x ∷ []))
      here = at_within ((folder ++ s) ++ (x ∷ [])) (s ++ (x ∷ []), append_assoc folder s (x ∷ []))

      by : (o : Option Resource) → at_path m ((folder ++ s) ++ (x ∷ [])) ≡ o → find n ((folder ++ s) ++ (x ∷ [])) ≡ find m ((folder ++ s) ++ (x ∷ []))
      by (Some r) e = find_there n ((folder ++ s) ++ (x ∷ [])) r (here ∙ e) ∙ sym (find_there m ((folder ++ s) ++ (x ∷ [])) r e)
      by None e =
          find_below n (folder ++ s) x (here ∙ e)
          ∙ ap (λ (f : Result Resource FsError). f >>= only_folder >>= λ (_ : Resource). Err NotFound) above
          ∙ sym (find_below m (folder ++ s) x e)

  all_on : (s t : Path) → find n (folder ++ s) ≡ find m (folder ++ s) → find n ((folder ++ s) ++ t) ≡ find m ((folder ++ s) ++ t)
  all_on s [] above = ap (find n) (append-nil (folder ++ s)) ∙ above ∙ sym (ap (find m) (append-nil (folder ++ s)))
  all_on s (x ∷ t) above =
      let next : folder ++ (s ++ (x ∷ [])) ≡ (folder ++ s) ++ (x ∷ []) = sym (append_assoc folder s (x ∷ [])) in
      let path : (folder ++ (s ++ (x ∷ []))) ++ t ≡ (folder ++ s) ++ (x ∷ t) = ap (λ q. q ++ t) next ∙ append_assoc (folder ++ s) (x ∷ []) t in
      sym (ap (find n) path) ∙ all_on (s ++ (x ∷ [])) t (ap (find n) next ∙ one_on s x above ∙ sym (ap (find m) next)) ∙ ap (find m) path

  find_folder_itself : find n folder ≡ find m folder
  find_folder_itself = by (at_path m folder) refl agree.there
    where
      by : (o : Option Resource) → at_path m folder ≡ o → is_some o ≡ true → find n folder ≡ find m folder
      by None e t = absurd (false≢true t)
      by (Some r) e t = find_there n folder r (at_within folder ([], sym (append-nil folder)) ∙ e) ∙ sym (find_there m folder r e)

  find_within : (p : Path) → Within folder p → find n p ≡ find m p
  find_within p w =
      let base : folder ++ [] ≡ folder = append-nil folder in
      let path : (folder ++ []) ++ w.0 ≡ p = ap (λ q. q ++ w.0) base ∙ sym w.1 in
      sym (ap (find n) path) ∙ all_on [] w.0 (ap (find n) base ∙ find_folder_itself ∙ sym (ap (find m) base)) ∙ ap (find m) path

  find_folder_within : (p : Path) → Within folder p → find_folder n p ≡ find_folder m p
  find_folder_within p w = ap (λ (f : Result Resource FsError). f >>= only_folder) (find_within p w)

  members_within : (p : Path) → Within folder p → members n p ≡ members m p
  members_within p w = same_map segment_total segment_exact (members n p) (members m p)
      (λ x. get-members n p x ∙ at_within (p ++ (x ∷ [])) (w.0 ++ (x ∷ []), ap (λ q. q ++ (x ∷ [])) w.1 ∙ append_assoc folder w.0 (x ∷ [])) ∙ sym (get-members m p x))

  has_members_within : (p : Path) → Within folder p → has_members n p ≡ has_members m p
  has_members_within p w = ap (λ ms. has_any (entries ms)) (members_within p w)

  -- ---- changes that are made in both
  -- an entry that is set at a path
  set_agree : (p : Path) (e d : Resource) (k j : ℕ) → d ≡ e → j ≡ k
      → AgreeBelow folder (record { entries = insert m.entries p e; next = k }) (record { entries = insert n.entries p d; next = j })
  set_agree p e d k j one next = record {
    there = stays (dec path_total path_exact folder p);
    same = λ s. same_at (folder ++ s) (agree.same s) (dec path_total path_exact (folder ++ s) p);
    next = next;
  }
    where
      stays : (folder ≡ p) ⊎ ¬ (folder ≡ p) → is_some (get (insert m.entries p e) folder) ≡ true
      stays (inl here) = ap (λ q. is_some (get (insert m.entries p e) q)) here ∙ ap is_some (get_same path_total path_exact m.entries p e)
      stays (inr other) = ap is_some (get_other path_total path_exact m.entries p e folder other) ∙ agree.there

      same_at : (q : Path) → at_path n q ≡ at_path m q → (q ≡ p) ⊎ ¬ (q ≡ p) → get (insert n.entries p d) q ≡ get (insert m.entries p e) q
      same_at q before (inl here) =
          ap (get (insert n.entries p d)) here ∙ get_same path_total path_exact n.entries p d ∙ ap Some one
          ∙ sym (ap (get (insert m.entries p e)) here ∙ get_same path_total path_exact m.entries p e)
      same_at q before (inr other) = get_other path_total path_exact n.entries p d q other ∙ before ∙ sym (get_other path_total path_exact m.entries p e q other)

  changed_agree : (p : Path) (r : Resource) (node : Node) → AgreeBelow folder (with_other_node m p r node) (with_other_node n p r node)
  changed_agree p r node = set_agree p (record { number = r.number; node = node }) (record { number = r.number; node = node }) m.next n.next refl agree.next

  added_agree : (p : Path) (node : Node) → AgreeBelow folder (with_new_entry m p node) (with_new_entry n p node)
  added_agree p node = set_agree p (record { number = m.next; node = node }) (record { number = n.next; node = node }) (m.next + 1) (n.next + 1)
      (ap (λ (k : ℕ). record { number = k; node = node }) agree.next) (ap (λ k. k + 1) agree.next)

  without_agree : (p : Path) → Inside folder p → AgreeBelow folder (without m p) (without n p)
  without_agree p w = record {
    there = ap is_some (get_left path_total path_exact m.entries p folder (λ same. not_above folder p w [] (same ∙ sym (append-nil p)))) ∙ agree.there;
    same = λ s. same_at (folder ++ s) (agree.same s) (dec path_total path_exact (folder ++ s) p);
    next = agree.next;
  }
    where
      same_at : (q : Path) → at_path n q ≡ at_path m q → (q ≡ p) ⊎ ¬ (q ≡ p) → at_path (without n p) q ≡ at_path (without m p) q
      same_at q e (inl same) =
          ap (at_path (without n p)) same ∙ get_gone path_total path_exact n.entries p
          ∙ sym (ap (at_path (without m p)) same ∙ get_gone path_total path_exact m.entries p)
      same_at q e (inr other) = get_left path_total path_exact n.entries p q other ∙ e ∙ sym (get_left path_total path_exact m.entries p q other)

  touched_agree : (p : Path) (now : ℕ) → Within folder p → AgreeBelow folder (with_modified_time m p now) (with_modified_time n p now)
  touched_agree p now w = subst (λ o. AgreeBelow folder (with_modified_time m p now) (touched_at n p now o)) (sym (at_within p w)) (by (at_path m p))
    where
      by : (o : Option Resource) → AgreeBelow folder (touched_at m p now o) (touched_at n p now o)
      by None = agree
      by (Some r) = changed_agree p r (record r.node { modified = now })

  moved_agree : (from to : Path) → Inside folder from → Inside folder to → AgreeBelow folder (moved_map m from to) (moved_map n from to)
  moved_agree from to w v = record {
    there = ap is_some (moved_other m from to folder (behind_none from folder (not_above folder from w)) (behind_none to folder (not_above folder to v))) ∙ agree.there;
    same = λ s. get-moved n from to (folder ++ s) ∙ by s (path_after to from (folder ++ s)) refl ∙ sym (get-moved m from to (folder ++ s));
    next = agree.next;
  }
    where
      by : (s : Path) (o : Option Path) → path_after to from (folder ++ s) ≡ o → option_and_then (at_path n) o ≡ option_and_then (at_path m) o
      by s None e = refl
      by s (Some q) e = elim (after_cases to from (folder ++ s) q e) [
        | inl went ↦ at_within q ((w.0 ∷ w.1) ++ went.0, went.2 ∙ ap (λ p. p ++ went.0) w.2 ∙ append_assoc folder (w.0 ∷ w.1) went.0)
        | inr stayed ↦ at_within q (s, stayed.0)
      ]

-- ---- commands
module _ (folder : Path) (m n : ResourceMap) (agree : AgreeBelow folder m n) where
  abbrev AlikeHere : {A : Type 0} → (ResourceMap → Outcome A) → Type 0
  AlikeHere command = Alike (SameAnswer folder) (command m) (command n)

  pub put_alike : (p : Path) (bytes : List ℕ) (now : ℕ) → Inside folder p → AlikeHere (λ m. put m p bytes now)
  put_alike p bytes now w = subst (λ o. Alike (SameAnswer folder) (put m p bytes now) (put_at n p bytes now o)) (sym (at_within folder m n agree p (within folder p w))) (by (at_path m p))
    where
      by : (o : Option Resource) → Alike (SameAnswer folder) (put_at m p bytes now o) (put_at n p bytes now o)
      by (Some r) = alike_on (SameAnswer folder) (only_file r) (only_file r) (λ (r : Resource). Ok (tt, with_other_node m p r (record r.node { bytes = bytes; modified = now })))
          (λ (r : Resource). Ok (tt, with_other_node n p r (record r.node { bytes = bytes; modified = now }))) refl
          (λ r. (refl, changed_agree folder m n agree p r (record r.node { bytes = bytes; modified = now })))
      by None = alike_on (SameAnswer folder) (find_folder m (parent p)) (find_folder n (parent p)) (λ (_ : Resource). Ok (tt, with_new_entry m p (new_file bytes now)))
          (λ (_ : Resource). Ok (tt, with_new_entry n p (new_file bytes now))) (find_folder_within folder m n agree (parent p) (parent_within folder p w))
          (λ _. (refl, added_agree folder m n agree p (new_file bytes now)))

  pub write_alike : (p : Path) (at : Option ℕ) (new : List ℕ) → Within folder p → AlikeHere (λ m. write_at m p at new)
  write_alike p at new w = alike_on (SameAnswer folder) (find m p) (find n p) (λ (r : Resource). only_file r >>= written m) (λ (r : Resource). only_file r >>= written n)
      (find_within folder m n agree p w)
      (λ r. alike_on (SameAnswer folder) (only_file r) (only_file r) (written m) (written n) refl
      (λ r. alike_if (SameAnswer folder) (fits r) (fits r) (Ok (tt, left m r)) (Ok (tt, left n r)) (Err TooLarge) (Err TooLarge) refl
      (refl, changed_agree folder m n agree p r (record r.node { bytes = overwritten_at r.node.bytes (start r) new })) refl))
    where
      start : Resource → ℕ
      start r = unwrap_or at (length r.node.bytes)

      fits : Resource → Bool
      fits r = nat_lt (start r + length new) (2 ^ 64)

      left : ResourceMap → Resource → ResourceMap
      left m r = with_other_node m p r (record r.node { bytes = overwritten_at r.node.bytes (start r) new })

      written : ResourceMap → Resource → Outcome (Unit {0})
      written m r = if fits r then Ok (tt, left m r) else Err TooLarge

  pub create_dir_alike : (p : Path) (now : ℕ) → Inside folder p → AlikeHere (λ m. create_dir m p now)
  create_dir_alike p now w = alike_on (SameAnswer folder) (find_folder m (parent p)) (find_folder n (parent p)) (λ (_ : Resource). made m) (λ (_ : Resource). made n)
      (find_folder_within folder m n agree (parent p) (parent_within folder p w))
      (λ _. alike_if (SameAnswer folder) (is_some (at_path m p)) (is_some (at_path n p)) (Err Exists) (Err Exists) (Ok (tt, left m)) (Ok (tt, left n))
      (ap is_some (at_within folder m n agree p (within folder p w))) refl
      (refl, touched_agree folder (with_new_entry m p (new_folder now)) (with_new_entry n p (new_folder now)) (added_agree folder m n agree p (new_folder now)) (parent p) now (parent_within folder p w)))
    where
      left : ResourceMap → ResourceMap
      left m = with_modified_time (with_new_entry m p (new_folder now)) (parent p) now

      made : ResourceMap → Outcome (Unit {0})
      made m = if is_some (at_path m p) then Err Exists else Ok (tt, left m)

  pub remove_alike : (p : Path) (now : ℕ) → Inside folder p → AlikeHere (λ m. remove m p now)
  remove_alike p now w = alike_on (SameAnswer folder) (find m p) (find n p) (λ (_ : Resource). gone m) (λ (_ : Resource). gone n)
      (find_within folder m n agree p (within folder p w))
      (λ _. alike_if (SameAnswer folder) (is_root p || has_members m p) (is_root p || has_members n p) (Err Forbidden) (Err Forbidden) (Ok (tt, left m)) (Ok (tt, left n))
      (ap (λ b. is_root p || b) (has_members_within folder m n agree p (within folder p w))) refl
      (refl, touched_agree folder (without m p) (without n p) (without_agree folder m n agree p w) (parent p) now (parent_within folder p w)))
    where
      left : ResourceMap → ResourceMap
      left m = with_modified_time (without m p) (parent p) now

      gone : ResourceMap → Outcome (Unit {0})
      gone m = if is_root p || has_members m p then Err Forbidden else Ok (tt, left m)

  relocated_alike : (from to : Path) → Inside folder from → Inside folder to → Alike (AgreeBelow folder) (relocated_map m from to) (relocated_map n from to)
  relocated_alike from to w v =
      alike_if (AgreeBelow folder) (is_root to) (is_root to) (Err (if is_root from then Forbidden else Exists)) (Err (if is_root from then Forbidden else Exists)) (free m) (free n) refl refl
      (alike_if (AgreeBelow folder) (has_members m to) (has_members n to) (Err Exists) (Err Exists) (other m) (other n) (has_members_within folder m n agree to (within folder to v)) refl
      (alike_if (AgreeBelow folder) (is_root from) (is_root from) (Err Forbidden) (Err Forbidden) (put_elsewhere m from to (behind from to)) (put_elsewhere n from to (behind from to)) refl refl (by (behind from to))))
    where
      other : ResourceMap → Result ResourceMap FsError
      other m = if is_root from then Err Forbidden else put_elsewhere m from to (behind from to)

      free : ResourceMap → Result ResourceMap FsError
      free m = if has_members m to then Err Exists else other m

      by : (o : Option Path) → Alike (AgreeBelow folder) (put_elsewhere m from to o) (put_elsewhere n from to o)
      by (Some []) = agree
      by (Some (s ∷ below)) = refl
      by None = moved_agree folder m n agree from to w v

  pub rename_alike : (from to : Path) (now : ℕ) → Inside folder from → Inside folder to → AlikeHere (λ m. rename m from to now)
  rename_alike from to now w v = alike_on (SameAnswer folder) (find m from) (find n from) (λ (_ : Resource). into m) (λ (_ : Resource). into n)
      (find_within folder m n agree from (within folder from w))
      (λ _. alike_on (SameAnswer folder) (find_folder m (parent to)) (find_folder n (parent to)) (λ (_ : Resource). put_there m) (λ (_ : Resource). put_there n)
      (find_folder_within folder m n agree (parent to) (parent_within folder to v))
      (λ _. alike_then (SameAnswer folder) (AgreeBelow folder) (relocated_map m from to) (relocated_map n from to) last last (relocated_alike from to w v)
      (λ x y h. (refl, touched_agree folder (with_modified_time x (parent from) now) (with_modified_time y (parent from) now) (touched_agree folder x y h (parent from) now (parent_within folder from w)) (parent to) now (parent_within folder to v)))))
    where
      last : ResourceMap → Outcome (Unit {0})
      last m = Ok (tt, with_modified_time (with_modified_time m (parent from) now) (parent to) now)

      put_there : ResourceMap → Outcome (Unit {0})
      put_there m = relocated_map m from to >>= last

      into : ResourceMap → Outcome (Unit {0})
      into m = find_folder m (parent to) >>= λ (_ : Resource). put_there m

  pub copy_alike : (from to : Path) (now : ℕ) → Within folder from → Inside folder to → AlikeHere (λ m. copy m from to now)
  copy_alike from to now w v = alike_on (SameAnswer folder) (find m from) (find n from) (λ (r : Resource). copied m r) (λ (r : Resource). copied n r)
      (find_within folder m n agree from w)
      (λ r. subst (λ o. Alike (SameAnswer folder) (copied m r) (copy_to n to (source r) o)) (sym (at_within folder m n agree to (within folder to v))) (by (source r) (at_path m to)))
    where
      source : Resource → Node
      source r = record r.node { created = now }

      copied : ResourceMap → Resource → Outcome (Unit {0})
      copied m r = copy_to m to (source r) (at_path m to)

      by : (node : Node) (o : Option Resource) → Alike (SameAnswer folder) (copy_to m to node o) (copy_to n to node o)
      by node (Some r) = alike_on (SameAnswer folder) (only_file r) (only_file r) (λ (r : Resource). Ok (tt, with_other_node m to r node)) (λ (r : Resource). Ok (tt, with_other_node n to r node)) refl
          (λ r. (refl, changed_agree folder m n agree to r node))
      by node None = alike_on (SameAnswer folder) (find_folder m (parent to)) (find_folder n (parent to)) (λ (_ : Resource). Ok (tt, with_new_entry m to node)) (λ (_ : Resource). Ok (tt, with_new_entry n to node))
          (find_folder_within folder m n agree (parent to) (parent_within folder to v)) (λ _. (refl, added_agree folder m n agree to node))

  pub opening_alike : (p : Path) (options : OpenOptions) (now : ℕ) → Inside folder p → AlikeHere (λ m. opening m p options now)
  opening_alike p options now w = subst (λ o. Alike (SameAnswer folder) (opening m p options now) (opening_at n p options now o)) (sym (at_within folder m n agree p (within folder p w))) (by (at_path m p))
    where
      there : ResourceMap → Resource → Outcome OpenFile
      there m r = Ok (opened_file r.number options, emptied_if m p r options.truncate now)

      made : ResourceMap → Outcome OpenFile
      made m = Ok (opened_file m.next options, with_new_entry m p (new_file [] now))

      found : ResourceMap → Resource → Outcome OpenFile
      found m r = Ok (opened_file r.number options, m)

      emptied : (r : Resource) (b : Bool) → AgreeBelow folder (emptied_if m p r b now) (emptied_if n p r b now)
      emptied r true = changed_agree folder m n agree p r (record r.node { bytes = []; modified = now })
      emptied r false = agree

      by : (o : Option Resource) → Alike (SameAnswer folder) (opening_at m p options now o) (opening_at n p options now o)
      by (Some r) = alike_if (SameAnswer folder) options.create_new options.create_new (Err Exists) (Err Exists) (only_file r >>= there m) (only_file r >>= there n) refl refl
          (alike_on (SameAnswer folder) (only_file r) (only_file r) (there m) (there n) refl (λ r. (refl, emptied r options.truncate)))
      by None = alike_if (SameAnswer folder) options.create options.create (find_folder m (parent p) >>= λ (_ : Resource). made m) (find_folder n (parent p) >>= λ (_ : Resource). made n) (find m p >>= found m) (find n p >>= found n) refl
          (alike_on (SameAnswer folder) (find_folder m (parent p)) (find_folder n (parent p)) (λ (_ : Resource). made m) (λ (_ : Resource). made n) (find_folder_within folder m n agree (parent p) (parent_within folder p w))
          (λ _. (ap (λ k. opened_file k options) agree.next, added_agree folder m n agree p (new_file [] now))))
          (alike_on (SameAnswer folder) (find m p) (find n p) (found m) (found n) (find_within folder m n agree p (within folder p w)) (λ r. (refl, agree)))

  pub patch_alike : (p : Path) (patch : List (Bool × Property)) → Within folder p → AlikeHere (λ m. patch_props m p patch)
  patch_alike p patch w = alike_on (SameAnswer folder) (find m p) (find n p)
      (λ (r : Resource). Ok (patch_answers patch, with_other_node m p r (record r.node { props = patched_properties r.node.props patch })))
      (λ (r : Resource). Ok (patch_answers patch, with_other_node n p r (record r.node { props = patched_properties r.node.props patch })))
      (find_within folder m n agree p w)
      (λ r. (refl, changed_agree folder m n agree p r (record r.node { props = patched_properties r.node.props patch })))

  -- what is told of a path that is found
  told_same : {A : Type 0} (p : Path) (tell : Resource → Result A FsError) → Within folder p → (find n p >>= tell) ≡ (find m p >>= tell)
  told_same p tell w = ap (λ (f : Result Resource FsError). f >>= tell) (find_within folder m n agree p w)

  pub metadata_same : (p : Path) → Within folder p → metadata n p ≡ metadata m p
  metadata_same p = told_same p (λ r. Ok (meta_at r.node))

  pub read_same : (p : Path) (at count : ℕ) → Within folder p → read_at n p at count ≡ read_at m p at count
  read_same p at count = told_same p (λ r. only_file r >>= λ r. Ok (take count (drop at r.node.bytes)))

  pub get_props_same : (p : Path) (content : Bool) → Within folder p → get_props n p content ≡ get_props m p content
  get_props_same p content = told_same p (λ r. Ok (map (shown_property content) (values r.node.props)))

  pub get_prop_same : (p : Path) (wanted : Property) → Within folder p → get_prop n p wanted ≡ get_prop m p wanted
  get_prop_same p wanted = told_same p (λ r. ok_or (xml_of r.node.props wanted) NotFound)

  pub read_dir_same : (p : Path) → Within folder p → read_dir n p ≡ read_dir m p
  read_dir_same p w =
      ap (λ ms. find_folder n p >>= λ (_ : Resource). Ok (map listed_member (entries ms))) (members_within folder m n agree p w)
      ∙ ap (λ (f : Result Resource FsError). f >>= λ (_ : Resource). Ok (map listed_member (entries (members m p)))) (find_folder_within folder m n agree p w)
