-- A folder that was made and then renamed, in the map.
use Rattle.std.proofs.Common.{◌≡◌, ◌≢◌, ◌⊎◌, inl, inr, ℕ, [], ◌∷◌, ◌++◌, Some, None, Result, Ok, Err, IfOk, sym, ap, ◌∙◌, subst, append_assoc, append-nil}
use Rattle.std.proofs.lemmas.Bool.{true≢false}
use Rattle.dav_path_core.specs.declared.errors.FsError.{FsError}
use Rattle.dav_path_core.specs.Fronts.{Segment, Path, parent, behind}
use Rattle.dav_path_core.proofs.lists.FinMaps.{none_some, get_same}
use Rattle.dav_path_core.proofs.lists.Orders.{path_total, path_exact}
use Rattle.dav_path_core.proofs.lists.Snoc.{by_last}
use Rattle.dav_files_core.specs.Folders.{create_dir}
use Rattle.dav_files_core.specs.Moved.{moved_map}
use Rattle.dav_files_core.specs.Outcomes.{with_new_entry, with_modified_time, new_folder}
use Rattle.dav_files_core.specs.Renaming.{rename, relocated_map}
use Rattle.dav_files_core.specs.Resources.{Resource, ResourceMap, at_path, IsResourceMap}
use Rattle.dav_files_core.proofs.walks.FoundLemmas.{parent-snoc}
use Rattle.dav_path_core.proofs.paths.FrontLemmas.{behind_none}
use Rattle.dav_files_core.proofs.walks.HasMembersLemmas.{has_member}
use Rattle.dav_files_core.proofs.laws.DoneLemmas.{RenamedEntry, made_folder, renamed_entry, touched_other, touched_none}
use Rattle.dav_files_core.proofs.laws.GrownLemmas.{create_dir_grows}
use Rattle.dav_files_core.proofs.paths.LengthLemmas.{longer}
use Rattle.dav_files_core.proofs.moves.MovedLemmas.{moved_to, moved_from}
use Rattle.dav_files_core.proofs.moves.MovingLemmas.{front_there}
use Rattle.dav_files_core.proofs.moves.RenamedLemmas.{put}

module _ (m mid new : ResourceMap) (is_map : IsResourceMap m) (p : Path) (now : ℕ) (made : create_dir m p now ≡ Ok (tt, mid)) where
  abbrev folder : Resource
  folder = record { number = m.next; node = new_folder now }

  own_folder : ¬ (p ≡ parent p)
  own_folder e = let h = made_folder m mid p now made in none_some (at_path m p) h.folder.0 h.free (ap (at_path m) e ∙ h.folder.1)

  -- it stands where it was made
  there : at_path mid p ≡ Some folder
  there =
      let h = made_folder m mid p now made in
      ap (λ m. at_path m p) h.left ∙ touched_other (with_new_entry m p (new_folder now)) (parent p) now p own_folder ∙ get_same path_total path_exact m.entries p folder

  module _ (q : Path) (s : Segment) (apart : p ≢ q ++ (s ∷ [])) (x : ResourceMap) (h : relocated_map mid p (q ++ (s ∷ [])) ≡ Ok x) where
    abbrev to : Path
    to = q ++ (s ∷ [])

    -- the target had no members
    no_member : (t : Segment) (v : Path) → ¬ (p ≡ to ++ (t ∷ v))
    no_member t v e =
        let next = front_there mid ((create_dir_grows m p now (tt, mid) made).shape is_map) (to ++ (t ∷ [])) v folder (ap (at_path mid) (append_assoc to (t ∷ []) v ∙ sym e) ∙ there) in
        true≢false (sym (has_member mid to t next.0 next.1) ∙ (put mid p q s x h).leaf)

    behind_target : behind to p ≡ None
    behind_target = behind_none to p (λ u e. by u e)
      where
        by : (u : Path) → ¬ (p ≡ to ++ u)
        by [] e = apart (e ∙ append-nil to)
        by (t ∷ v) e = no_member t v e

    at_target : at_path x to ≡ Some folder
    at_target = elim ((put mid p q s x h).put) [
      | inl same ↦ absurd (apart same.0)
      | inr away ↦
          ap (λ m. at_path m to) away.1 ∙ ap (at_path (moved_map mid p to)) (sym (append-nil to)) ∙ moved_to mid p to [] ∙ ap (at_path mid) (append-nil p) ∙ there
    ]

    at_source : at_path x p ≡ None
    at_source = elim ((put mid p q s x h).put) [
      | inl same ↦ absurd (apart same.0)
      | inr away ↦
          ap (λ m. at_path m p) away.1 ∙ ap (at_path (moved_map mid p to)) (sym (append-nil p)) ∙ moved_from mid p to [] (ap (behind to) (append-nil p) ∙ behind_target)
    ]

    -- the target is the folder of neither
    not_above : ¬ (to ≡ parent p)
    not_above e = elim (by_last p) [
      | inl empty ↦ own_folder (empty ∙ sym (ap parent empty))
      | inr last ↦ no_member last.1 [] (last.2 ∙ ap (λ u. u ++ (last.1 ∷ [])) (sym (e ∙ ap parent last.2 ∙ parent-snoc last.0 last.1)))
    ]

    not_own : ¬ (to ≡ parent to)
    not_own e = longer q s (sym (e ∙ parent-snoc q s))

    pub elsewhere_in : new ≡ with_modified_time (with_modified_time x (parent p) now) (parent to) now → (at_path new to ≡ Some folder) × (at_path new p ≡ None)
    elsewhere_in left = (
      ap (λ m. at_path m to) left ∙ touched_other (with_modified_time x (parent p) now) (parent to) now to not_own ∙ touched_other x (parent p) now to not_above ∙ at_target,
      ap (λ m. at_path m p) left ∙ touched_none (with_modified_time x (parent p) now) (parent to) now p (touched_none x (parent p) now p at_source),
    )

  pub elsewhere : (to : Path) → rename mid p to now ≡ Ok (tt, new) → p ≢ to → (at_path new to ≡ Some folder) × (at_path new p ≡ None)
  elsewhere to renamed apart = by (by_last to) (renamed_entry mid new p to now renamed)
    where
      by : (to ≡ []) ⊎ ((q : Path) × (s : Segment) × (to ≡ q ++ (s ∷ []))) → RenamedEntry mid new p to now → (at_path new to ≡ Some folder) × (at_path new p ≡ None)
      by (inl empty) r = absurd (let both : relocated_map mid p [] ≡ Ok r.between.0 = ap (relocated_map mid p) (sym empty) ∙ r.between.1 in cc)
      by (inr last) r =
          subst (λ to. (at_path new to ≡ Some folder) × (at_path new p ≡ None)) (sym last.2)
          (elsewhere_in last.0 last.1 (λ e. apart (e ∙ sym last.2)) r.between.0 (ap (relocated_map mid p) (sym last.2) ∙ r.between.1) (r.between.2 ∙ ap (λ to. with_modified_time (with_modified_time r.between.0 (parent p) now) (parent to) now) last.2))

pub stands_elsewhere : (m mid new : ResourceMap) (p q : Path) (now : ℕ) (result : Result (Unit {0}) FsError) → create_dir m p now ≡ Ok (tt, mid) → IfOk result (λ x. rename mid p q now ≡ Ok (x, new))
    → IfOk result (λ _. IsResourceMap m → p ≢ q → (at_path new q ≡ Some (record { number = m.next; node = new_folder now })) × (at_path new p ≡ None))
stands_elsewhere m mid new p q now (Ok x) made h = λ is_map apart. elsewhere m mid new is_map p now made q h apart
stands_elsewhere m mid new p q now (Err e) made h = tt
