-- What a rename does to the entries with numbers.
use Rattle.std.proofs.Common.{◌≡◌, ◌⊎◌, inl, inr, ℕ, Bool, true, false, [], ◌∷◌, ◌++◌, Option, Some, None, Ok, refl, sym, ap, ◌∙◌, subst, append_assoc}
use Rattle.std.specs.Prelude.{◌||◌, if◌then◌else◌, option_map, option_and_then}
use Rattle.std.proofs.lemmas.Bool.{true≢false}
use Rattle.dav_path_core.specs.Fronts.{Segment, Path, parent, behind, is_same_path}
use Rattle.dav_path_core.proofs.lists.FinMaps.{none_some, get_same, dec, test_false}
use Rattle.dav_path_core.proofs.lists.Orders.{path_total, path_exact}
use Rattle.dav_path_core.proofs.lists.Snoc.{by_last}
use Rattle.dav_path_core.proofs.paths.FrontLemmas.{is_same_path-refl, behind_append}
use Rattle.dav_files_core.specs.Following.{TakesAlong, TakesPlace, OthersStay, dated_entry, dated_folder}
use Rattle.dav_files_core.specs.Folders.{is_root}
use Rattle.dav_files_core.specs.Moved.{moved_map, path_after}
use Rattle.dav_files_core.specs.Outcomes.{with_modified_time, touched_at}
use Rattle.dav_files_core.specs.Renaming.{rename, relocated_map}
use Rattle.dav_files_core.specs.Resources.{Resource, ResourceMap, at_path, IsResourceMap}
use Rattle.dav_files_core.proofs.walks.FoundLemmas.{parent-snoc}
use Rattle.dav_files_core.proofs.walks.HasMembersLemmas.{has_member}
use Rattle.dav_files_core.proofs.laws.DoneLemmas.{RenamedEntry, renamed_entry, touched_other}
use Rattle.dav_files_core.proofs.laws.GrownLemmas.{rename_grows}
use Rattle.dav_files_core.proofs.paths.FrontLemmas.{after_back, after_gone}
use Rattle.dav_files_core.proofs.paths.LengthLemmas.{no_longer}
use Rattle.dav_files_core.proofs.moves.MovedLemmas.{get-moved, moved_other, moved_to}
use Rattle.dav_files_core.proofs.moves.MovingLemmas.{front_there}
use Rattle.dav_files_core.proofs.opens.NumberedLemmas.{numbered_is, number_gone, number_is}
use Rattle.dav_files_core.proofs.moves.RenamedLemmas.{put}

module _ (m : ResourceMap) (is_map : IsResourceMap m) (from : Path) (r : Resource) (source : at_path m from ≡ Some r) (now : ℕ) where
  module _ (q : Path) (name : Segment) (x : ResourceMap) (h : relocated_map m from (q ++ (name ∷ [])) ≡ Ok x) where
    abbrev to : Path
    to = q ++ (name ∷ [])

    -- what is behind the source comes to be behind the target
    came_along : (s : Path) → at_path x (to ++ s) ≡ at_path m (from ++ s)
    came_along s = elim ((put m from q name x h).put) [
      | inl same ↦ ap (λ m. at_path m (to ++ s)) same.1 ∙ ap (λ (p : Path). at_path m (p ++ s)) (sym same.0)
      | inr away ↦ ap (λ m. at_path m (to ++ s)) away.1 ∙ moved_to m from to s
    ]

    -- the target has no members
    no_member : (t : Segment) (v : Path) → ¬ (from ≡ to ++ (t ∷ v))
    no_member t v e =
        let next = front_there m is_map (to ++ (t ∷ [])) v r (ap (at_path m) (append_assoc to (t ∷ []) v ∙ sym e) ∙ source) in
        true≢false (sym (has_member m to t next.0 next.1) ∙ (put m from q name x h).leaf)

    -- so the folders of both are elsewhere
    deeper : (s : Path) (l : Segment) → ¬ (from ≡ to ++ (s ++ (l ∷ [])))
    deeper [] l e = no_member l [] e
    deeper (t ∷ s) l e = no_member t (s ++ (l ∷ [])) e

    not_above : (s : Path) → ¬ (to ++ s ≡ parent from)
    not_above s e = elim (by_last from) [
      | inl empty ↦ true≢false (sym (ap is_root empty) ∙ (put m from q name x h).not_up)
      | inr last ↦
          let folder : parent from ≡ last.0 = ap parent last.2 ∙ parent-snoc last.0 last.1 in
          deeper s last.1 (last.2 ∙ ap (λ (u : Path). u ++ (last.1 ∷ [])) (sym folder ∙ sym e) ∙ append_assoc to s (last.1 ∷ []))
    ]

    not_own : (s : Path) → ¬ (to ++ s ≡ parent to)
    not_own s e = no_longer q name s (sym (e ∙ parent-snoc q name))

    -- what is behind the target once all is done
    pub behind_target : (s : Path) → at_path (with_modified_time (with_modified_time x (parent from) now) (parent to) now) (to ++ s) ≡ at_path m (from ++ s)
    behind_target s =
        touched_other (with_modified_time x (parent from) now) (parent to) now (to ++ s) (not_own s) ∙ touched_other x (parent from) now (to ++ s) (not_above s) ∙ came_along s

-- ---- a modified time that is set, at each path
dated_at : ℕ → Path → Path → Resource → Resource
dated_at now q p r = if is_same_path p q then dated_entry now r else r

touched_at_path : (m : ResourceMap) (q : Path) (now : ℕ) (p : Path) → at_path (with_modified_time m q now) p ≡ option_map (dated_at now q p) (at_path m p)
unfolding dated_at
touched_at_path m q now p = elim (dec path_total path_exact p q) [
  | inl same ↦ subst (λ p. at_path (with_modified_time m q now) p ≡ option_map (dated_at now q p) (at_path m p)) (sym same) (own (at_path m q) refl)
  | inr other ↦ touched_other m q now p other ∙ sym (kept (at_path m p) (test_false path_total path_exact p q other))
]
  where
    own : (o : Option Resource) → at_path m q ≡ o → at_path (touched_at m q now o) q ≡ option_map (dated_at now q q) o
    own None e = e
    own (Some r) e = get_same path_total path_exact m.entries q (dated_entry now r) ∙ ap (λ b. Some (if b then dated_entry now r else r)) (sym (is_same_path-refl q))

    kept : (o : Option Resource) → is_same_path p q ≡ false → option_map (dated_at now q p) o ≡ o
    kept None e = refl
    kept (Some r) e = ap (λ b. Some (if b then dated_entry now r else r)) e

both_dated : (a b : Bool) (now : ℕ) (r : Resource) → (if b then dated_entry now (if a then dated_entry now r else r) else (if a then dated_entry now r else r)) ≡ (if a || b then dated_entry now r else r)
both_dated true true now r = refl
both_dated true false now r = refl
both_dated false true now r = refl
both_dated false false now r = refl

dated_number : (b : Bool) (now : ℕ) (r : Resource) → (if b then dated_entry now r else r).number ≡ r.number
dated_number true now r = refl
dated_number false now r = refl

came_from : (f g : Resource → Resource) → ((r : Resource) → (f r).number ≡ r.number) → ((r : Resource) → (g r).number ≡ r.number) → (o : Option Resource) (x : Resource)
    → option_map f (option_map g o) ≡ Some x → (y : Resource) × (o ≡ Some y) × (y.number ≡ x.number)
came_from f g kf kg None x h = absurd (cc)
came_from f g kf kg (Some y) x h = let is : f (g y) ≡ x = cc in (y, refl, sym (kg y) ∙ sym (kf (g y)) ∙ ap (λ (r : Resource). r.number) is)

-- ---- a rename that was done
module _ (m m' : ResourceMap) (from to : Path) (now : ℕ) (is_map : IsResourceMap m) (h : rename m from to now ≡ Ok (tt, m')) where
  done : RenamedEntry m m' from to now
  done = renamed_entry m m' from to now h

  is_map' : IsResourceMap m'
  is_map' = (rename_grows m from to now (tt, m') h).shape is_map

  abbrev between : ResourceMap
  between = done.between.0

  not_to_root : ¬ (to ≡ [])
  not_to_root empty = let both : relocated_map m from [] ≡ Ok between = ap (relocated_map m from) (sym empty) ∙ done.between.1 in absurd (cc)

  how : ((from ≡ to) × (between ≡ m)) ⊎ ((behind from to ≡ None) × (between ≡ moved_map m from to))
  how = elim (by_last to) [
    | inl empty ↦ absurd (not_to_root empty)
    | inr last ↦ elim ((put m from last.0 last.1 between (ap (relocated_map m from) (sym last.2) ∙ done.between.1)).put) [
      | inl same ↦ inl (same.0 ∙ sym last.2, same.1)
      | inr away ↦ inr (ap (behind from) last.2 ∙ away.0, away.1 ∙ ap (moved_map m from) (sym last.2))
    ]
  ]

  left_at : (p : Path) → at_path m' p ≡ option_map (dated_at now (parent to) p) (option_map (dated_at now (parent from) p) (at_path between p))
  left_at p =
      ap (λ m. at_path m p) done.between.2 ∙ touched_at_path (with_modified_time between (parent from) now) (parent to) now p
      ∙ ap (option_map (dated_at now (parent to) p)) (touched_at_path between (parent from) now p)

  pub takes_along : TakesAlong m from to m'
  takes_along n s r at = elim (by_last to) [
    | inl empty ↦ absurd (not_to_root empty)
    | inr last ↦
        let old = numbered_is m n (from ++ s, r) at in
        let there : at_path m' (to ++ s) ≡ Some r =
        ap (λ (p : Path). at_path m' (p ++ s)) last.2 ∙ ap (λ m. at_path m ((last.0 ++ (last.1 ∷ [])) ++ s)) (done.between.2 ∙ ap (λ to. with_modified_time (with_modified_time done.between.0 (parent from) now) (parent to) now) last.2)
        ∙ behind_target m is_map from done.source.0 done.source.1 now last.0 last.1 done.between.0 (ap (relocated_map m from) (sym last.2) ∙ done.between.1) s ∙ old.0 in
        number_is m' is_map' (to ++ s) r there n old.1
  ]

  pub others_stay : OthersStay m from to now m'
  unfolding dated_at
  others_stay n p r at f t =
      let old = numbered_is m n (p, r) at in
      number_is m' is_map' p (dated_folder from to now p r)
      (left_at p ∙ ap (λ o. option_map (dated_at now (parent to) p) (option_map (dated_at now (parent from) p) o)) (kept ∙ old.0)
      ∙ ap Some (both_dated (is_same_path p (parent from)) (is_same_path p (parent to)) now r))
      n (dated_number (is_same_path p (parent from) || is_same_path p (parent to)) now r ∙ old.1)
    where
      kept : at_path between p ≡ at_path m p
      kept = elim how [
        | inl same ↦ ap (λ m. at_path m p) same.1
        | inr away ↦ ap (λ m. at_path m p) away.1 ∙ moved_other m from to p f t
      ]

  pub takes_place : TakesPlace m from to m'
  unfolding dated_at
  takes_place n s r at apart = number_gone m' n (λ p x there number.
      let y = came_from (dated_at now (parent to) p) (dated_at now (parent from) p) (λ r. dated_number (is_same_path p (parent to)) now r) (λ r. dated_number (is_same_path p (parent from)) now r)
      (at_path between p) x (sym (left_at p) ∙ there) in
      elim how [
        | inl same ↦ none_some (behind from (to ++ s)) s apart (ap (λ (q : Path). behind from (q ++ s)) (sym same.0) ∙ behind_append from s)
        | inr away ↦ moved_there p y.0 (y.2 ∙ number) (path_after to from p) refl (sym (get-moved m from to p) ∙ sym (ap (λ m. at_path m p) away.1) ∙ y.1)
      ])
    where
      moved_there : (p : Path) (y : Resource) → y.number ≡ n → (o : Option Path) → path_after to from p ≡ o → ¬ (option_and_then (at_path m) o ≡ Some y)
      moved_there p y number None e there = absurd (cc)
      moved_there p y number (Some q) e there =
          let old = numbered_is m n (to ++ s, r) at in
          let same : q ≡ to ++ s = is_map.apart q (to ++ s) y r there old.0 (number ∙ sym old.1) in
          none_some (path_after from to (to ++ s)) p (after_gone from to (to ++ s) s apart (behind_append to s)) (ap (path_after from to) (sym same) ∙ after_back to from p q e)
