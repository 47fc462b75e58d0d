-- What is copied, by the walk of the source.
use Rattle.std.proofs.Common.{◌≡◌, inl, inr, ℕ, ◌+◌, ◌<◌, ◌≤◌, Bool, true, false, cond, not, List, [], ◌∷◌, ◌++◌, append-nil, append_assoc, drop, get_or, length, map, Option, Some, None, refl, sym, ap, ◌∙◌, subst, arith}
use Rattle.std.specs.Prelude.{IsSome, filter_map, option_map}
use Rattle.std.specs.List.{cons_option}
use Rattle.std.proofs.lemmas.Bool.{cases_Bool, false≢true, not-true}
use Rattle.std.proofs.lemmas.List.{drop_all}
use Rattle.dav_path_core.specs.Fronts.{Path, behind, is_front}
use Rattle.dav_path_core.proofs.lists.MemberLemmas.{In, In-Contains, Contains-In}
use Rattle.dav_path_core.proofs.paths.FrontLemmas.{behind_append, behind_is}
use Rattle.dav_files_core.specs.Resources.{ResourceMap, at_path}
use Rattle.dav_session_core.specs.Copying.{AreCopied, source_and_target, is_copied}
use Rattle.dav_methods_core.specs.TransferEnds.{ArePlaces, copies_of, copy_target}
use Rattle.dav_session_core.specs.Subtrees.{ComesBefore, HasOddName, IsSubtreeWalk}
use Rattle.dav_session_core.proofs.ConditionLemmas.{drop_seen}
use Rattle.dav_session_core.proofs.WalkOrderLemmas.{pairs_later, without_front}
use Rattle.dav_path_core.proofs.paths.SubtreePaths.{Later, front_of}
use Rattle.dav_path_core.proofs.paths.SubtreePaths.{later_pairs}

-- ---- lists of which some elements are taken over

module _ {A B : Type 0} (f : A → Option B) where
  kept_in : (x : A) (y : B) (xs : List A) → In x xs → f x ≡ Some y → In y (filter_map f xs)
  kept_in x y [] i is = absurd i
  kept_in x y (z ∷ xs) (inl e) is = subst (λ o. In y (cons_option o (filter_map f xs))) (sym (ap f e ∙ is)) (inl refl)
  kept_in x y (z ∷ xs) (inr i) is = by (f z) (kept_in x y xs i is)
    where
      by : (o : Option B) → In y (filter_map f xs) → In y (cons_option o (filter_map f xs))
      by None j = j
      by (Some b) j = inr j

  came_from : (y : B) (xs : List A) → In y (filter_map f xs) → (x : A) × In x xs × (f x ≡ Some y)
  came_from y [] i = absurd i
  came_from y (z ∷ xs) i = by (f z) refl (came_from y xs) i
    where
      by : (o : Option B) → f z ≡ o → (In y (filter_map f xs) → (x : A) × In x xs × (f x ≡ Some y)) → In y (cons_option o (filter_map f xs))
          → (x : A) × In x (z ∷ xs) × (f x ≡ Some y)
      by None is rest i = let r = rest i in (r.0, inr r.1, r.2)
      by (Some b) is rest (inl e) = (z, inl refl, is ∙ ap Some e)
      by (Some b) is rest (inr i) = let r = rest i in (r.0, inr r.1, r.2)

  later_kept : (R : A → A → Type 0) (Q : B → B → Type 0) → ((x z : A) (y b : B) → f x ≡ Some y → f z ≡ Some b → R x z → Q y b) → (xs : List A) → Later R xs → Later Q (filter_map f xs)
  later_kept R Q step [] h = tt
  later_kept R Q step (x ∷ xs) h = by (f x) refl (later_kept R Q step xs h.1)
    where
      by : (o : Option B) → f x ≡ o → Later Q (filter_map f xs) → Later Q (cons_option o (filter_map f xs))
      by None is rest = rest
      by (Some y) is rest = ((λ b i. let r = came_from b xs i in step x r.0 y b is r.2 (h.0 r.0 r.1)), rest)

-- ---- what is copied

module _ (from to : Path) where
  -- the path below the source, of what isn't at or below the target
  abbrev pub rest_at : Path → Option Path
  rest_at q = cond (is_front to q) None (behind from q)

  abbrev pub rests_of : List Path → List Path
  rests_of places = filter_map rest_at places

  pair_of : (q : Path) → option_map (λ t. (q, t)) (copy_target from to q) ≡ option_map (source_and_target from to) (rest_at q)
  pair_of q = by (is_front to q) (behind from q) refl
    where
      by : (b : Bool) (o : Option Path) → behind from q ≡ o
          → option_map (λ t. (q, t)) (cond b None (option_map (λ rest. to ++ rest) o)) ≡ option_map (source_and_target from to) (cond b None o)
      by true o is = refl
      by false None is = refl
      by false (Some rest) is = ap (λ p. Some (p, to ++ rest)) (behind_is from q rest is)

  pub pairs_are : (places : List Path) → copies_of from to places ≡ map (source_and_target from to) (rests_of places)
  pairs_are [] = refl
  pairs_are (q ∷ places) =
      ap (λ o. cons_option o (copies_of from to places)) (pair_of q) ∙ ap (cons_option (option_map (source_and_target from to) (rest_at q))) (pairs_are places) ∙ by (rest_at q)
    where
      by : (o : Option Path) → cons_option (option_map (source_and_target from to) o) (map (source_and_target from to) (rests_of places)) ≡ map (source_and_target from to) (cons_option o (rests_of places))
      by None = refl
      by (Some rest) = refl

  -- the path of one that is taken over
  taken : (q rest : Path) → rest_at q ≡ Some rest → (is_front to q ≡ false) × (q ≡ from ++ rest)
  taken q rest h = elim (cases_Bool (is_front to q)) [
    | inl inside ↦ let no_rest : None ≡ Some rest = subst (λ b. cond b None (behind from q) ≡ Some rest) inside h in absurd (cc)
    | inr out ↦ (out, behind_is from q rest (subst (λ b. cond b None (behind from q) ≡ Some rest) out h))
  ]

  takes : (rest : Path) → is_front to (from ++ rest) ≡ false → rest_at (from ++ rest) ≡ Some rest
  takes rest out = ap (λ b. cond b None (behind from (from ++ rest))) out ∙ behind_append from rest

  -- all the way down
  module _ (m : ResourceMap) (places : List Path) (walk : IsSubtreeWalk m from places) (apart : is_front to from ≡ false) where
    copied_so : (rest : Path) → is_front to (from ++ rest) ≡ false → is_copied true from to rest ≡ true
    copied_so [] out = refl
    copied_so (x ∷ rest) out = ap not out

    out_so : (rest : Path) → is_copied true from to rest ≡ true → is_front to (from ++ rest) ≡ false
    out_so [] h = ap (is_front to) (append-nil from) ∙ apart
    out_so (x ∷ rest) h = not-true _ h

    all_copied : AreCopied true from to m (rests_of places)
    all_copied = record {
      members = λ rest. (
        (λ c.
            let r = came_from rest_at rest places (In-Contains _ _ c) in
            let t = taken r.0 rest r.2 in
            let there = (walk.members r.0).0 (Contains-In _ _ r.1) in
            (copied_so rest (subst (λ q. is_front to q ≡ false) t.1 t.0), subst (λ q. IsSome (at_path m q)) t.1 there.1)),
        (λ h.
            Contains-In _ _ (kept_in rest_at (from ++ rest) rest places (In-Contains _ _ ((walk.members (from ++ rest)).1 (front_of from rest, h.1))) (takes rest (out_so rest h.0)))),
      );
      sorted = later_pairs ComesBefore (rests_of places) (later_kept rest_at ComesBefore ComesBefore
          (λ q z rest other at also before. without_front from rest other
          (subst (λ y. ComesBefore (from ++ rest) y) (taken z other also).1
          (subst (λ y. ComesBefore y z) (taken q rest at).1 before)))
          places (pairs_later ComesBefore places walk.sorted));
    }

  -- the source alone
  module _ (m : ResourceMap) (stands : IsSome (at_path m from)) (apart : is_front to from ≡ false) where
    one_copied : AreCopied false from to m ([] ∷ [])
    one_copied = record {
      members = λ rest. (
        (λ c. elim (In-Contains ([] ∷ []) rest c) [
          | inl e ↦ subst (λ r. (is_copied false from to r ≡ true) × IsSome (at_path m (from ++ r))) e (refl, subst (λ q. IsSome (at_path m q)) (sym (append-nil from)) stands)
          | inr i ↦ absurd i
        ]),
        (λ h. Contains-In ([] ∷ []) rest (itself rest h.0)),
      );
      sorted = λ i j d lt inside. absurd (omega (arith, lt, inside));
    }
      where
        itself : (rest : Path) → is_copied false from to rest ≡ true → In rest ([] ∷ [])
        itself [] h = inl refl
        itself (x ∷ rest) h = absurd (false≢true h)

    one_rest : rests_of (from ∷ []) ≡ [] ∷ []
    one_rest = ap (λ o. cons_option o []) (ap (λ b. cond b None (behind from from)) apart ∙ ap (behind from) (sym (append-nil from)) ∙ behind_append from [])

  pub are_copied : (m : ResourceMap) (deep : Bool) (places : List Path) → ArePlaces m deep from places → IsSome (at_path m from) → is_front to from ≡ false
      → AreCopied deep from to m (rests_of places)
  are_copied m true places are stands apart = all_copied m places are apart
  are_copied m false places are stands apart =
      subst (AreCopied false from to m) (sym (ap rests_of are ∙ one_rest m stands apart)) (one_copied m stands apart)

-- where all the way down is copied, each name is one that a path can have
pub places_plain : (m : ResourceMap) (from : Path) (places : List Path) (deep : Bool)
    → ArePlaces m deep from places → deep ≡ true → ¬ HasOddName m from
places_plain m from places true are down = are.plain
places_plain m from places false are down = absurd (false≢true down)

-- ---- one place after another

module _ {A : Type 0} (from to : Path) (view : A → Path) (xs : List A) (i : ℕ) (done all : List (Path × Path)) (left : done ++ copies_of from to (map view (drop i xs)) ≡ all) where
  pub copied_more : (x : A) (more : List (Path × Path)) → i < length xs → x ≡ get_or xs i x → more ≡ done ++ copies_of from to (view x ∷ [])
      → more ++ copies_of from to (map view (drop (i + 1) xs)) ≡ all
  copied_more x more lt is added =
      ap (λ ps. ps ++ rest) added ∙ joined (option_map (λ t. (view x, t)) (copy_target from to (view x)))
      ∙ ap (λ qs. done ++ copies_of from to qs) (sym (drop_seen view xs i x lt is)) ∙ left
    where
      rest : List (Path × Path)
      rest = copies_of from to (map view (drop (i + 1) xs))

      joined : (o : Option (Path × Path)) → (done ++ cons_option o []) ++ rest ≡ done ++ cons_option o rest
      joined None = ap (λ ps. ps ++ rest) (append-nil done)
      joined (Some p) = append_assoc done (p ∷ []) rest

  pub copied_all : length xs ≤ i → done ≡ all
  copied_all le = sym (append-nil done) ∙ ap (λ ys. done ++ copies_of from to (map view ys)) (sym (drop_all i xs le)) ∙ left
