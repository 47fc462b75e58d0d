-- Which refusal the definitions of the tree's calls give.
use Rattle.std.proofs.Common.{MatchOption, ◌≡◌, ◌≢◌, ◌==◌, ◌||◌, ◌&&◌, ℕ, Bool, is_some, true, false, cond, Some, None, Option, refl, ap, sym, ◌∙◌, subst, inl, inr}
use Rattle.std.specs.Option.{option_map}
use Rattle.std.proofs.lemmas.Bool.{cases_Bool, cases_eq, eq-eqb, ne_eqb, true≢false, and_parts, or_parts, or_right}
use Rattle.dav_path_core.specs.declared.errors.FsError.{FsError}
use Rattle.dav_path_core.specs.declared.errors.FsError.TheVariants.{Exists, NotFound, Forbidden}
use Rattle.dav_path_core.specs.Keyed.{Keyed, LeadsToRoot, root, up, Under, here, below, entry, parent_and_key, parent_number, child, has_child, delete_refusal, move_refusal, restore_refusal, is_kept, is_under, IsKnown, IsTree}
use Rattle.dav_path_core.proofs.trees.Trees.{none≢some, none_from_is_some, child-none, child-some}
use Rattle.dav_path_core.proofs.trees.KeyedDepth.{is_under-true}
use Rattle.dav_path_core.proofs.trees.KeyedCuts.{parent_child}

apart_refusals : ◌≡◌ {A = Option FsError} (Some Exists) (Some Forbidden) → ⊥
apart_refusals e = cc

apart_refusals-2 : ◌≡◌ {A = Option FsError} (Some NotFound) (Some Forbidden) → ⊥
apart_refusals-2 e = cc

-- what leads to the root lies below it
under_root : {f : ℕ → Option ℕ} {n : ℕ} → LeadsToRoot f n → Under f 1 n
under_root root = here
under_root (up e l) = below e (under_root l)

module _ {K D : Type 0} (t : Keyed K D) where
  -- a node with no parent is the root
  top_leads : {n : ℕ} → LeadsToRoot (parent_number t) n → parent_and_key t n ≡ None → n ≡ 1
  top_leads root e = refl
  top_leads (up {p = p} f l) e = absurd (none≢some p (sym (ap (option_map (λ q. q.0)) e) ∙ f))

  pub no_parent_root : (eq : K → K → Bool) → IsTree eq t → (n : ℕ) → IsKnown t n → parent_and_key t n ≡ None → n ≡ 1
  no_parent_root eq tree n known e = top_leads (tree.attached n known) e

  -- a node is restored only under a free number
  pub restore_unused : (p n : ℕ) → restore_refusal t p n ≡ None → entry t n ≡ None
  restore_unused p n h = none_from_is_some (entry t n) (free (is_some (entry t p)) (is_some (entry t n)) _ h)
    where
      free : (a b : Bool) (o : Option FsError) → cond a (cond b (Some Exists) o) (Some NotFound) ≡ None → b ≡ false
      free a false o h = refl
      free true true o h = absurd (none≢some Exists (sym h))
      free false true o h = absurd (none≢some NotFound (sym h))

  pub has_child-true : (n m : ℕ) → parent_number t m ≡ Some n → has_child t n ≡ true
  has_child-true n m e =
      elim (child (λ _. true) t n) as (λ o. child (λ _. true) t n ≡ o → is_some o ≡ true) [
        | None ↦ λ none. let w = parent_child (entry t m) n e in absurd (true≢false (child-none t (λ _. true) n none m w.0 w.1))
        | Some c ↦ λ some. refl
      ] refl

  pub has_child-false : (n : ℕ) → ((m : ℕ) → parent_number t m ≢ Some n) → has_child t n ≡ false
  has_child-false n alone =
      elim (child (λ _. true) t n) as (λ o. child (λ _. true) t n ≡ o → is_some o ≡ false) [
        | None ↦ λ none. refl
        | Some c ↦ λ some. absurd (alone c (ap (option_map (λ q. q.0)) (child-some t (λ _. true) n c some).1))
      ] refl

  -- a node has a child where it has a first one
  pub has_child-first : (n : ℕ) (o : Option ℕ) → MatchOption o (has_child t n ≡ false) (λ m. parent_number t m ≡ Some n) → is_some o ≡ has_child t n
  has_child-first n None h = sym h
  has_child-first n (Some m) h = sym (has_child-true n m h)

  module _ (n : ℕ) where
    pub delete-unknown : is_some (entry t n) ≡ false → delete_refusal t n ≡ Some NotFound
    delete-unknown h = ap (λ b. cond b (cond ((n == 1) || has_child t n) (Some Forbidden) None) (Some NotFound)) h

    delete-known : IsKnown t n → (b : Bool) → ((n == 1) || has_child t n) ≡ b → delete_refusal t n ≡ cond b (Some Forbidden) None
    delete-known h b e = ap (λ b. cond b (cond ((n == 1) || has_child t n) (Some Forbidden) None) (Some NotFound)) h ∙ ap (λ b. cond b (Some Forbidden) None) e

    pub delete-root : IsKnown t n → n ≡ 1 → delete_refusal t n ≡ Some Forbidden
    delete-root h e = delete-known h true (ap (λ b. b || has_child t n) (eq-eqb n 1 e))

    pub delete-parent : IsKnown t n → has_child t n ≡ true → delete_refusal t n ≡ Some Forbidden
    delete-parent h e = delete-known h true (ap (λ b. (n == 1) || b) e ∙ or_right (n == 1) true refl)

    pub delete-leaf : IsKnown t n → n ≢ 1 → has_child t n ≡ false → delete_refusal t n ≡ None
    delete-leaf h ne e = delete-known h false (ap (λ b. b || has_child t n) (ne_eqb n 1 ne) ∙ e)

  -- ---- of a move
  module _ (eq : K → K → Bool) (n p : ℕ) (k : K) (overwrite : Bool) where
    pub move-unknown : (is_some (entry t n) && is_some (entry t p)) ≡ false → move_refusal eq t n p k overwrite ≡ Some NotFound
    move-unknown h = ap (λ b. cond b (cond (is_kept t overwrite (child (eq k) t p)) (Some Exists) (cond ((n == 1) || is_under t n p) (Some Forbidden) None)) (Some NotFound)) h

    module _ (known : (is_some (entry t n) && is_some (entry t p)) ≡ true) where
      move-known : move_refusal eq t n p k overwrite ≡ cond (is_kept t overwrite (child (eq k) t p)) (Some Exists) (cond ((n == 1) || is_under t n p) (Some Forbidden) None)
      move-known = ap (λ b. cond b (cond (is_kept t overwrite (child (eq k) t p)) (Some Exists) (cond ((n == 1) || is_under t n p) (Some Forbidden) None)) (Some NotFound)) known

      pub move-taken : is_kept t overwrite (child (eq k) t p) ≡ true → move_refusal eq t n p k overwrite ≡ Some Exists
      move-taken h = move-known ∙ ap (λ b. cond b (Some Exists) (cond ((n == 1) || is_under t n p) (Some Forbidden) None)) h

      module _ (open_key : is_kept t overwrite (child (eq k) t p) ≡ false) where
        pub move-open : (b : Bool) → ((n == 1) || is_under t n p) ≡ b → move_refusal eq t n p k overwrite ≡ cond b (Some Forbidden) None
        move-open b h = move-known ∙ ap (λ b. cond b (Some Exists) (cond ((n == 1) || is_under t n p) (Some Forbidden) None)) open_key ∙ ap (λ b. cond b (Some Forbidden) None) h

        pub move-allowed : n ≢ 1 → is_under t n p ≡ false → move_refusal eq t n p k overwrite ≡ None
        move-allowed ne h = move-open false (ap (λ b. b || is_under t n p) (ne_eqb n 1 ne) ∙ h)

    -- what a move that nothing refuses has
    pub record Allowed : Type 0 where
      pub known : IsKnown t n
      pub known_parent : IsKnown t p
      pub replaceable : is_kept t overwrite (child (eq k) t p) ≡ false
      pub not_root : n ≢ 1
      pub outside : is_under t n p ≡ false

    some_some : {X : Type 0} (x : X) → Some x ≡ None → ⊥
    some_some x e = none≢some x (sym e)

    pub allowed : move_refusal eq t n p k overwrite ≡ None → Allowed
    allowed h =
        let a = is_some (entry t n) && is_some (entry t p) in
        let b = is_kept t overwrite (child (eq k) t p) in
        let c = (n == 1) || is_under t n p in
        elim (cases_Bool a) [
          | inl at ↦ elim (cases_Bool b) [
            | inl bt ↦ absurd (some_some Exists (sym (move-taken at bt) ∙ h))
            | inr bf ↦ elim (cases_Bool c) [
              | inl ct ↦ absurd (some_some Forbidden (sym (move-open at bf true ct) ∙ h))
              | inr cf ↦ record {
                known = (and_parts _ _ at).0;
                known_parent = (and_parts _ _ at).1;
                replaceable = bf;
                not_root = λ e. true≢false (sym (eq-eqb n 1 e) ∙ (or_parts _ _ cf).0);
                outside = (or_parts _ _ cf).1;
              }
            ]
          ]
          | inr af ↦ absurd (some_some NotFound (sym (move-unknown af) ∙ h))
        ]

    -- a move that is allowed leads out of the node's own subtree, and one that is forbidden leads into it
    pub allowed-outside : IsTree eq t → move_refusal eq t n p k overwrite ≡ None → Under (parent_number t) n p → ⊥
    allowed-outside tree h u = let a = allowed h in true≢false (sym ((is_under-true eq t tree n p a.known_parent).1 u) ∙ a.outside)

    pub forbidden-below : IsTree eq t → move_refusal eq t n p k overwrite ≡ Some Forbidden → Under (parent_number t) n p
    forbidden-below tree h =
        let a = is_some (entry t n) && is_some (entry t p) in
        let b = is_kept t overwrite (child (eq k) t p) in
        let c = (n == 1) || is_under t n p in
        elim (cases_Bool a) [
          | inl at ↦ elim (cases_Bool b) [
            | inl bt ↦ absurd (apart_refusals (sym (move-taken at bt) ∙ h))
            | inr bf ↦ elim (cases_eq n 1) [
              | inl one ↦ subst (λ v. Under (parent_number t) v p) (sym one) (under_root (tree.attached p (and_parts _ _ at).1))
              | inr ne ↦ elim (cases_Bool (is_under t n p)) [
                | inl ut ↦ (is_under-true eq t tree n p (and_parts _ _ at).1).0 ut
                | inr uf ↦ absurd (none≢some Forbidden (sym (move-allowed at bf ne uf) ∙ h))
              ]
            ]
          ]
          | inr af ↦ absurd (apart_refusals-2 (sym (move-unknown af) ∙ h))
        ]
