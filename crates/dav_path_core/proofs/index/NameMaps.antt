-- The names of a folder's children, as the code's map has them.
use Rattle.std.proofs.Common.{◌≡◌, ℕ, true, false, cond, List, [], ◌∷◌, Option, Some, None, map, refl, sym, ap, ◌∙◌, subst}
use Rattle.std.specs.Ordering.{is_eq}
use Rattle.std.specs.Cmp.{eq_by_cmp_equiv}
use Rattle.std.specs.FinMap.{find, get, insert, remove, get-from_entries, get-insert, get-remove, same_map}
use Rattle.std.specs.Map.{lookup}
use Rattle.std.specs.declared.vec.Vec.{Vec}
use Rattle.std.proofs.lemmas.Map.Entries.{place_from_lookup}
use Rattle.dav_path_core.specs.Fronts.{Segment, segment_cmp}
use Rattle.dav_path_core.specs.Private.ChildNames.{name_and_number, names_of}
use Rattle.dav_path_core.proofs.lists.Orders.{segment_total, segment_exact, eq_by_cmp_true}

turned : (q k : Segment) → is_eq (segment_cmp k q) ≡ is_eq (segment_cmp q k)
turned q k = (eq_by_cmp_equiv segment_total).symm k q

module _ {Z : Type 0} where
  -- the number at a name
  abbrev pub at_name : Segment → List (Vec ℕ Z × ℕ) → Option ℕ
  at_name q es = lookup (λ k. is_eq (segment_cmp q k.items)) es

  find-named : (q : Segment) (es : List (Vec ℕ Z × ℕ)) → find segment_cmp q (map name_and_number es) ≡ at_name q es
  find-named q [] = refl
  find-named q (e ∷ es) = ap (cond (is_eq (segment_cmp q e.0.items)) (Some e.1)) (find-named q es)

  pub get-names : (es : List (Vec ℕ Z × ℕ)) (q : Segment) → get (names_of es) q ≡ at_name q es
  get-names es q = get-from_entries segment_total (map name_and_number es) q ∙ find-named q es

  -- the key of a name that is there
  key_there : (q : Segment) (es : List (Vec ℕ Z × ℕ)) (v : ℕ) → at_name q es ≡ Some v → (k : Vec ℕ Z) × (q ≡ k.items)
  key_there q es v h = let w = place_from_lookup (λ (k : Vec ℕ Z). is_eq (segment_cmp q k.items)) es v h in (w.1, eq_by_cmp_true segment_exact q w.1.items w.3)

  module _ (old new : List (Vec ℕ Z × ℕ)) (s : Segment) (w : Option ℕ)
      (updates : (q : Vec ℕ Z) → at_name q.items new ≡ cond (is_eq (segment_cmp s q.items)) w (at_name q.items old)) (there : at_name s new ≡ w) where
    -- what is told of each name, also of one that no key could have
    by_key : (q : Segment) (k : Vec ℕ Z) → q ≡ k.items → at_name q new ≡ cond (is_eq (segment_cmp s q)) w (at_name q old)
    by_key q k is = subst (λ r. at_name r new ≡ cond (is_eq (segment_cmp s r)) w (at_name r old)) (sym is) (updates k)

    by_name : (q : Segment) → at_name q new ≡ cond (is_eq (segment_cmp s q)) w (at_name q old)
    by_name q = elim (is_eq (segment_cmp s q)) as (λ b. is_eq (segment_cmp s q) ≡ b → at_name q new ≡ cond b w (at_name q old)) [
      | true ↦ λ e. subst (λ r. at_name r new ≡ w) (eq_by_cmp_true segment_exact s q e) there
      | false ↦ λ e. elim (at_name q old) as (λ o. at_name q old ≡ o → at_name q new ≡ o) [
        | Some v ↦ λ is. let k = key_there q old v is in by_key q k.0 k.1 ∙ ap (λ b. cond b w (at_name q old)) e ∙ is
        | None ↦ λ is. elim (at_name q new) as (λ o. at_name q new ≡ o → o ≡ None) [
          | None ↦ λ none. refl
          | Some v ↦ λ some. let k = key_there q new v some in sym some ∙ by_key q k.0 k.1 ∙ ap (λ b. cond b w (at_name q old)) e ∙ is
        ] refl
      ] refl
    ] refl

    updated : (q : Segment) → get (names_of new) q ≡ cond (is_eq (segment_cmp q s)) w (get (names_of old) q)
    updated q = get-names new q ∙ by_name q ∙ ap (λ b. cond b w (at_name q old)) (turned q s) ∙ ap (cond (is_eq (segment_cmp q s)) w) (sym (get-names old q))

  pub names-insert : (old new : List (Vec ℕ Z × ℕ)) (s : Segment) (v : ℕ) → ((q : Vec ℕ Z) → at_name q.items new ≡ cond (is_eq (segment_cmp s q.items)) (Some v) (at_name q.items old)) → at_name s new ≡ Some v
      → names_of new ≡ insert (names_of old) s v
  names-insert old new s v updates there = same_map segment_total segment_exact (names_of new) (insert (names_of old) s v) (λ q. updated old new s (Some v) updates there q ∙ sym (get-insert segment_total (names_of old) s v q))

  pub names-remove : (old new : List (Vec ℕ Z × ℕ)) (s : Segment) → ((q : Vec ℕ Z) → at_name q.items new ≡ cond (is_eq (segment_cmp s q.items)) None (at_name q.items old)) → at_name s new ≡ None
      → names_of new ≡ remove (names_of old) s
  names-remove old new s updates there = same_map segment_total segment_exact (names_of new) (remove (names_of old) s) (λ q. updated old new s None updates there q ∙ sym (get-remove segment_total (names_of old) s q))
