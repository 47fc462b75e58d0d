-- The members of a folder, name by name.
use Rattle.std.proofs.Common.{◌≡◌, inl, inr, true, false, cond, List, [], ◌∷◌, ◌++◌, Option, Some, None, refl, sym, ap, ◌∙◌, subst}
use Rattle.std.specs.Prelude.{option_map, filter_map, if◌then◌else◌, is_some, T, ◌&&◌, map}
use Rattle.std.specs.List.{cons_option}
use Rattle.std.specs.Ordering.{eq_by_cmp, is_lt}
use Rattle.std.specs.FinMap.{FinMap, entries, get, find, get-entries, get-from_entries, entries_sorted, is_sorted, keys}
use Rattle.std.specs.FinMap.Entries.{same_entries, below_all}
use Rattle.dav_path_core.specs.Fronts.{Segment, Path, path_cmp, segment_cmp, name_below}
use Rattle.dav_files_core.specs.Resources.{Resource, ResourceMap, at_path}
use Rattle.dav_files_core.specs.Finding.{members, member_of, place}
use Rattle.dav_path_core.proofs.lists.Orders.{path_total, path_exact, segment_total, segment_exact, eq_by_cmp_same, eq_by_cmp_true}
use Rattle.dav_path_core.proofs.lists.FinMaps.{none_some, one_some, dec, test_false}

pub name_is : (p q : Path) (s : Segment) → name_below p q ≡ Some s → q ≡ p ++ (s ∷ [])
name_is [] [] s h = absurd (cc)
name_is [] (x ∷ []) s h = let same : x ≡ s = cc in cc
name_is [] (x ∷ y ∷ q) s h = absurd (cc)
name_is (x ∷ p) [] s h = absurd (cc)
name_is (x ∷ p) (y ∷ q) s h =
    elim (eq_by_cmp segment_cmp x y) as (λ b. eq_by_cmp segment_cmp x y ≡ b → (if b then name_below p q else None) ≡ Some s → y ∷ q ≡ x ∷ (p ++ (s ∷ []))) [
      | true ↦ λ e h. let same = eq_by_cmp_true segment_exact x y e in let rest = name_is p q s h in cc
      | false ↦ λ e h. absurd (cc)
    ] refl h

pub name_of : (p : Path) (s : Segment) → name_below p (p ++ (s ∷ [])) ≡ Some s
name_of [] s = refl
name_of (x ∷ p) s = ap (λ b. if b then name_below p (p ++ (s ∷ [])) else None) (eq_by_cmp_same segment_total x) ∙ name_of p s

find-members : (p : Path) (es : List (Path × Resource)) (s : Segment) → find segment_cmp s (filter_map (member_of p) es) ≡ find path_cmp (p ++ (s ∷ [])) es
find-members p [] s = refl
find-members p (e ∷ es) s = by (name_below p e.0) refl (find-members p es s)
  where
    rest : List (Segment × Resource)
    rest = filter_map (member_of p) es

    other : ¬ (p ++ (s ∷ []) ≡ e.0) → find path_cmp (p ++ (s ∷ [])) es ≡ find path_cmp (p ++ (s ∷ [])) (e ∷ es)
    other ne = ap (λ b. cond b (Some e.1) (find path_cmp (p ++ (s ∷ [])) es)) (sym (test_false path_total path_exact (p ++ (s ∷ [])) e.0 ne))

    by : (o : Option Segment) → name_below p e.0 ≡ o → find segment_cmp s (filter_map (member_of p) es) ≡ find path_cmp (p ++ (s ∷ [])) es
        → find segment_cmp s (filter_map (member_of p) (e ∷ es)) ≡ find path_cmp (p ++ (s ∷ [])) (e ∷ es)
    by None h ih =
        ap (λ (o : Option Segment). find segment_cmp s (cons_option (option_map (λ (name : Segment). (name, e.1)) o) rest)) h ∙ ih
        ∙ other (λ same. none_some (name_below p e.0) s h (ap (name_below p) (sym same) ∙ name_of p s))
    by (Some name) h ih =
        ap (λ (o : Option Segment). find segment_cmp s (cons_option (option_map (λ (name : Segment). (name, e.1)) o) rest)) h ∙ elim (dec segment_total segment_exact s name) [
          | inl same ↦
              ap (λ b. cond b (Some e.1) (find segment_cmp s rest)) (ap (eq_by_cmp segment_cmp s) (sym same) ∙ eq_by_cmp_same segment_total s)
              ∙ sym (ap (λ b. cond b (Some e.1) (find path_cmp (p ++ (s ∷ [])) es)) (ap (eq_by_cmp path_cmp (p ++ (s ∷ []))) (name_is p e.0 name h ∙ ap (λ t. p ++ (t ∷ [])) (sym same)) ∙ eq_by_cmp_same path_total (p ++ (s ∷ []))))
          | inr ne ↦
              ap (λ b. cond b (Some e.1) (find segment_cmp s rest)) (test_false segment_total segment_exact s name ne) ∙ ih
              ∙ other (λ same. ne (one_some (name_below p e.0) s name (ap (name_below p) (sym same) ∙ name_of p s) h))
        ]

-- the member of a name is the entry one segment further
pub get-members : (m : ResourceMap) (p : Path) (s : Segment) → get (members m p) s ≡ at_path m (p ++ (s ∷ []))
get-members m p s = get-from_entries segment_total (filter_map (member_of p) (entries m.entries)) s ∙ find-members p (entries m.entries) s ∙ sym (get-entries m.entries (p ++ (s ∷ [])))

-- ---- the keys of a map, by the keys that it has
module _ {X : Type 0} where
  -- keys alone
  bare : List (Segment × X) → List (Segment × Unit {0})
  bare [] = []
  bare (e ∷ es) = (e.0, tt {0}) ∷ bare es

  bare_below : (k : Segment) (es : List (Segment × X)) → below_all segment_cmp k (bare es) ≡ below_all segment_cmp k es
  unfolding bare
  bare_below k [] = refl
  bare_below k (e ∷ es) = ap (λ b. is_lt (segment_cmp k e.0) && b) (bare_below k es)

  bare_sorted : (es : List (Segment × X)) → is_sorted segment_cmp (bare es) ≡ is_sorted segment_cmp es
  unfolding bare
  bare_sorted [] = refl
  bare_sorted (e ∷ es) = ap (λ b. b && is_sorted segment_cmp (bare es)) (bare_below e.0 es) ∙ ap (λ b. below_all segment_cmp e.0 es && b) (bare_sorted es)

  bare_find : (q : Segment) (es : List (Segment × X)) → find segment_cmp q (bare es) ≡ option_map (λ (x : X). tt {0}) (find segment_cmp q es)
  unfolding bare
  bare_find q [] = refl
  bare_find q (e ∷ es) = elim (eq_by_cmp segment_cmp q e.0) as (λ b. cond b (Some (tt {0})) (find segment_cmp q (bare es)) ≡ option_map (λ (x : X). tt {0}) (cond b (Some e.1) (find segment_cmp q es))) [
    | true ↦ refl
    | false ↦ bare_find q es
  ]

  bare_keys : (es : List (Segment × X)) → map (λ (e : Segment × Unit {0}). e.0) (bare es) ≡ map (λ (e : Segment × X). e.0) es
  unfolding bare
  bare_keys [] = refl
  bare_keys (e ∷ es) = ap (λ t. e.0 ∷ t) (bare_keys es)

  units : (a b : Option X) → is_some a ≡ is_some b → option_map (λ (x : X). tt {0}) a ≡ option_map (λ (x : X). tt {0}) b
  units None None e = refl
  units None (Some y) e = cc
  units (Some x) None e = cc
  units (Some x) (Some y) e = refl

  pub same_keys : (m n : FinMap segment_cmp X) → ((q : Segment) → is_some (get m q) ≡ is_some (get n q)) → keys m ≡ keys n
  same_keys m n h =
      let same = same_entries segment_cmp segment_total segment_exact (bare (entries m)) (bare (entries n))
      (subst T (sym (bare_sorted (entries m))) (entries_sorted m)) (subst T (sym (bare_sorted (entries n))) (entries_sorted n))
      (λ q. bare_find q (entries m) ∙ ap (option_map (λ (x : X). tt {0})) (sym (get-entries m q)) ∙ units (get m q) (get n q) (h q) ∙ ap (option_map (λ (x : X). tt {0})) (get-entries n q) ∙ sym (bare_find q (entries n))) in
      sym (bare_keys (entries m)) ∙ ap (map (λ (e : Segment × Unit {0}). e.0)) same ∙ bare_keys (entries n)

-- two maps with the same entry at a path and entries one segment below it at the same names have the same place there
pub same_place : (m m' : ResourceMap) (p : Path) → at_path m' p ≡ at_path m p
    → ((s : Segment) → is_some (at_path m' (p ++ (s ∷ []))) ≡ is_some (at_path m (p ++ (s ∷ [])))) → place m' p ≡ place m p
same_place m m' p here below =
    let names : keys (members m' p) ≡ keys (members m p) =
    same_keys (members m' p) (members m p) (λ s. ap is_some (get-members m' p s) ∙ below s ∙ sym (ap is_some (get-members m p s))) in
    λ i. (here i, names i)
