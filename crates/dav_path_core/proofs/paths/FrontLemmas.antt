-- Fronts of paths, and equal paths.
use Rattle.std.proofs.Common.{◌≡◌, ◌≢◌, ◌⊎◌, inl, inr, true, false, cond, [], ◌∷◌, ◌++◌, Option, Some, None, is_some, refl, sym, ap, ◌∙◌, subst}
use Rattle.std.specs.Prelude.{nat_eq, not}
use Rattle.std.specs.Ordering.{eq_by_cmp}
use Rattle.std.specs.Map.{IsKeyTest}
use Rattle.std.specs.Cmp.Lexicographic.{pointwise, bytes_decides, nat_list_eq_equiv}
use Rattle.std.proofs.lemmas.Bool.{false≢true, true≢false, false_from_ne_true, not-true, not-false}
use Rattle.dav_path_core.specs.Fronts.{Segment, Path, segment_cmp, parent, behind, is_front, is_same_path}
use Rattle.dav_path_core.proofs.lists.FinMaps.{none_some}
use Rattle.dav_path_core.proofs.lists.Orders.{segment_total, segment_exact, path_total, path_exact, eq_by_cmp_same, eq_by_cmp_true}

-- ---- equal paths

pub is_same_path-same : (a b : Path) → is_same_path a b ≡ true → a ≡ b
is_same_path-same = eq_by_cmp_true path_exact

pub is_same_path-refl : (a : Path) → is_same_path a a ≡ true
is_same_path-refl = eq_by_cmp_same path_total

-- ---- equal segments

-- whether a segment is s is a test of one key
pub name_test : (s : Segment) → IsKeyTest (pointwise nat_eq) (λ (k : Segment). pointwise nat_eq k s)
name_test s x y h = ap (pointwise nat_eq y) (sym ((bytes_decides x s).0 h)) ∙ nat_list_eq_equiv.symm y x

-- ---- what stands behind a front

behind_same : (x : Segment) (a p : Path) → behind (x ∷ a) (x ∷ p) ≡ behind a p
behind_same x a p = ap (λ b. cond b (behind a p) None) (eq_by_cmp_same segment_total x)

behind_other : (x y : Segment) (a p : Path) → x ≢ y → behind (x ∷ a) (y ∷ p) ≡ None
behind_other x y a p other =
    ap (λ b. cond b (behind a p) None) (false_from_ne_true _ (λ h. other (eq_by_cmp_true segment_exact x y h)))

-- one segment of each path, in the words of the code: the same one
pub behind-turn : (front path front' path' : Path) (x y : Segment) → front ≡ x ∷ front' → path ≡ y ∷ path' → not (pointwise nat_eq y x) ≡ false → behind front' path' ≡ behind front path
behind-turn front path front' path' x y e f test =
    let same : y ≡ x = (bytes_decides y x).0 (not-false _ test) in
    sym (ap (λ l. behind l path) e ∙ ap (λ l. behind (x ∷ front') l) (f ∙ ap (λ z. z ∷ path') same) ∙ behind_same x front' path')

-- or another one
pub behind-differs : (front path front' path' : Path) (x y : Segment) → front ≡ x ∷ front' → path ≡ y ∷ path' → not (pointwise nat_eq y x) ≡ true → behind front path ≡ None
behind-differs front path front' path' x y e f test =
    ap (λ l. behind l path) e ∙ ap (λ l. behind (x ∷ front') l) f
    ∙ behind_other x y front' path' (λ h. true≢false (sym ((bytes_decides y x).1 (sym h)) ∙ not-true _ test))

pub behind_append : (a s : Path) → behind a (a ++ s) ≡ Some s
behind_append [] s = refl
behind_append (x ∷ a) s = behind_same x a (a ++ s) ∙ behind_append a s

pub behind_is : (a p s : Path) → behind a p ≡ Some s → p ≡ a ++ s
behind_is [] p s h = cc
behind_is (x ∷ a) [] s h = absurd (cc)
behind_is (x ∷ a) (y ∷ p) s h =
    elim (eq_by_cmp segment_cmp x y) as (λ b. eq_by_cmp segment_cmp x y ≡ b → cond b (behind a p) None ≡ Some s → y ∷ p ≡ x ∷ (a ++ s)) [
      | true ↦ λ e h. let same = eq_by_cmp_true segment_exact x y e in let rest = behind_is a p s h in cc
      | false ↦ λ e h. absurd (cc)
    ] refl h

-- whether it is a front, as an equation
pub behind_none : (a p : Path) → ((s : Path) → ¬ (p ≡ a ++ s)) → behind a p ≡ None
behind_none a p h = by (behind a p) refl
  where
    by : (o : Option Path) → behind a p ≡ o → o ≡ None
    by None e = refl
    by (Some s) e = absurd (h s (behind_is a p s e))

pub none_behind : (a p : Path) → behind a p ≡ None → (s : Path) → ¬ (p ≡ a ++ s)
none_behind a p e s h = none_some (behind a p) s e (ap (behind a) h ∙ behind_append a s)

-- ---- fronts

pub is_front-parts : (x y : Segment) (a b : Path) → is_front (x ∷ a) (y ∷ b) ≡ true → (x ≡ y) × (is_front a b ≡ true)
is_front-parts x y a b h =
    elim (eq_by_cmp segment_cmp x y) as (λ t. eq_by_cmp segment_cmp x y ≡ t → is_some (cond t (behind a b) None) ≡ true → (x ≡ y) × (is_front a b ≡ true)) [
      | true ↦ λ e h. (eq_by_cmp_true segment_exact x y e, h)
      | false ↦ λ e h. absurd (false≢true h)
    ] refl h

pub is_front-cons : (x y : Segment) (a b : Path) → x ≡ y → is_front a b ≡ true → is_front (x ∷ a) (y ∷ b) ≡ true
is_front-cons x y a b e h = subst (λ z. is_front (x ∷ a) (z ∷ b) ≡ true) e (ap is_some (behind_same x a b) ∙ h)

pub is_front-refl : (a : Path) → is_front a a ≡ true
is_front-refl [] = refl
is_front-refl (x ∷ a) = is_front-cons x x a a refl (is_front-refl a)

pub is_front-trans : (a b c : Path) → is_front a b ≡ true → is_front b c ≡ true → is_front a c ≡ true
is_front-trans [] b c h k = refl
is_front-trans (x ∷ a) [] c h k = absurd (false≢true h)
is_front-trans (x ∷ a) (y ∷ b) [] h k = absurd (false≢true k)
is_front-trans (x ∷ a) (y ∷ b) (z ∷ c) h k =
    let p = is_front-parts x y a b h in
    let q = is_front-parts y z b c k in
    is_front-cons x z a c (p.0 ∙ q.0) (is_front-trans a b c p.1 q.1)

-- of two fronts of one path one is a front of the other
pub fronts_of_one : (a b c : Path) → is_front a c ≡ true → is_front b c ≡ true → (is_front a b ≡ true) ⊎ (is_front b a ≡ true)
fronts_of_one [] b c h k = inl refl
fronts_of_one (x ∷ a) [] c h k = inr refl
fronts_of_one (x ∷ a) (y ∷ b) [] h k = absurd (false≢true h)
fronts_of_one (x ∷ a) (y ∷ b) (z ∷ c) h k =
    let p = is_front-parts x z a c h in
    let q = is_front-parts y z b c k in
    elim (fronts_of_one a b c p.1 q.1) [
      | inl r ↦ inl (is_front-cons x y a b (p.0 ∙ sym q.0) r)
      | inr r ↦ inr (is_front-cons y x b a (q.0 ∙ sym p.0) r)
    ]
