-- A cut made a leaf at a time: the way down to a leaf, and what is left after one goes.
use Rattle.std.proofs.Common.{◌≡◌, ◌≢◌, ℕ, zero, suc, ◌+◌, ◌<◌, ◌≤◌, Bool, true, false, List, Some, None, Option, refl, ap, sym, ◌∙◌, subst, inl, inr, arith, is_some, MatchOption}
use Rattle.std.specs.Option.{option_map}
use Rattle.std.proofs.lemmas.Bool.{cases_eq, cases_Bool, false≢true}
use Rattle.dav_path_core.specs.declared.tree.Node.{Node}
use Rattle.dav_path_core.specs.Keyed.{Keyed, LeadsToRoot, Under, here, below, up, entry, parent_number, has_child, without_node, without_subtree, IsCut, IsKnown, IsTree}
use Rattle.dav_path_core.specs.TreeValue.{links_first}
use Rattle.dav_path_core.specs.View.{keyed_of, links_of}
use Rattle.dav_path_core.specs.Private.Nodes.{node_numbered, IsLinked}
use Rattle.dav_path_core.proofs.trees.Trees.{same_some, none_from_is_some, known_from_parent}
use Rattle.dav_path_core.proofs.children.Chains.{first_child_of, no_child}
use Rattle.dav_path_core.proofs.trees.KeyedDepth.{depth, short}
use Rattle.dav_path_core.proofs.trees.KeyedCuts.{IsLeaf, leaf, entry-without, kept, no_parent, none-cut, cut-leaf, cut-law, cut-without}
use Rattle.dav_path_core.proofs.children.Links.{parent-view}
use Rattle.dav_path_core.proofs.trees.Refusals.{has_child-false}
use Rattle.dav_path_core.proofs.children.Walks.{parent_known}

pub Under-trans : {f : ℕ → Option ℕ} {n m k : ℕ} → Under f n m → Under f m k → Under f n k
Under-trans u here = u
Under-trans u (below e v) = below e (Under-trans u v)

-- the last step up
last_up : {f : ℕ → Option ℕ} {n k r : ℕ} → Under f n k → k ≢ n → f k ≡ Some r → Under f n r
last_up here ne e = absurd (ne refl)
last_up {f = f} {n = n} {r = r} (below {p = p} g u) ne e = subst (Under f n) (same_some p r (sym g ∙ e)) u

abbrev one_if : Bool → ℕ
one_if true = 1
one_if false = 0

one_if-le : (a b : Bool) → (a ≡ true → b ≡ true) → one_if a ≤ one_if b
one_if-le false b h = omega arith
one_if-le true b h = let is : one_if b ≡ 1 = ap one_if (h refl) in omega (arith, is)

module _ {K D : Type 0} where
  -- the first link of a node leads to a child, or it has none
  pub first_kind : (eq : K → K → Bool) (es : List (ℕ × Node K D)) (next : ℕ) → IsLinked eq es next → (n : ℕ) (o : Option (Node K D)) → o ≡ node_numbered es n
      → MatchOption (links_first (option_map links_of o)) (has_child (keyed_of es next) n ≡ false) (λ m. parent_number (keyed_of es next) m ≡ Some n)
  first_kind eq es next linked n o at =
      let same = ap (λ o. links_first (option_map links_of o)) (sym at) in
      elim (links_first (option_map links_of o)) as (λ f. links_first (option_map links_of o) ≡ f → MatchOption f (has_child (keyed_of es next) n ≡ false) (λ m. parent_number (keyed_of es next) m ≡ Some n)) [
        | None ↦ λ none. has_child-false (keyed_of es next) n (λ m e. no_child linked.chained n (same ∙ none) m (ap (λ f. f m) (sym (parent-view es next)) ∙ e))
        | Some m ↦ λ some. ap (λ f. f m) (parent-view es next) ∙ (first_child_of linked.chained n m (same ∙ some)).0
      ] refl

  -- ---- down to a leaf
  pub record Descent (t : Keyed K D) (id at turn : ℕ) : Type 0 where
    pub known : IsKnown t at
    pub under : Under (parent_number t) id at
    pub way : LeadsToRoot (parent_number t) at
    pub deep : turn ≤ depth way

  pub descent_start : (eq : K → K → Bool) (t : Keyed K D) → IsTree eq t → (id : ℕ) → IsKnown t id → Descent t id id 0
  descent_start eq t tree id known = record { known = known; under = here; way = tree.attached id known; deep = omega arith }

  pub descent_next : (t : Keyed K D) (id at turn child : ℕ) → Descent t id at turn → parent_number t child ≡ Some at → Descent t id child (turn + 1)
  descent_next t id at turn child d e = record { known = known_from_parent t child at e; under = below e d.under; way = up e d.way; deep = omega (arith, d.deep) }

  pub descent_ends : (eq : K → K → Bool) (t : Keyed K D) → IsTree eq t → (id at turn : ℕ) → Descent t id at turn → turn < t.next
  descent_ends eq t tree id at turn d = omega (arith, d.deep, short eq t tree at d.way)

  -- ---- how many are left
  abbrev pub known_below : Keyed K D → ℕ → ℕ
  known_below t zero = 0
  known_below t (suc m) = one_if (is_some (entry t m)) + known_below t m

  below_same : (t u : Keyed K D) (m : ℕ) → ((q : ℕ) → q < m → entry u q ≡ entry t q) → known_below u m ≡ known_below t m
  below_same t u zero h = refl
  below_same t u (suc m) h = ap (λ (n : ℕ). one_if (is_some (entry u m)) + n) (below_same t u m (λ q l. h q (omega (arith, l)))) ∙ ap (λ o. one_if (is_some o) + known_below t m) (h m (omega arith))

  pub fewer : (t : Keyed K D) (n m : ℕ) → IsKnown t n → n < m → known_below (without_node t n) m < known_below t m
  fewer t n zero known lt = absurd (omega (arith, lt))
  fewer t n (suc m) known lt = elim (cases_eq n m) [
    | inl is ↦
        let gone : one_if (is_some (entry (without_node t n) m)) ≡ 0 = subst (λ v. one_if (is_some (entry (without_node t n) v)) ≡ 0) is (ap (λ o. one_if (is_some o)) (entry-without t n).here) in
        let was : one_if (is_some (entry t m)) ≡ 1 = subst (λ v. one_if (is_some (entry t v)) ≡ 1) is (ap one_if known) in
        let rest = below_same t (without_node t n) m (λ q l. (entry-without t n).other q (λ e. omega (arith, l, e, is))) in
        omega (arith, gone, was, rest)
    | inr ne ↦
        let same : one_if (is_some (entry (without_node t n) m)) ≡ one_if (is_some (entry t m)) = ap (λ o. one_if (is_some o)) ((entry-without t n).other m (λ e. ne (sym e))) in
        let rest = fewer t n m known (omega (arith, lt, ne)) in
        omega (arith, same, rest)
  ]

  -- fewer, where one goes and none comes
  no_more : (t u : Keyed K D) (m : ℕ) → ((q : ℕ) → IsKnown u q → IsKnown t q) → known_below u m ≤ known_below t m
  no_more t u zero h = omega arith
  no_more t u (suc m) h = let one = one_if-le (is_some (entry u m)) (is_some (entry t m)) (h m) in let rest = no_more t u m h in omega (arith, one, rest)

  pub fewer_gone : (t u : Keyed K D) (n m : ℕ) → ((q : ℕ) → IsKnown u q → IsKnown t q) → IsKnown t n → entry u n ≡ None → n < m → known_below u m < known_below t m
  fewer_gone t u n zero h known gone lt = absurd (omega (arith, lt))
  fewer_gone t u n (suc m) h known gone lt = elim (cases_eq n m) [
    | inl is ↦
        let now : one_if (is_some (entry u m)) ≡ 0 = subst (λ v. one_if (is_some (entry u v)) ≡ 0) is (ap (λ o. one_if (is_some o)) gone) in
        let was : one_if (is_some (entry t m)) ≡ 1 = subst (λ v. one_if (is_some (entry t v)) ≡ 1) is (ap one_if known) in
        let rest = no_more t u m h in
        omega (arith, now, was, rest)
    | inr ne ↦
        let one = one_if-le (is_some (entry u m)) (is_some (entry t m)) (h m) in
        let rest = fewer_gone t u n m h known gone (omega (arith, lt, ne)) in
        omega (arith, one, rest)
  ]

  -- ---- a cut of s at n: begun, with leaves sought from a number below n, or over
  pub data Cutting (s : Keyed K D) (n : ℕ) (t : Keyed K D) (at : ℕ) : Type 0 where
    going : IsKnown t n → IsKnown t at → Under (parent_number t) n at → without_subtree t n ≡ without_subtree s n → Cutting s n t at
    over : entry t n ≡ None → t ≡ without_subtree s n → Cutting s n t at

  pub cutting_known : {s : Keyed K D} {n : ℕ} {t : Keyed K D} {at : ℕ} → Cutting s n t at → IsKnown t n → IsKnown t at
  cutting_known (going h k u e) known = k
  cutting_known (over none e) known = absurd (false≢true (sym (ap is_some none) ∙ known))

  pub cutting_under : {s : Keyed K D} {n : ℕ} {t : Keyed K D} {at : ℕ} → Cutting s n t at → IsKnown t n → Under (parent_number t) n at
  cutting_under (going h k u e) known = u
  cutting_under (over none e) known = absurd (false≢true (sym (ap is_some none) ∙ known))

  cutting_same : {s : Keyed K D} {n : ℕ} {t : Keyed K D} {at : ℕ} → Cutting s n t at → IsKnown t n → without_subtree t n ≡ without_subtree s n
  cutting_same (going h k u e) known = e
  cutting_same (over none e) known = absurd (false≢true (sym (ap is_some none) ∙ known))

  pub cutting_ends : {s : Keyed K D} {n : ℕ} {t : Keyed K D} {at : ℕ} → Cutting s n t at → is_some (entry t n) ≡ false → t ≡ without_subtree s n
  cutting_ends (going h k u e) gone = absurd (false≢true (sym gone ∙ h))
  cutting_ends (over none e) gone = e

  module _ (eq : K → K → Bool) (s t : Keyed K D) (n at : ℕ) (tree : IsTree eq t) (not_root : n ≢ 1) (known : IsKnown t n) (cutting : Cutting s n t at)
      (l : ℕ) (known_l : IsKnown t l) (under_l : Under (parent_number t) at l) where
    below_n : Under (parent_number t) n l
    below_n = Under-trans (cutting_under cutting known) under_l

    pub leaf_not_root : l ≢ 1
    leaf_not_root is = elim (cases_eq l n) [ inl e ↦ not_root (sym e ∙ is) | inr ne ↦ no_parent eq t n tree is below_n ne ]

    pub cutting_next : has_child t l ≡ false → (r : ℕ) → parent_number t l ≡ Some r → Cutting s n (without_node t l) r
    cutting_next no_child_l r e =
        let alone : IsLeaf t l = leaf t l no_child_l in
        elim (cases_eq l n) [
          | inl is ↦ subst (λ v. Cutting s n (without_node t v) r) (sym is)
              (over (entry-without t n).here (sym (cut-leaf eq t n tree known (subst (IsLeaf t) is alone)) ∙ cutting_same cutting known))
          | inr ne ↦
              let apart : r ≢ l = λ is. alone l (e ∙ ap (λ (x : ℕ). Some x) is) in
              going
              (ap is_some ((entry-without t l).other n (λ is. ne (sym is))) ∙ known)
              (ap is_some ((entry-without t l).other r apart) ∙ parent_known eq t tree l r e)
              (kept eq t n tree l known_l below_n ne alone apart (last_up below_n ne e))
              (cut-without eq t n tree l known_l below_n ne alone ∙ cutting_same cutting known)
        ]

  -- a cut drops exactly the numbers whose parents lead to n
  pub IsCut-cut : (eq : K → K → Bool) (t : Keyed K D) → IsTree eq t → (n : ℕ) → IsCut t (without_subtree t n) n
  IsCut-cut eq t tree n = record {
    gone = λ q u. elim (cases_Bool (is_some (entry t q))) [ inl known ↦ (cut-law eq t n tree q known).0 u | inr none ↦ none-cut t n q (none_from_is_some _ none) ];
    kept = λ q no_way. elim (cases_Bool (is_some (entry t q))) [ inl known ↦ (cut-law eq t n tree q known).1 no_way | inr none ↦ none-cut t n q (none_from_is_some _ none) ∙ sym (none_from_is_some _ none) ];
    next = refl;
  }
