-- A walk from the root meets each node once, and each behind its parent.
use Rattle.std.proofs.Common.{◌≡◌, ◌⊎◌, inl, inr, ℕ, zero, suc, ◌+◌, Bool, List, [], ◌∷◌, ◌++◌, length, Option, Some, None, sym, subst, arith, eqb}
use Rattle.std.specs.FinMap.{len}
use Rattle.std.specs.List.{IsDistinct}
use Rattle.std.proofs.lemmas.Bool.{false≢true}
use Rattle.dav_path_core.specs.Keyed.{parent_number, IsKnown, here, IsIn}
use Rattle.dav_path_core.specs.TreeValue.{TreeValue, IsTreeValue}
use Rattle.dav_path_core.specs.Walking.{following, numbers_from, IsTreeWalk}
use Rattle.dav_path_core.proofs.children.Chains.{in_here, in_later, in_cases, more_distinct, no_distinct}
use Rattle.dav_path_core.proofs.walks.AboveLemmas.{known_under, not_root}
use Rattle.dav_path_core.proofs.walks.WalkLemmas.{Met, Finds, following-found, met_none, met_few, met_on, met_all, parent_met}

module _ {K D : Type 0} {eq : K → K → Bool} (t : TreeValue K D) (shape : IsTreeValue eq t) where
  -- where a walk that has met some numbers stands
  abbrev Stands : List ℕ → Option ℕ → Type 0
  Stands met None = (q : ℕ) → IsKnown t.keyed q → IsIn q met
  Stands met (Some n) = Met t 1 met n

  -- the numbers are all that are not met yet, each behind its parent or one that is met
  record IsRest (met ns : List ℕ) : Type 0 where
    once : IsDistinct eqb ns
    known : (q : ℕ) → IsIn q ns → IsKnown t.keyed q
    apart : (q : ℕ) → IsIn q ns → IsIn q met → ⊥
    all : (q : ℕ) → IsKnown t.keyed q → IsIn q met ⊎ IsIn q ns
    behind : (front rest : List ℕ) (n p : ℕ) → ns ≡ front ++ n ∷ rest → parent_number t.keyed n ≡ Some p → IsIn p met ⊎ IsIn p front

  nothing : (q : ℕ) → IsIn q [] → ⊥
  nothing q i = false≢true i

  no_rest : (met : List ℕ) → Stands met None → IsRest met []
  no_rest met all = record {
    once = no_distinct;
    known = λ q i. absurd (nothing q i);
    apart = λ q i j. nothing q i;
    all = λ q known. inl (all q known);
    behind = λ front rest n p is e. absurd (no_front front n rest is);
  }
    where
      no_front : (front : List ℕ) (n : ℕ) (rest : List ℕ) → [] ≡ front ++ n ∷ rest → ⊥
      no_front [] n rest is = cc
      no_front (m ∷ front) n rest is = cc

  one_more : (met : List ℕ) (n : ℕ) (ns : List ℕ) → Met t 1 met n → IsRest (n ∷ met) ns → IsRest met (n ∷ ns)
  one_more met n ns w r = record {
    once = more_distinct n ns (λ i. r.apart n i (in_here n met)) r.once;
    known = λ q i. elim (in_cases q n ns i) [ inl is ↦ subst (IsKnown t.keyed) (sym is) w.known | inr later ↦ r.known q later ];
    apart = λ q i j. elim (in_cases q n ns i) [
      | inl is ↦ w.gone_by n (subst (λ v. IsIn v met) is j) (inl here)
      | inr later ↦ r.apart q later (in_later q n met j)
    ];
    all = λ q known. elim (r.all q known) [
      | inl before ↦ elim (in_cases q n met before) [
        | inl is ↦ inr (subst (λ v. IsIn v (n ∷ ns)) (sym is) (in_here n ns))
        | inr early ↦ inl early
      ]
      | inr later ↦ inr (in_later q n ns later)
    ];
    behind = behind;
  }
    where
      behind : (front rest : List ℕ) (m p : ℕ) → n ∷ ns ≡ front ++ m ∷ rest → parent_number t.keyed m ≡ Some p → IsIn p met ⊎ IsIn p front
      behind [] rest m p is e =
          let same : n ≡ m = cc in
          let up : parent_number t.keyed n ≡ Some p = subst (λ v. parent_number t.keyed v ≡ Some p) (sym same) e in
          inl (parent_met t shape 1 met n w p (not_root eq t.keyed shape.tree n p up) up)
      behind (k ∷ front) rest m p is e =
          let heads : n ≡ k = cc in
          let tails : ns ≡ front ++ m ∷ rest = cc in
          elim (r.behind front rest m p tails e) [
            | inl before ↦ elim (in_cases p n met before) [
              | inl one ↦ inr (subst (λ v. IsIn p (v ∷ front)) heads (subst (λ v. IsIn v (n ∷ front)) (sym one) (in_here n front)))
              | inr early ↦ inl early
            ]
            | inr later ↦ inr (in_later p k front later)
          ]

  next_stand : (met : List ℕ) (n : ℕ) → Met t 1 met n → (o : Option ℕ) → Finds t shape 1 n o → Stands (n ∷ met) o
  next_stand met n w None over = λ q known. met_all t shape 1 met n w over q (known_under eq t.keyed shape.tree q known)
  next_stand met n w (Some m) on = met_on t shape 1 met n w m on

  rest_from : (left : ℕ) (met : List ℕ) (o : Option ℕ) → Stands met o → length met + left ≡ len t.keyed.nodes → IsRest met (numbers_from t left o)
  rest_from zero met None all fits = no_rest met all
  rest_from zero met (Some n) w fits = absurd (omega (arith, met_few t shape 1 met n w, fits))
  rest_from (suc left) met None all fits = no_rest met all
  rest_from (suc left) met (Some n) w fits =
      one_more met n (numbers_from t left (following t 1 n)) w
      (rest_from left (n ∷ met) (following t 1 n) (next_stand met n w (following t 1 n) (following-found t shape 1 n w.under w.known)) (omega (arith, fits)))

  pub walk_of_all : IsTreeWalk t.keyed (numbers_from t (len t.keyed.nodes) (Some 1))
  walk_of_all =
      let r = rest_from (len t.keyed.nodes) [] (Some 1) (met_none t shape 1 shape.tree.root.0) (omega arith) in
      record {
        members = λ n. (r.known n, λ known. elim (r.all n known) [ inl i ↦ absurd (nothing n i) | inr i ↦ i ]);
        once = r.once;
        behind = λ front rest n p is e. elim (r.behind front rest n p is e) [ inl i ↦ absurd (nothing p i) | inr i ↦ i ];
      }
