-- The siblings of a node, by the links between them.
use Rattle.std.proofs.Common.{◌≡◌, ◌≢◌, ◌⊎◌, inl, inr, ℕ, Bool, List, [], ◌∷◌, Option, Some, None, refl, sym, ap, ◌∙◌, subst, eqb}
use Rattle.std.specs.List.{IsDistinct}
use Rattle.std.proofs.lemmas.Bool.{false≢true}
use Rattle.dav_path_core.specs.Keyed.{parent_number, IsKnown, IsIn}
use Rattle.dav_path_core.specs.TreeValue.{TreeValue, Siblings, done, more, first, after, IsChildList, IsTreeValue}
use Rattle.dav_path_core.proofs.children.Chains.{in_here, in_later, in_cases, none_twice, later_distinct}
use Rattle.dav_path_core.proofs.children.Walks.{split, ended, parent_known}
use Rattle.dav_path_core.proofs.trees.Trees.{none≢some, same_some}
use Rattle.dav_path_core.specs.Walking.{Follows, right_behind, further}

module _ {f : ℕ → Option ℕ} where
  -- what follows a number is among those behind it
  behind_head : (k s : ℕ) (ns : List ℕ) → Siblings f (f k) ns → Follows f k s → IsIn s ns
  behind_head k s ns l (right_behind e) =
      let w = split (subst (λ o. Siblings f o ns) e l) in
      subst (IsIn s) (sym w.1) (in_here s w.0)
  behind_head k s ns l (further {m = m} e g) =
      let w = split (subst (λ o. Siblings f o ns) e l) in
      subst (IsIn s) (sym w.1) (in_later s m w.0 (behind_head m s w.0 w.2 g))

  pub follows_in : (o : Option ℕ) (ks : List ℕ) → Siblings f o ks → IsDistinct eqb ks → (n s : ℕ) → IsIn n ks → Follows f n s → IsIn s ks × (s ≢ n)
  follows_in o ks done once n s h g = absurd (false≢true h)
  follows_in o ks (more {n = k} {ns = ns} l) once n s h g = elim (in_cases n k ns h) [
    | inl is ↦
        let later : IsIn s ns = behind_head k s ns l (subst (λ v. Follows f v s) is g) in
        (in_later s k ns later, λ e. none_twice k ns once (subst (λ v. IsIn v ns) (e ∙ is) later))
    | inr later ↦ let r = follows_in (f k) ns l (later_distinct k ns once) n s later g in (in_later s k ns r.0, r.1)
  ]

  -- each of the rest follows
  pub in_follows : (ns : List ℕ) (c q : ℕ) → Siblings f (f c) ns → IsIn q ns → Follows f c q
  in_follows [] c q l h = absurd (false≢true h)
  in_follows (k ∷ ns) c q l h = by (λ m. in_follows ns m q) (f c) refl l
    where
      by : ((m : ℕ) → Siblings f (f m) ns → IsIn q ns → Follows f m q) → (o : Option ℕ) → f c ≡ o → Siblings f o (k ∷ ns) → Follows f c q
      by rec None e l = let none = ended l in absurd (cc)
      by rec (Some m) e l =
          let w = split l in
          let heads : k ≡ m = cc in
          let tails : ns ≡ w.0 = cc in
          elim (in_cases q k ns h) [
            | inl is ↦ right_behind (e ∙ ap (λ (x : ℕ). Some x) (sym heads ∙ sym is))
            | inr later ↦ further e (rec m (subst (Siblings f (f m)) (sym tails) w.2) later)
          ]

module _ {K D : Type 0} (eq : K → K → Bool) (t : TreeValue K D) (shape : IsTreeValue eq t) where
  children : (p : ℕ) → IsKnown t.keyed p → (ks : List ℕ) × IsChildList t p ks
  children p known = shape.listed p known

  -- the first child is a child
  pub first_is_child : (n c : ℕ) → IsKnown t.keyed n → first t n ≡ Some c → parent_number t.keyed c ≡ Some n
  first_is_child n c known e =
      let l = children n known in
      let w = split (subst (λ o. Siblings (after t) o l.0) e l.1.linked) in
      (l.1.members c).0 (subst (IsIn c) (sym w.1) (in_here c w.0))

  -- each child is the first or follows it
  pub child_from_first : (n c q : ℕ) → first t n ≡ Some c → parent_number t.keyed q ≡ Some n → (q ≡ c) ⊎ Follows (after t) c q
  child_from_first n c q e h =
      let l = children n (parent_known eq t.keyed shape.tree q n h) in
      let w = split (subst (λ o. Siblings (after t) o l.0) e l.1.linked) in
      elim (in_cases q c w.0 (subst (IsIn q) w.1 ((l.1.members q).1 h))) [
        | inl is ↦ inl is
        | inr later ↦ inr (in_follows w.0 c q w.2 later)
      ]

  -- where there is no first child there is none
  pub no_first : (n q : ℕ) → first t n ≡ None → parent_number t.keyed q ≡ Some n → ⊥
  no_first n q e h =
      let l = children n (parent_known eq t.keyed shape.tree q n h) in
      let none : l.0 ≡ [] = ended (subst (λ o. Siblings (after t) o l.0) e l.1.linked) in
      false≢true (subst (IsIn q) none ((l.1.members q).1 h))

  -- what follows a child is another child of its parent
  pub follows_parent : (n s p : ℕ) → parent_number t.keyed n ≡ Some p → Follows (after t) n s → (parent_number t.keyed s ≡ Some p) × (s ≢ n)
  follows_parent n s p h g =
      let l = children p (parent_known eq t.keyed shape.tree n p h) in
      let w = follows_in (first t p) l.0 l.1.linked l.1.once n s ((l.1.members n).1 h) g in
      ((l.1.members s).0 w.0, w.1)

  -- what follows is the next one, or follows that
  pub Follows-next : (n m s : ℕ) → after t n ≡ Some m → Follows (after t) n s → (s ≡ m) ⊎ Follows (after t) m s
  Follows-next n m s e (right_behind g) = inl (same_some s m (sym g ∙ e))
  Follows-next n m s e (further {m = k} g h) = inr (subst (λ v. Follows (after t) v s) (same_some k m (sym g ∙ e)) h)

  pub Follows-none : (n s : ℕ) → after t n ≡ None → Follows (after t) n s → ⊥
  Follows-none n s e (right_behind g) = none≢some s (sym e ∙ g)
  Follows-none n s e (further {m = k} g h) = none≢some k (sym e ∙ g)
