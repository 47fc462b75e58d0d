-- What is noted of locks, as the tree of locks changes.
use Rattle.std.proofs.Common.{◌≡◌, ◌≢◌, ◌⊎◌, inl, inr, ℕ, ◌<◌, ◌≤◌, ◌==◌, true, false, cond, List, [], ◌∷◌, ◌++◌, length, get_or, set, Option, Some, None, refl, sym, ap, ◌∙◌, subst, arith}
use Rattle.std.specs.Prelude.{remove}
use Rattle.std.specs.Ordering.{nat_cmp, ordering_then, is_gt, is_eq}
use Rattle.std.specs.declared.cmp.Ordering.{Ordering}
use Rattle.std.specs.declared.cmp.Ordering.TheVariants.{Less, Equal, Greater}
use Rattle.std.specs.BTreeMap.{Updates, get}
use Rattle.std.specs.FinMap.{find, nat_cmp-IsAntisymmetric}
use Rattle.std.proofs.lemmas.Bool.{cases_eq, cases_lt, eq-eqb, ne_eqb, eqb-true, le-ltb, true≢false, false_from_ne_true}
use Rattle.dav_path_core.proofs.trees.Trees.{same_some, none≢some}
use Rattle.dav_path_core.specs.Keyed.{Under, IsKnown, parent_number, with_item}
use Rattle.dav_locks_core.specs.Lock.{Lock}
use Rattle.dav_locks_core.specs.Locks.{lock_path}
use Rattle.dav_locks_core.specs.Private.NotedEnds.{Ends, end_cmp, noted_node, same_end, SameEnds, IsAlone, IsEndOf, IsKeyOf, NotesAt, NotesEnd, Notes, Renotes, ForgetsEnds, AreEndsNoted}
use Rattle.dav_locks_core.specs.Private.LockTree.{NumberedLock, LockTree, locks_at, node_below, all_granted}
use Rattle.dav_locks_core.specs.Private.Pruning.{SameLocks, Cleared}
use Rattle.dav_locks_core.specs.Private.LockRepresents.{Represents, IsLockTree}
use Rattle.dav_locks_core.proofs.answers.LockListLemmas.{known_from_lock}
use Rattle.dav_locks_core.proofs.lists.NumberedLemmas.{find-push, find-set, find-other, find-gone, found_at_place}
use Rattle.dav_locks_core.proofs.trees.StandingLemmas.{Changes, Changes-with_item, Represents-same, all_below_at}
use Rattle.dav_locks_core.proofs.trees.ClearingLemmas.{outside_locked, locks_left}

-- ---- the order of ends

pub first_end : (k : ℕ × ℕ) (e g : ℕ) → is_gt (end_cmp k (e, g)) ≡ false → k.0 ≤ e
first_end k e g h = elim (cases_lt e k.0) [
  | inl lt ↦ absurd (true≢false (sym (after (nat_cmp k.0 e) (above k.0 e lt)) ∙ h))
  | inr le ↦ le
]
  where
    above : (a b : ℕ) → b < a → nat_cmp a b ≡ Greater
    above a b lt = ap (λ v. cond v Less (cond (a == b) Equal Greater)) (le-ltb a b (omega (arith, lt))) ∙ ap (λ v. cond v Equal Greater) (ne_eqb a b (λ i. omega (arith, lt, i)))

    after : (o : Ordering) → o ≡ Greater → is_gt (ordering_then o (nat_cmp k.1 g)) ≡ true
    after o is = ap (λ o. is_gt (ordering_then o (nat_cmp k.1 g))) is

pub other_end : (k : ℕ × ℕ) (e g : ℕ) → ((e ≡ k.0) × (g ≡ k.1) → ⊥) → is_eq (end_cmp k (e, g)) ≡ false
other_end k e g apart = false_from_ne_true _ (λ same. by (nat_cmp k.0 e) refl same)
  where
    by : (o : Ordering) → nat_cmp k.0 e ≡ o → is_eq (ordering_then o (nat_cmp k.1 g)) ≡ true → ⊥
    by Less i h = absurd (true≢false (sym h))
    by Greater i h = absurd (true≢false (sym h))
    by Equal i h = second (nat_cmp k.1 g) refl h
      where
        second : (o : Ordering) → nat_cmp k.1 g ≡ o → is_eq o ≡ true → ⊥
        second Less j h = absurd (true≢false (sym h))
        second Greater j h = absurd (true≢false (sym h))
        second Equal j h = apart (sym (nat_cmp-IsAntisymmetric k.0 e i), sym (nat_cmp-IsAntisymmetric k.1 g j))

-- ---- the keys

pub cases_end : (end k : Option ℕ) → IsEndOf end k ⊎ (IsEndOf end k → ⊥)
cases_end end None = inr (λ is. is)
cases_end None (Some e) = inr (λ is. none≢some e is)
cases_end (Some end) (Some e) = elim (cases_eq end e) [
  | inl i ↦ inl (ap (λ (e : ℕ). Some e) i)
  | inr ne ↦ inr (λ is. ne (same_some end e is))
]

pub cases_key : (end k : Option ℕ) → IsKeyOf end k ⊎ (IsKeyOf end k → ⊥)
cases_key end None = inl tt
cases_key end (Some e) = cases_end end (Some e)

same_end-true : (was end : Option ℕ) → same_end was end ≡ true → (e : ℕ) → was ≡ Some e → end ≡ Some e
same_end-true None end same e is = absurd (none≢some e is)
same_end-true (Some w) None same e is = absurd (true≢false (sym same))
same_end-true (Some w) (Some end) same e is = ap (λ (e : ℕ). Some e) (sym (eqb-true w end same)) ∙ is

same_end-false : (was end : Option ℕ) → same_end was end ≡ false → (e : ℕ) → was ≡ Some e → end ≡ Some e → ⊥
same_end-false None end apart e is i = none≢some e is
same_end-false (Some w) None apart e is i = none≢some e i
same_end-false (Some w) (Some end) apart e is i = true≢false (sym (eq-eqb w end (same_some w e is ∙ sym (same_some end e i))) ∙ apart)

-- ---- the maps

pub notes_alone : (old new : Ends) (number : ℕ) (at : Option ℕ) → Updates nat_cmp old.nodes new.nodes number at → new.by_end ≡ old.by_end → NotesAt old new IsAlone number at
notes_alone old new number at u same = record { this = this; others = others }
  where
    this : (k : Option ℕ) → IsAlone k → noted_node new k number ≡ at
    this None is = u.1
    this (Some e) is = absurd is

    others : (k : Option ℕ) (g : ℕ) → (IsAlone k → g ≡ number → ⊥) → noted_node new k g ≡ noted_node old k g
    others None g apart = u.2 g (false_from_ne_true _ (λ h. by (nat_cmp number g) refl h))
      where
        by : (o : Ordering) → nat_cmp number g ≡ o → is_eq o ≡ true → ⊥
        by Less i h = true≢false (sym h)
        by Greater i h = true≢false (sym h)
        by Equal i h = apart tt (sym (nat_cmp-IsAntisymmetric number g i))
    others (Some e) g apart = ap (λ m. get end_cmp m (e, g)) same

pub notes_by_end : (old new : Ends) (end number : ℕ) (at : Option ℕ) → Updates end_cmp old.by_end new.by_end (end, number) at → new.nodes ≡ old.nodes → NotesEnd old new (Some end) number at
notes_by_end old new end number at u same = record { this = this; others = others }
  where
    this : (k : Option ℕ) → IsEndOf (Some end) k → noted_node new k number ≡ at
    this None is = absurd is
    this (Some e) is = ap (λ e. noted_node new (Some e) number) (sym (same_some end e is)) ∙ u.1

    others : (k : Option ℕ) (g : ℕ) → (IsEndOf (Some end) k → g ≡ number → ⊥) → noted_node new k g ≡ noted_node old k g
    others None g apart = ap (λ m. get nat_cmp m g) same
    others (Some e) g apart = u.2 (e, g) (other_end (end, number) e g (λ p. apart (ap (λ (e : ℕ). Some e) (sym p.0)) p.1))

pub notes_both : (old mid new : Ends) (end : Option ℕ) (number : ℕ) (at : Option ℕ) → NotesEnd old mid end number at → NotesAt mid new IsAlone number at → Notes old new end number at
notes_both old mid new end number at a b = record { this = this; others = others }
  where
    this : (k : Option ℕ) → IsKeyOf end k → noted_node new k number ≡ at
    this None is = b.this None tt
    this (Some e) is = b.others (Some e) number (λ is _. is) ∙ a.this (Some e) is

    others : (k : Option ℕ) (g : ℕ) → (IsKeyOf end k → g ≡ number → ⊥) → noted_node new k g ≡ noted_node old k g
    others None g apart = b.others None g (λ _ i. apart tt i) ∙ a.others None g (λ is _. is)
    others (Some e) g apart = b.others (Some e) g (λ is _. is) ∙ a.others (Some e) g apart

-- what was noted and then forgotten
module _ (keys : Option ℕ → Type 0) (cases : (k : Option ℕ) → keys k ⊎ (keys k → ⊥)) where
  pub undone : (old mid new : Ends) (number n : ℕ) → ((k : Option ℕ) (m : ℕ) → noted_node old k number ≡ Some m → ⊥) → NotesAt old mid keys number (Some n) → NotesAt mid new keys number None → SameEnds old new
  undone old mid new number n fresh notes forgets = λ k g. elim (cases_eq g number) [
    | inl i ↦ elim (cases k) [
      | inl is ↦ ap (noted_node new k) i ∙ forgets.this k is ∙ sym (ap (noted_node old k) i ∙ nothing k (noted_node old k number) refl)
      | inr other ↦ back k g (λ is _. other is)
    ]
    | inr ne ↦ back k g (λ _ i. ne i)
  ]
    where
      nothing : (k : Option ℕ) (o : Option ℕ) → noted_node old k number ≡ o → noted_node old k number ≡ None
      nothing k None h = h
      nothing k (Some m) h = absurd (fresh k m h)

      back : (k : Option ℕ) (g : ℕ) → (keys k → g ≡ number → ⊥) → noted_node new k g ≡ noted_node old k g
      back k g apart = forgets.others k g apart ∙ notes.others k g apart

-- ---- the same locks

pub AreEnds-same : (t u : LockTree) (old new : Ends) → AreEndsNoted t old → ((n : ℕ) → locks_at u n ≡ locks_at t n) → SameEnds old new → AreEndsNoted u new
AreEnds-same t u old new a locks ends = record {
  noted = λ k g n l h key. ends k g ∙ a.noted k g n l (ap (find nat_cmp g) (sym (locks n)) ∙ h) key;
  only = λ k g n h. let w = a.only k g n (sym (ends k g) ∙ h) in (w.0, ap (find nat_cmp g) (locks n) ∙ w.1, w.2);
}

pub AreEnds-none : (t : LockTree) (ends : Ends) → ((n : ℕ) → locks_at t n ≡ []) → ((k : Option ℕ) (g : ℕ) → noted_node ends k g ≡ None) → AreEndsNoted t ends
AreEnds-none t ends none nothing = record {
  noted = λ k g n l h key. absurd (none≢some l (sym (ap (find nat_cmp g) (none n)) ∙ h));
  only = λ k g n h. absurd (none≢some n (sym (nothing k g) ∙ h));
}

-- ---- the lock with one number

-- u is t, but for the lock with this number: only this one has it, and stands at n
pub record Restands (t u : LockTree) (number : ℕ) (lock : Option Lock) (n : ℕ) : Type 0 where
  pub others : (g m : ℕ) → g ≢ number → find nat_cmp g (locks_at u m) ≡ find nat_cmp g (locks_at t m)
  pub stands : (l : Lock) → lock ≡ Some l → find nat_cmp number (locks_at u n) ≡ Some l
  pub only : (m : ℕ) (l : Lock) → find nat_cmp number (locks_at u m) ≡ Some l → (lock ≡ Some l) × (m ≡ n)

-- the keys under which it is noted
abbrev pub keys_of : Option Lock → Option ℕ → Type 0
keys_of None k = ⊥
keys_of (Some l) k = IsKeyOf l.timeout_at k

pub AreEnds-on : (t u : LockTree) (old new : Ends) (number : ℕ) (lock : Option Lock) (n : ℕ) → AreEndsNoted t old → Restands t u number lock n → Renotes old new number (keys_of lock) n → AreEndsNoted u new
AreEnds-on t u old new number lock n a r s = record {
  noted = λ k g m l h key. elim (cases_eq g number) [
    | inl i ↦
        let w = r.only m l (sym (ap (λ g. find nat_cmp g (locks_at u m)) i) ∙ h) in
        ap (noted_node new k) i ∙ s.noted k (subst (λ o. keys_of o k) (sym w.0) key) ∙ ap (λ (m : ℕ). Some m) (sym w.1)
    | inr ne ↦ s.others k g ne ∙ a.noted k g m l (sym (r.others g m ne) ∙ h) key
  ];
  only = λ k g m h. elim (cases_eq g number) [
    | inl i ↦ let w = s.only k m (sym (ap (noted_node new k) i) ∙ h) in by lock refl k g m i w.0 w.1
    | inr ne ↦ let w = a.only k g m (sym (s.others k g ne) ∙ h) in (w.0, r.others g m ne ∙ w.1, w.2)
  ];
}
  where
    by : (o : Option Lock) → lock ≡ o → (k : Option ℕ) (g m : ℕ) → g ≡ number → keys_of lock k → m ≡ n → (l : Lock) × (find nat_cmp g (locks_at u m) ≡ Some l) × IsKeyOf l.timeout_at k
    by None is k g m i key at = absurd (subst (λ o. keys_of o k) is key)
    by (Some l) is k g m i key at = (l, ap (λ g. find nat_cmp g (locks_at u m)) i ∙ ap (λ m. find nat_cmp number (locks_at u m)) at ∙ r.stands l is, subst (λ o. keys_of o k) is key)

-- ---- what is noted

-- a lock of which nothing was noted
pub Renotes-new : (old new : Ends) (number : ℕ) (end : Option ℕ) (n : ℕ) → ((k : Option ℕ) (m : ℕ) → noted_node old k number ≡ Some m → ⊥) → Notes old new end number (Some n) → Renotes old new number (IsKeyOf end) n
Renotes-new old new number end n fresh notes = record {
  others = λ k g ne. notes.others k g (λ _ i. ne i);
  noted = notes.this;
  only = λ k m h. elim (cases_key end k) [
    | inl is ↦ (is, same_some m n (sym h ∙ notes.this k is))
    | inr other ↦ absurd (fresh k m (sym (notes.others k number (λ is _. other is)) ∙ h))
  ];
}

-- a lock that is forgotten
pub Renotes-none : (old new : Ends) (number : ℕ) (end : Option ℕ) (n : ℕ) → ((k : Option ℕ) (m : ℕ) → noted_node old k number ≡ Some m → IsKeyOf end k) → Notes old new end number None → Renotes old new number (λ k. ⊥) n
Renotes-none old new number end n was notes = record {
  others = λ k g ne. notes.others k g (λ _ i. ne i);
  noted = λ k is. absurd is;
  only = λ k m h. elim (cases_key end k) [
    | inl is ↦ absurd (none≢some m (sym (notes.this k is) ∙ h))
    | inr other ↦ absurd (other (was k m (sym (notes.others k number (λ is _. other is)) ∙ h)))
  ];
}

-- another end of a lock, or the same, is noted first
module _ (old mid : Ends) (number n : ℕ) (was end : Option ℕ) (stands : noted_node old None number ≡ Some n) (only : (k : Option ℕ) (m : ℕ) → noted_node old k number ≡ Some m → IsKeyOf was k)
    (notes : NotesEnd old mid end number (Some n)) where
  mid_noted : (k : Option ℕ) → IsKeyOf end k → noted_node mid k number ≡ Some n
  mid_noted None is = notes.others None number (λ is _. is) ∙ stands
  mid_noted (Some e) is = notes.this (Some e) is

  mid_only : (k : Option ℕ) (m : ℕ) → noted_node mid k number ≡ Some m → (IsKeyOf end k × (m ≡ n)) ⊎ IsEndOf was k
  mid_only None m h = inl (tt, same_some m n (sym h ∙ mid_noted None tt))
  mid_only (Some e) m h = elim (cases_end end (Some e)) [
    | inl is ↦ inl (is, same_some m n (sym h ∙ notes.this (Some e) is))
    | inr other ↦ inr (only (Some e) m (sym (notes.others (Some e) number (λ is _. other is)) ∙ h))
  ]

  -- where it is the same
  pub Renotes-same : same_end was end ≡ true → Renotes old mid number (IsKeyOf end) n
  Renotes-same same = record {
    others = λ k g ne. notes.others k g (λ _ i. ne i);
    noted = mid_noted;
    only = λ k m h. elim (mid_only k m h) [ inl w ↦ w | inr is ↦ again k m is h ];
  }
    where
      again : (k : Option ℕ) (m : ℕ) → IsEndOf was k → noted_node mid k number ≡ Some m → IsKeyOf end k × (m ≡ n)
      again None m is h = absurd is
      again (Some e) m is h = let i : end ≡ Some e = same_end-true was end same e is in (i, same_some m n (sym h ∙ notes.this (Some e) i))

  -- where it is another, the old one is forgotten then
  pub Renotes-other : (new : Ends) → same_end was end ≡ false → NotesEnd mid new was number None → Renotes old new number (IsKeyOf end) n
  Renotes-other new apart forgets = record {
    others = λ k g ne. forgets.others k g (λ _ i. ne i) ∙ notes.others k g (λ _ i. ne i);
    noted = λ k is. still k is ∙ mid_noted k is;
    only = λ k m h. elim (cases_end was k) [
      | inl w ↦ absurd (none≢some m (sym (forgets.this k w) ∙ h))
      | inr other ↦ elim (mid_only k m (sym (forgets.others k number (λ w _. other w)) ∙ h)) [ inl w ↦ w | inr w ↦ absurd (other w) ]
    ];
  }
    where
      still : (k : Option ℕ) → IsKeyOf end k → noted_node new k number ≡ noted_node mid k number
      still None is = forgets.others None number (λ is _. is)
      still (Some e) is = forgets.others (Some e) number (λ w _. same_end-false was end apart e w is)

-- ---- what stands

module _ (t : LockTree) (granted : List NumberedLock) (next : ℕ) (r : Represents t granted next) where
  -- a number stands at one node
  pub one_node : (g m n : ℕ) (k l : Lock) → find nat_cmp g (locks_at t m) ≡ Some k → find nat_cmp g (locks_at t n) ≡ Some l → (k ≡ l) × (m ≡ n)
  one_node g m n k l h i =
      let a = r.listed m g k h in
      let b = r.listed n g l i in
      let same : k ≡ l = same_some k l (sym a.0 ∙ b.0) in
      (same, same_some m n (sym a.1 ∙ ap (λ (l : Lock). node_below t 1 (lock_path l)) same ∙ b.1))

  -- none has a number that is still to be given
  pub no_next : (m : ℕ) (l : Lock) → find nat_cmp next (locks_at t m) ≡ Some l → ⊥
  no_next m l h = let lt = r.below next l (r.listed m next l h).0 in omega (arith, lt)

  module _ (u : LockTree) (n : ℕ) where
    pub Restands-push : (l : Lock) → Changes t u n (locks_at t n ++ (next, l) ∷ []) → Restands t u next (Some l) n
    Restands-push l c = record {
      others = λ g m ne. elim (cases_eq m n) [
        | inl i ↦ ap (find nat_cmp g) (ap (locks_at u) i ∙ c.at) ∙ pushed g ∙ ap (λ b. cond b (Some l) (find nat_cmp g (locks_at t n))) (ne_eqb g next ne) ∙ ap (λ m. find nat_cmp g (locks_at t m)) (sym i)
        | inr apart ↦ ap (find nat_cmp g) (c.other m apart)
      ];
      stands = λ k is. here ∙ is;
      only = λ m k h. elim (cases_eq m n) [
        | inl i ↦ (sym here ∙ sym (ap (λ m. find nat_cmp next (locks_at u m)) i) ∙ h, i)
        | inr apart ↦ absurd (no_next m k (sym (ap (find nat_cmp next) (c.other m apart)) ∙ h))
      ];
    }
      where
        pushed : (g : ℕ) → find nat_cmp g (locks_at t n ++ (next, l) ∷ []) ≡ cond (g == next) (Some l) (find nat_cmp g (locks_at t n))
        pushed g = find-push (locks_at t n) next l g (all_below_at t u granted next r n)

        here : find nat_cmp next (locks_at u n) ≡ Some l
        here = ap (find nat_cmp next) c.at ∙ pushed next ∙ ap (λ b. cond b (Some l) (find nat_cmp next (locks_at t n))) (eq-eqb next next refl)

    module _ (k : ℕ) (d : NumberedLock) (within : k < length (locks_at t n)) where
      abbrev number : ℕ
      number = (get_or (locks_at t n) k d).0

      was : find nat_cmp number (locks_at t n) ≡ Some (get_or (locks_at t n) k d).1
      was = found_at_place (locks_at t n) k d (r.nodes_in_order n) within

      pub Restands-remove : Changes t u n (remove (locks_at t n) k) → Restands t u (get_or (locks_at t n) k d).0 None n
      Restands-remove c = record {
        others = λ g m ne. elim (cases_eq m n) [
          | inl i ↦ ap (find nat_cmp g) (ap (locks_at u) i ∙ c.at) ∙ find-other (locks_at t n) k d g (r.nodes_in_order n) within ne ∙ ap (λ m. find nat_cmp g (locks_at t m)) (sym i)
          | inr apart ↦ ap (find nat_cmp g) (c.other m apart)
        ];
        stands = λ l is. absurd (none≢some l is);
        only = λ m l h. elim (cases_eq m n) [
          | inl i ↦ absurd (none≢some l (sym (find-gone (locks_at t n) k d (r.nodes_in_order n) within) ∙ sym (ap (find nat_cmp number) (ap (locks_at u) i ∙ c.at)) ∙ h))
          | inr apart ↦ absurd (apart (one_node number m n l _ (sym (ap (find nat_cmp number) (c.other m apart)) ∙ h) was).1)
        ];
      }

      pub Restands-set : (l : Lock) → Changes t u n (set (locks_at t n) k ((get_or (locks_at t n) k d).0, l)) → Restands t u (get_or (locks_at t n) k d).0 (Some l) n
      Restands-set l c = record {
        others = λ g m ne. elim (cases_eq m n) [
          | inl i ↦ ap (find nat_cmp g) (ap (locks_at u) i ∙ c.at) ∙ found g ∙ ap (λ b. cond b (Some l) (find nat_cmp g (locks_at t n))) (ne_eqb g number ne) ∙ ap (λ m. find nat_cmp g (locks_at t m)) (sym i)
          | inr apart ↦ ap (find nat_cmp g) (c.other m apart)
        ];
        stands = λ k is. here ∙ is;
        only = λ m k h. elim (cases_eq m n) [
          | inl i ↦ (sym here ∙ sym (ap (λ m. find nat_cmp number (locks_at u m)) i) ∙ h, i)
          | inr apart ↦ absurd (apart (one_node number m n k _ (sym (ap (find nat_cmp number) (c.other m apart)) ∙ h) was).1)
        ];
      }
        where
          found : (g : ℕ) → find nat_cmp g (set (locks_at t n) k (number, l)) ≡ cond (g == number) (Some l) (find nat_cmp g (locks_at t n))
          found g = find-set (locks_at t n) k number l d g (r.nodes_in_order n) within refl

          here : find nat_cmp number (locks_at u n) ≡ Some l
          here = ap (find nat_cmp number) c.at ∙ found number ∙ ap (λ b. cond b (Some l) (find nat_cmp number (locks_at t n))) (eq-eqb number number refl)

      -- what is noted of it
      pub noted_for : (ends : Ends) → AreEndsNoted t ends → (j : Option ℕ) (m : ℕ) → noted_node ends j (get_or (locks_at t n) k d).0 ≡ Some m → IsKeyOf (get_or (locks_at t n) k d).1.timeout_at j × (m ≡ n)
      noted_for ends a j m h =
          let w = a.only j number m h in
          let one = one_node number m n w.0 _ w.1 was in
          (subst (λ l. IsKeyOf l.timeout_at j) one.0 w.2, one.1)

      pub noted_alone : (ends : Ends) → AreEndsNoted t ends → noted_node ends None (get_or (locks_at t n) k d).0 ≡ Some n
      noted_alone ends a = a.noted None number n _ was tt

-- ---- what is cleared

pub AreEnds-cleared : (t u : LockTree) (top : ℕ) (old new : Ends) → AreEndsNoted t old → Cleared t u top → ForgetsEnds t old new (Under (parent_number t) top) → AreEndsNoted u new
AreEnds-cleared t u top old new a c f = record {
  noted = λ k g n l h key.
      let apart = outside_locked t u top c n (λ none. none≢some l (sym (ap (find nat_cmp g) none) ∙ h)) in
      f.kept k g n (a.noted k g n l (sym (ap (find nat_cmp g) (locks_left t u top c n apart)) ∙ h) key) apart;
  only = λ k g n h.
      let w = a.only k g n (f.only k g n h) in
      let apart : Under (parent_number t) top n → ⊥ = λ under. none≢some n (sym (f.gone k g n w.0 under w.1 w.2) ∙ h) in
      (w.0, ap (find nat_cmp g) (locks_left t u top c n apart) ∙ w.1, w.2);
}

-- ---- whole calls

module _ (t : LockTree) (next : ℕ) (keeps : IsLockTree t next) (old : Ends) (a : AreEndsNoted t old) where
  pub none_for_next : (k : Option ℕ) (m : ℕ) → noted_node old k next ≡ Some m → ⊥
  none_for_next k m h = let w = a.only k next m h in no_next t (all_granted t) next keeps.list.represents m w.0 w.1

  pub ends-same : (u : LockTree) (new : Ends) → SameLocks t u → SameEnds old new → AreEndsNoted u new
  ends-same u new same ends = AreEnds-same t u old new a same.locks ends

  pub ends-grant : (v u : LockTree) (new : Ends) (n : ℕ) (l : Lock) → SameLocks t v → IsKnown v n → u ≡ with_item v n (locks_at v n ++ (next, l) ∷ []) → Notes old new l.timeout_at next (Some n) → AreEndsNoted u new
  ends-grant v u new n l same known is notes =
      let r = Represents-same t v (all_granted t) next keeps.list.represents same in
      let standing : List NumberedLock = locks_at v n ++ (next, l) ∷ [] in
      let changes : Changes v u n standing = subst (λ u. Changes v u n standing) (sym is) (Changes-with_item v n standing same.tree known) in
      AreEnds-on v u old new next (Some l) n (ends-same v old same (λ k g. refl)) (Restands-push v (all_granted t) next r u n l changes) (Renotes-new old new next l.timeout_at n none_for_next notes)

  module _ (u : LockTree) (new : Ends) (n k : ℕ) (d : NumberedLock) (within : k < length (locks_at t n)) where
    at_node : (standing : List NumberedLock) → u ≡ with_item t n standing → Changes t u n standing
    at_node standing is = subst (λ u. Changes t u n standing) (sym is) (Changes-with_item t n standing keeps.list.represents.tree (known_from_lock t n k within))

    pub was_noted : (j : Option ℕ) (m : ℕ) → noted_node old j (get_or (locks_at t n) k d).0 ≡ Some m → IsKeyOf (get_or (locks_at t n) k d).1.timeout_at j
    was_noted j m h = (noted_for t (all_granted t) next keeps.list.represents u n k d within old a j m h).0

    pub was_alone : noted_node old None (get_or (locks_at t n) k d).0 ≡ Some n
    was_alone = noted_alone t (all_granted t) next keeps.list.represents u n k d within old a

    pub ends-end : (v : LockTree) → u ≡ with_item t n (remove (locks_at t n) k) → SameLocks u v → Notes old new (get_or (locks_at t n) k d).1.timeout_at (get_or (locks_at t n) k d).0 None → AreEndsNoted v new
    ends-end v is same notes =
        let g = get_or (locks_at t n) k d in
        AreEnds-same u v new new
        (AreEnds-on t u old new g.0 None n a (Restands-remove t (all_granted t) next keeps.list.represents u n k d within (at_node (remove (locks_at t n) k) is)) (Renotes-none old new g.0 g.1.timeout_at n was_noted notes))
        same.locks (λ k g. refl)

    pub ends-refresh : (l : Lock) → u ≡ with_item t n (set (locks_at t n) k ((get_or (locks_at t n) k d).0, l)) → Renotes old new (get_or (locks_at t n) k d).0 (IsKeyOf l.timeout_at) n → AreEndsNoted u new
    ends-refresh l is renotes =
        let g = get_or (locks_at t n) k d in
        AreEnds-on t u old new g.0 (Some l) n a (Restands-set t (all_granted t) next keeps.list.represents u n k d within l (at_node (set (locks_at t n) k (g.0, l)) is)) renotes

  pub ends-delete : (u v : LockTree) (new : Ends) (top : ℕ) → Cleared t u top → ForgetsEnds t old new (Under (parent_number t) top) → SameLocks u v → AreEndsNoted v new
  ends-delete u v new top c f same = AreEnds-same u v new new (AreEnds-cleared t u top old new a c f) same.locks (λ k g. refl)
