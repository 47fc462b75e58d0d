-- A tree of locks where those go whose end has come, a node at a time.
use Rattle.std.proofs.Common.{◌≡◌, ◌≢◌, ◌⊎◌, inl, inr, ℕ, ◌<◌, ◌≤◌, Bool, true, false, cond, not, is_some, List, [], get_or, Option, Some, None, refl, sym, ap, ◌∙◌, subst}
use Rattle.std.specs.Prelude.{filter}
use Rattle.std.specs.Ordering.{nat_cmp}
use Rattle.std.specs.FinMap.{find}
use Rattle.std.proofs.lemmas.Bool.{cases_eq, lt-leb, le-leb, true≢false, false≢true}
use Rattle.std.proofs.lemmas.List.Elements.{filter_passes, recursion_from_All}
use Rattle.dav_path_core.specs.Fronts.{Segment, Path}
use Rattle.dav_path_core.specs.Keyed.{Entry, entry, IsKnown, IsTree, with_item}
use Rattle.dav_path_core.proofs.lists.PlaceLemmas.{filter-all, filter_all_at, map-filter}
use Rattle.dav_path_core.proofs.trees.Trees.{same_some, none≢some}
use Rattle.dav_locks_core.specs.Lock.{Lock}
use Rattle.dav_locks_core.specs.Locks.{lock_path}
use Rattle.dav_locks_core.specs.Exclusive.{Exclusive}
use Rattle.dav_locks_core.specs.Stale.{has_come, is_stale, without_stale}
use Rattle.dav_locks_core.specs.Private.NotedEnds.{Ends, noted_node, IsKeyOf, SameEnds, NoneEnds, TakesEnded, AreEndsNoted, IsNotedTree}
use Rattle.dav_locks_core.specs.Private.LockTree.{NumberedLock, LockTree, is_segment, locks_at, node_below, all_granted, locks_of, lock_list}
use Rattle.dav_locks_core.specs.Private.Pruning.{AllNeeded, NeededBut, SameLocks}
use Rattle.dav_locks_core.specs.Private.LockRepresents.{Represents}
use Rattle.dav_locks_core.proofs.answers.LockListLemmas.{IsSeenAs, seen_from, known_still}
use Rattle.dav_locks_core.proofs.laws.ExclusiveLemmas.{Exclusive-filter}
use Rattle.dav_locks_core.proofs.ends.EndLemmas.{cases_key, one_node}
use Rattle.dav_locks_core.proofs.lists.NumberedLemmas.{InOrder, InOrder-filter, find-filter, kept_if, found_at_place}
use Rattle.dav_locks_core.proofs.trees.PruningLemmas.{NeededBut-changes, needed_but}
use Rattle.dav_locks_core.proofs.trees.StandingLemmas.{Changes, Changes-with_item, locks_of_entry}
use Rattle.dav_locks_core.proofs.walks.SubtreeLemmas.{way_stays}

-- its end hasn't come
abbrev pub lasts : ℕ → NumberedLock → Bool
lasts now g = not (is_stale now g.1)

abbrev pub lasting_at : ℕ → LockTree → ℕ → List NumberedLock
lasting_at now t n = filter (lasts now) (locks_at t n)

-- u is t without the stale locks of some nodes, and new has those that stand in it; of a lock all that old has is noted, or
-- nothing
pub record Thins (t u : LockTree) (old new : Ends) (now : ℕ) : Type 0 where
  pub tree : IsTree is_segment u
  pub needed : AllNeeded u
  pub locks : (n : ℕ) → (locks_at u n ≡ locks_at t n) ⊎ (locks_at u n ≡ lasting_at now t n)
  pub ways : (n : ℕ) (p : Path) → locks_at u n ≢ [] → node_below t 1 p ≡ Some n → node_below u 1 p ≡ Some n
  pub noted : (k : Option ℕ) (g n : ℕ) (l : Lock) → find nat_cmp g (locks_at u n) ≡ Some l → IsKeyOf l.timeout_at k → noted_node new k g ≡ Some n
  pub only : (k : Option ℕ) (g n : ℕ) → noted_node new k g ≡ Some n → noted_node old k g ≡ Some n
  pub whole : (k j : Option ℕ) (g n : ℕ) → noted_node new k g ≡ Some n → noted_node old j g ≡ Some n → noted_node new j g ≡ Some n

-- ---- moments

last_by_end : (now : ℕ) (end : Option ℕ) → ((e : ℕ) → end ≡ Some e → now < e) → not (has_come now end) ≡ true
last_by_end now None h = refl
last_by_end now (Some e) h = ap not (lt-leb e now (h e refl))

ended_by : (now e : ℕ) (l : Lock) → l.timeout_at ≡ Some e → e ≤ now → not (is_stale now l) ≡ true → ⊥
ended_by now e l is le lasts = true≢false (sym lasts ∙ ap (λ end. not (has_come now end)) is ∙ ap not (le-leb e now le))

-- ---- what a filter leaves

kept_some : (test : NumberedLock → Bool) (g : ℕ) (l : Lock) (o : Option Lock) → kept_if test g o ≡ Some l → (o ≡ Some l) × (test (g, l) ≡ true)
kept_some test g l None h = absurd (none≢some l h)
kept_some test g l (Some k) h = by (test (g, k)) refl h
  where
    by : (b : Bool) → test (g, k) ≡ b → cond b (Some k) None ≡ Some l → (Some k ≡ Some l) × (test (g, l) ≡ true)
    by true e h = (h, ap (λ k. test (g, k)) (sym (same_some k l h)) ∙ e)
    by false e h = absurd (none≢some l h)

some_kept : (test : NumberedLock → Bool) (g : ℕ) (l : Lock) (o : Option Lock) → o ≡ Some l → test (g, l) ≡ true → kept_if test g o ≡ Some l
some_kept test g l o is passes = ap (kept_if test g) is ∙ ap (λ b. cond b (Some l) None) passes

module _ (test : NumberedLock → Bool) (granted : List NumberedLock) (sorted : InOrder granted) (g : ℕ) (l : Lock) where
  in_filter : find nat_cmp g (filter test granted) ≡ Some l → (find nat_cmp g granted ≡ Some l) × (test (g, l) ≡ true)
  in_filter h = kept_some test g l (find nat_cmp g granted) (sym (find-filter test granted g sorted) ∙ h)

  to_filter : find nat_cmp g granted ≡ Some l → test (g, l) ≡ true → find nat_cmp g (filter test granted) ≡ Some l
  to_filter h passes = find-filter test granted g sorted ∙ some_kept test g l (find nat_cmp g granted) h passes

twice : (test : NumberedLock → Bool) (granted : List NumberedLock) → filter test (filter test granted) ≡ filter test granted
twice test granted = filter-all test (filter test granted) (recursion_from_All _ (filter test granted) (filter_passes test granted))

-- ---- the loop

pub known_of_lock : (t : LockTree) (n g : ℕ) → is_some (find nat_cmp g (locks_at t n)) ≡ true → IsKnown t n
known_of_lock t n g h = by (entry t n) refl
  where
    by : (o : Option (Entry Segment (List NumberedLock))) → entry t n ≡ o → IsKnown t n
    by None e = absurd (false≢true (sym (ap (λ granted. is_some (find nat_cmp g granted)) (locks_of_entry t n None e)) ∙ h))
    by (Some x) e = ap is_some e

module _ (t : LockTree) (next now : ℕ) (old : Ends) (keeps : IsNotedTree t next old) where
  sorted : (n : ℕ) → InOrder (locks_at t n)
  sorted = keeps.tree.list.represents.nodes_in_order

  pub thins_from : Thins t t old old now
  thins_from = record {
    tree = keeps.tree.list.represents.tree;
    needed = keeps.tree.needed;
    locks = λ n. inl refl;
    ways = λ n p some leads. leads;
    noted = keeps.are_ends.noted;
    only = λ k g n h. h;
    whole = λ k j g n h i. i;
  }

  module _ (u : LockTree) (new : Ends) (th : Thins t u old new now) where
    pub in_order : (n : ℕ) → InOrder (locks_at u n)
    in_order n = elim (th.locks n) [
      | inl e ↦ subst InOrder (sym e) (sorted n)
      | inr e ↦ subst InOrder (sym e) (InOrder-filter (lasts now) (locks_at t n) (sorted n))
    ]

    before : (g n : ℕ) (l : Lock) → find nat_cmp g (locks_at u n) ≡ Some l → find nat_cmp g (locks_at t n) ≡ Some l
    before g n l h = elim (th.locks n) [
      | inl e ↦ sym (ap (find nat_cmp g) e) ∙ h
      | inr e ↦ (in_filter (lasts now) (locks_at t n) (sorted n) g l (sym (ap (find nat_cmp g) e) ∙ h)).0
    ]

    -- a lock is forgotten
    module _ (mid : Ends) (number node : ℕ) (taken : TakesEnded new mid now number node) where
      its : (l : Lock) × (find nat_cmp number (locks_at t node) ≡ Some l) × (l.timeout_at ≡ Some taken.end)
      its = keeps.are_ends.only (Some taken.end) number node (th.only (Some taken.end) number node taken.was)

      one : (n : ℕ) (l : Lock) → find nat_cmp number (locks_at t n) ≡ Some l → (l.timeout_at ≡ Some taken.end) × (n ≡ node)
      one n l h =
          let w = its in
          let o = one_node t (all_granted t) next keeps.tree.list.represents number n node l w.0 h w.1 in
          (ap (λ (l : Lock). l.timeout_at) o.0 ∙ w.2, o.1)

      -- nothing is noted of it any more
      none_left : (k : Option ℕ) (n : ℕ) → noted_node mid k number ≡ Some n → ⊥
      none_left k n h = elim (cases_key (Some taken.end) k) [
        | inl is ↦ none≢some n (sym (taken.gone.this k is) ∙ h)
        | inr other ↦
            let w = keeps.are_ends.only k number n (th.only k number n (sym (taken.gone.others k number (λ is _. other is)) ∙ h)) in
            other (subst (λ end. IsKeyOf end k) (one n w.0 w.1).0 w.2)
      ]

      others : (k : Option ℕ) (g : ℕ) → g ≢ number → noted_node mid k g ≡ noted_node new k g
      others k g ne = taken.gone.others k g (λ _ i. ne i)

      fewer : (k : Option ℕ) (g n : ℕ) → noted_node mid k g ≡ Some n → noted_node old k g ≡ Some n
      fewer k g n h = elim (cases_eq g number) [
        | inl i ↦ absurd (none_left k n (sym (ap (noted_node mid k) i) ∙ h))
        | inr ne ↦ th.only k g n (sym (others k g ne) ∙ h)
      ]

      whole_on : (k j : Option ℕ) (g n : ℕ) → noted_node mid k g ≡ Some n → noted_node old j g ≡ Some n → noted_node mid j g ≡ Some n
      whole_on k j g n h was = elim (cases_eq g number) [
        | inl i ↦ absurd (none_left k n (sym (ap (noted_node mid k) i) ∙ h))
        | inr ne ↦ others j g ne ∙ th.whole k j g n (sym (others k g ne) ∙ h) was
      ]

      -- its lock has gone already
      pub thins_past : is_some (find nat_cmp number (locks_at u node)) ≡ false → Thins t u old mid now
      thins_past none = record {
        tree = th.tree;
        needed = th.needed;
        locks = th.locks;
        ways = th.ways;
        noted = λ k g n l h key. elim (cases_eq g number) [
          | inl i ↦
              let here : find nat_cmp number (locks_at u n) ≡ Some l = sym (ap (λ g. find nat_cmp g (locks_at u n)) i) ∙ h in
              let at : n ≡ node = (one n l (before number n l here)).1 in
              absurd (true≢false (sym (ap is_some (sym (ap (λ n. find nat_cmp number (locks_at u n)) at) ∙ here)) ∙ none))
          | inr ne ↦ others k g ne ∙ th.noted k g n l h key
        ];
        only = fewer;
        whole = whole_on;
      }

      -- the stale locks at its node go
      module _ (w : LockTree) (some : is_some (find nat_cmp number (locks_at u node)) ≡ true) (is : w ≡ with_item u node (lasting_at now u node)) where
        changes : Changes u w node (lasting_at now u node)
        changes = subst (λ w. Changes u w node (lasting_at now u node)) (sym is) (Changes-with_item u node (lasting_at now u node) th.tree (known_of_lock u node number some))

        pub thinned_tree : IsTree is_segment w
        thinned_tree = changes.tree

        pub thinned_known : IsKnown w node
        thinned_known = known_still u w node (lasting_at now u node) (known_of_lock u node number some) is

        pub thinned_needed : NeededBut w node
        thinned_needed = NeededBut-changes u w node (lasting_at now u node) changes (needed_but u node th.needed)

        module _ (v : LockTree) (same : SameLocks w v) (needed : AllNeeded v) where
          here : (n : ℕ) → n ≡ node → locks_at v n ≡ lasting_at now u node
          here n i = same.locks n ∙ ap (locks_at w) i ∙ changes.at

          elsewhere : (n : ℕ) → n ≢ node → locks_at v n ≡ locks_at u n
          elsewhere n ne = same.locks n ∙ changes.other n ne

          locks_on : (n : ℕ) → (locks_at v n ≡ locks_at t n) ⊎ (locks_at v n ≡ lasting_at now t n)
          locks_on n = elim (cases_eq n node) [
            | inl i ↦ inr (here n i ∙ lasting_here ∙ ap (lasting_at now t) (sym i))
            | inr ne ↦ elim (th.locks n) [ inl e ↦ inl (elsewhere n ne ∙ e) | inr e ↦ inr (elsewhere n ne ∙ e) ]
          ]
            where
              lasting_here : lasting_at now u node ≡ lasting_at now t node
              lasting_here = elim (th.locks node) [
                | inl e ↦ ap (filter (lasts now)) e
                | inr e ↦ ap (filter (lasts now)) e ∙ twice (lasts now) (locks_at t node)
              ]

          ways_on : (n : ℕ) (p : Path) → locks_at v n ≢ [] → node_below t 1 p ≡ Some n → node_below v 1 p ≡ Some n
          ways_on n p some leads =
              let before : locks_at u n ≢ [] = λ none. some (elim (cases_eq n node) [
                | inl i ↦ here n i ∙ ap (filter (lasts now)) (sym (ap (locks_at u) i) ∙ none)
                | inr ne ↦ elsewhere n ne ∙ none
              ]) in
              same.ways n p (λ none. some (same.locks n ∙ none)) (way_stays u w changes.ways 1 n p (th.ways n p before leads))

          -- the lock that is forgotten stands nowhere
          gone_on : (n : ℕ) (l : Lock) → find nat_cmp number (locks_at v n) ≡ Some l → ⊥
          gone_on n l h = elim (cases_eq n node) [
            | inl i ↦
                let w = in_filter (lasts now) (locks_at u node) (in_order node) number l (sym (ap (find nat_cmp number) (here n i)) ∙ h) in
                ended_by now taken.end l (one node l (before number node l w.0)).0 taken.has_come w.1
            | inr ne ↦ ne (one n l (before number n l (sym (ap (find nat_cmp number) (elsewhere n ne)) ∙ h))).1
          ]

          stood : (g n : ℕ) (l : Lock) → find nat_cmp g (locks_at v n) ≡ Some l → find nat_cmp g (locks_at u n) ≡ Some l
          stood g n l h = elim (cases_eq n node) [
            | inl i ↦
                ap (λ n. find nat_cmp g (locks_at u n)) i
                ∙ (in_filter (lasts now) (locks_at u node) (in_order node) g l (sym (ap (find nat_cmp g) (here n i)) ∙ h)).0
            | inr ne ↦ sym (ap (find nat_cmp g) (elsewhere n ne)) ∙ h
          ]

          noted_on : (k : Option ℕ) (g n : ℕ) (l : Lock) → find nat_cmp g (locks_at v n) ≡ Some l → IsKeyOf l.timeout_at k → noted_node mid k g ≡ Some n
          noted_on k g n l h key = elim (cases_eq g number) [
            | inl i ↦ absurd (gone_on n l (sym (ap (λ g. find nat_cmp g (locks_at v n)) i) ∙ h))
            | inr ne ↦ others k g ne ∙ th.noted k g n l (stood g n l h) key
          ]

          pub thins_on : Thins t v old mid now
          thins_on = record {
            tree = same.tree;
            needed = needed;
            locks = locks_on;
            ways = ways_on;
            noted = noted_on;
            only = fewer;
            whole = whole_on;
          }

    pub thins_same : (mid : Ends) → SameEnds new mid → Thins t u old mid now
    thins_same mid same = record {
      tree = th.tree;
      needed = th.needed;
      locks = th.locks;
      ways = th.ways;
      noted = λ k g n l h key. same k g ∙ th.noted k g n l h key;
      only = λ k g n h. th.only k g n (sym (same k g) ∙ h);
      whole = λ k j g n h was. same j g ∙ th.whole k j g n (sym (same k g) ∙ h) was;
    }

    -- ---- none is left whose end has come

    module _ (none : NoneEnds new now) where
      all_lasting : (n : ℕ) → locks_at u n ≡ lasting_at now t n
      all_lasting n = elim (th.locks n) [
        | inl e ↦
            e ∙ sym (filter_all_at (lasts now) (locks_at t n) (λ k d lt.
            let g = get_or (locks_at t n) k d in
            let found : find nat_cmp g.0 (locks_at u n) ≡ Some g.1 = ap (find nat_cmp g.0) e ∙ found_at_place (locks_at t n) k d (sorted n) lt in
            last_by_end now g.1.timeout_at (λ end is. none end g.0 n (th.noted (Some end) g.0 n g.1 found is))))
        | inr e ↦ e
      ]

      represents_lasting : Represents u (filter (lasts now) (all_granted t)) next
      represents_lasting =
          let r = keeps.tree.list.represents in
          record {
            tree = th.tree;
            in_order = InOrder-filter (lasts now) (all_granted t) r.in_order;
            nodes_in_order = in_order;
            listed = λ n g l h.
                let w = in_filter (lasts now) (locks_at t n) (sorted n) g l (sym (ap (find nat_cmp g) (all_lasting n)) ∙ h) in
                let a = r.listed n g l w.0 in
                (to_filter (lasts now) (all_granted t) r.in_order g l a.0 w.1, th.ways n (lock_path l) (λ nothing. none≢some l (sym (ap (find nat_cmp g) nothing) ∙ h)) a.1);
            stands = λ g l h.
                let w = in_filter (lasts now) (all_granted t) r.in_order g l h in
                let a = r.stands g l w.0 in
                (a.0, ap (find nat_cmp g) (all_lasting a.0) ∙ to_filter (lasts now) (locks_at t a.0) (sorted a.0) g l a.1 w.1);
            below = λ g l h. r.below g l (in_filter (lasts now) (all_granted t) r.in_order g l h).0;
          }

      seen_lasting : IsSeenAs u next (without_stale now (lock_list t))
      seen_lasting =
          let shown : locks_of (filter (lasts now) (all_granted t)) ≡ without_stale now (lock_list t) = map-filter (λ (g : NumberedLock). g.1) (λ l. not (is_stale now l)) (all_granted t) in
          subst (IsSeenAs u next) shown
          (seen_from u (filter (lasts now) (all_granted t)) next represents_lasting (subst Exclusive (sym shown) (Exclusive-filter (λ l. not (is_stale now l)) (lock_list t) keeps.tree.list.exclusive)))

      ends_lasting : AreEndsNoted u new
      ends_lasting = record {
        noted = th.noted;
        only = λ k g n h.
            let w = keeps.are_ends.only k g n (th.only k g n h) in
            let lasting : not (is_stale now w.0) ≡ true = last_by_end now w.0.timeout_at (λ end is. none end g n (th.whole k (Some end) g n h (keeps.are_ends.noted (Some end) g n w.0 w.1 is))) in
            (w.0, ap (find nat_cmp g) (all_lasting n) ∙ to_filter (lasts now) (locks_at t n) (sorted n) g w.0 w.1 lasting, w.2);
      }

      pub thinned_kept : IsNotedTree u next new
      thinned_kept = record { tree = record { list = seen_lasting.keeps; needed = th.needed }; are_ends = ends_lasting }

      pub thinned_left : lock_list u ≡ without_stale now (lock_list t)
      thinned_left = seen_lasting.seen
