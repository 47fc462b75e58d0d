-- What the calls of a lock list leave and answer, by what they do to its tree.
use Rattle.std.proofs.Common.{◌≡◌, ℕ, zero, suc, ◌+◌, ◌<◌, ◌&&◌, not, true, false, Bool, is_some, IsSome, List, [], ◌∷◌, ◌++◌, length, map, get_or, set, Option, Some, None, Result, Ok, Err, OnErr, refl, sym, ap, ◌∙◌, subst, arith}
use Rattle.std.specs.Prelude.{remove, filter, Contains}
use Rattle.std.specs.Option.{option_map, unwrap_or}
use Rattle.std.proofs.lemmas.Bool.{false≢true}
use Rattle.std.proofs.lemmas.List.{map_push, get_or-map}
use Rattle.dav_path_core.specs.Fronts.{Segment, Path}
use Rattle.dav_path_core.specs.Keyed.{Entry, entry, IsKnown, IsTree, with_item}
use Rattle.dav_locks_core.specs.Lock.{Lock}
use Rattle.dav_locks_core.specs.Locks.{lock_path, lock_conflicts, check_conflicts, refuses_lock, refuses_change, any_held, found_token, discovered_locks, without_below, is_at_or_below, refreshed_lock, LockCaller, covers, is_held_by}
use Rattle.dav_locks_core.specs.Private.LockTree.{NumberedLock, LockTree, locks_at, is_segment, node_below, all_granted, locks_of, lock_list, lookup_lock, ShowsAt, covering_down}
use Rattle.dav_locks_core.specs.Private.Pruning.{AllNeeded, NeededBut, SameLocks, Cleared}
use Rattle.dav_locks_core.specs.Private.LockRepresents.{Represents, IsLockList, IsLockTree}
use Rattle.dav_locks_core.specs.Private.SubtreeWalks.{NoneBelow, ShowsBelow}
use Rattle.dav_locks_core.specs.Exclusive.{Exclusive}
use Rattle.dav_locks_core.specs.Calls.{Shows, ShowsOnly}
use Rattle.dav_locks_core.specs.Private.WayTests.{refuses_wanted, is_covering_held, is_covering_unheld, has_that_token}
use Rattle.dav_locks_core.specs.declared.ls.LockError.{LockError}
use Rattle.dav_locks_core.specs.declared.ls.LockError.TheVariants.{Conflict, OutOfMemory}
use Rattle.dav_path_core.proofs.trees.Trees.{same_some}
use Rattle.dav_locks_core.proofs.trees.ClearingLemmas.{NeededBut-cleared, Represents-cleared, entry-with_item}
use Rattle.dav_locks_core.proofs.answers.DiscoverLemmas.{discovered_down, all_stay}
use Rattle.dav_path_core.proofs.lists.PlaceLemmas.{map-filter}
use Rattle.dav_locks_core.proofs.answers.DeepConflictLemmas.{deep_lock_free, deep_lock_shown, deep_check_free, deep_check_shown, lock_shown_wider, check_shown_wider}
use Rattle.dav_locks_core.proofs.laws.ExclusiveLemmas.{Exclusive-push, Exclusive-remove, Exclusive-filter, Exclusive-refreshed, held_is_enough, all_held}
use Rattle.dav_locks_core.proofs.trees.PruningLemmas.{NeededBut-changes, all_needed, needed_but}
use Rattle.dav_locks_core.proofs.trees.StandingLemmas.{one_list, Represents-same, Represents-none, Changes, Changes-with_item, Represents-push, Represents-remove, Represents-set}
use Rattle.dav_locks_core.proofs.answers.ConflictLemmas.{Agrees, wanted, covering, uncovered, asked, no_conflict, conflict, none_is_any, some_is_any, not_found, found_first}

-- ---- what a tree keeps, by a list that it represents

-- the tree keeps what a lock list keeps, its nodes aside, and is seen as these locks
pub record IsSeenAs (t : LockTree) (next : ℕ) (locks : List Lock) : Type 0 where
  pub keeps : IsLockList t next
  pub seen : lock_list t ≡ locks

pub seen_from : (t : LockTree) (granted : List NumberedLock) (next : ℕ) → Represents t granted next → Exclusive (locks_of granted) → IsSeenAs t next (locks_of granted)
seen_from t granted next r x =
    let one : all_granted t ≡ granted = one_list t granted next r in
    record {
      keeps = record {
        represents = subst (λ g. Represents t g next) (sym one) r;
        exclusive = subst (λ g. Exclusive (locks_of g)) (sym one) x;
      };
      seen = ap locks_of one;
    }

pub seen-none : (t : LockTree) (next : ℕ) → IsTree is_segment t → ((n : ℕ) → locks_at t n ≡ []) → IsSeenAs t next []
seen-none t next tree none = seen_from t [] next (Represents-none t next tree none) tt

pub seen-start : (t : LockTree) (next : ℕ) (locks : List Lock) → IsLockList t next → lock_list t ≡ locks → IsSeenAs t next locks
seen-start t next locks keeps seen = record { keeps = keeps; seen = seen }

pub seen-same : (t u : LockTree) (next : ℕ) (locks : List Lock) → IsSeenAs t next locks → SameLocks t u → IsSeenAs u next locks
seen-same t u next locks k same =
    subst (IsSeenAs u next) k.seen (seen_from u (all_granted t) next (Represents-same t u (all_granted t) next k.keeps.represents same) k.keeps.exclusive)

pub seen-push : (t u : LockTree) (next n : ℕ) (l : Lock) (locks : List Lock) → IsSeenAs t next locks → node_below t 1 (lock_path l) ≡ Some n → IsKnown t n → lock_conflicts locks (lock_path l) l.shared l.deep ≡ []
    → u ≡ with_item t n (locks_at t n ++ (next, l) ∷ []) → IsSeenAs u (next + 1) (locks ++ l ∷ [])
seen-push t u next n l locks k leads known free is =
    let changes : Changes t u n (locks_at t n ++ (next, l) ∷ []) =
    subst (λ u. Changes t u n (locks_at t n ++ (next, l) ∷ [])) (sym is) (Changes-with_item t n (locks_at t n ++ (next, l) ∷ []) k.keeps.represents.tree known) in
    let longer : locks_of (all_granted t ++ (next, l) ∷ []) ≡ locks ++ l ∷ [] = map_push (λ (g : NumberedLock). g.1) (all_granted t) (next, l) ∙ ap (λ ls. ls ++ l ∷ []) k.seen in
    let exclusive : Exclusive (locks ++ l ∷ []) = Exclusive-push locks l (subst Exclusive k.seen k.keeps.exclusive) free in
    subst (IsSeenAs u (next + 1)) longer
    (seen_from u (all_granted t ++ (next, l) ∷ []) (next + 1) (Represents-push t u (all_granted t) next k.keeps.represents n l leads changes) (subst Exclusive (sym longer) exclusive))

-- then all nodes are needed, where all were but those above it
pub push-needed : (t u : LockTree) (n : ℕ) (g : NumberedLock) → IsTree is_segment t → IsKnown t n → NeededBut t n → u ≡ with_item t n (locks_at t n ++ g ∷ []) → AllNeeded u
push-needed t u n g tree known needed is =
    let standing : List NumberedLock = locks_at t n ++ g ∷ [] in
    let changes : Changes t u n standing = subst (λ u. Changes t u n standing) (sym is) (Changes-with_item t n standing tree known) in
    all_needed u n (NeededBut-changes t u n standing changes needed) (λ none. some (locks_at t n) (sym changes.at ∙ none))
  where
    some : (xs : List NumberedLock) → xs ++ g ∷ [] ≡ [] → ⊥
    some [] e = absurd (cc)
    some (x ∷ xs) e = absurd (cc)

-- ---- an end

pub known_from_lock : (t : LockTree) (n k : ℕ) → k < length (locks_at t n) → IsKnown t n
known_from_lock t n k lt = by (entry t n) refl
  where
    by : (o : Option (Entry Segment (List NumberedLock))) → entry t n ≡ o → IsKnown t n
    by None e = let nothing : length (locks_at t n) ≡ 0 = ap (λ o. length (unwrap_or (option_map (λ e. e.item) o) [])) e in absurd (omega arith)
    by (Some x) e = ap is_some e

map-remove : {A B : Type 0} (f : A → B) (xs : List A) (k : ℕ) → map f (remove xs k) ≡ remove (map f xs) k
map-remove f [] zero = refl
map-remove f [] (suc k) = refl
map-remove f (x ∷ xs) zero = refl
map-remove f (x ∷ xs) (suc k) = ap (λ r. f x ∷ r) (map-remove f xs k)

map-set : {A B : Type 0} (f : A → B) (xs : List A) (k : ℕ) (y : A) → map f (set xs k y) ≡ set (map f xs) k (f y)
map-set f [] zero y = refl
map-set f [] (suc k) y = refl
map-set f (x ∷ xs) zero y = refl
map-set f (x ∷ xs) (suc k) y = ap (λ r. f x ∷ r) (map-set f xs k y)

pub some_granted : NumberedLock
some_granted = (0, record { token = []; path = record { prefix = []; bytes = [] }; principal = None; owner = None; timeout_at = None; timeout = None; shared = false; deep = false })

-- the lock at a place of the list is ended, which stands at a node
pub record EndsAt (t u : LockTree) (next n at : ℕ) : Type 0 where
  pub after : IsSeenAs u next (remove (lock_list t) at)
  pub known : IsKnown u n
  pub needed : NeededBut u n

-- the first with the token on the way is ended, which is the found one
pub record Ends (t u : LockTree) (next n : ℕ) (p : Path) (token : List ℕ) : Type 0 where
  pub at : ℕ
  pub is_found : found_token (lock_list t) p token ≡ Some at
  pub ends : EndsAt t u next n at

pub place_within : (t : LockTree) (next m k : ℕ) (p : Path) (token : List ℕ) → IsLockList t next → lookup_lock (has_that_token token) t 1 p ≡ Some (m, k) → k < length (locks_at t m)
place_within t next m k p token keeps h = let f = found_first t (all_granted t) next keeps.represents p token m k some_granted h in f.2

pub known_still : (t u : LockTree) (n : ℕ) (standing : List NumberedLock) → IsKnown t n → u ≡ with_item t n standing → IsKnown u n
known_still t u n standing known is = by (entry t n) refl
  where
    by : (o : Option (Entry Segment (List NumberedLock))) → entry t n ≡ o → IsKnown u n
    by None e = absurd (false≢true (sym (ap is_some e) ∙ known))
    by (Some x) e = ap (λ (v : LockTree). is_some (entry v n)) is ∙ ap is_some (entry-with_item t n standing x e).here

pub seen-end_at : (t u : LockTree) (next m k at : ℕ) → IsLockTree t next → k < length (locks_at t m) → at < length (all_granted t) → get_or (all_granted t) at some_granted ≡ get_or (locks_at t m) k some_granted
    → u ≡ with_item t m (remove (locks_at t m) k) → EndsAt t u next m at
seen-end_at t u next m k at keeps within listed same is =
    let known : IsKnown t m = known_from_lock t m k within in
    let changes : Changes t u m (remove (locks_at t m) k) =
    subst (λ u. Changes t u m (remove (locks_at t m) k)) (sym is) (Changes-with_item t m (remove (locks_at t m) k) keeps.list.represents.tree known) in
    let shorter : locks_of (remove (all_granted t) at) ≡ remove (lock_list t) at = map-remove (λ (g : NumberedLock). g.1) (all_granted t) at in
    record {
      after = subst (IsSeenAs u next) shorter
          (seen_from u (remove (all_granted t) at) next (Represents-remove t u (all_granted t) next keeps.list.represents m k at some_granted within listed same changes)
          (subst Exclusive (sym shorter) (Exclusive-remove (lock_list t) at keeps.list.exclusive)));
      known = known_still t u m (remove (locks_at t m) k) known is;
      needed = NeededBut-changes t u m (remove (locks_at t m) k) changes (needed_but t m keeps.needed);
    }

pub seen-end : (t u : LockTree) (next m k : ℕ) (p : Path) (token : List ℕ) → IsLockTree t next → lookup_lock (has_that_token token) t 1 p ≡ Some (m, k)
    → u ≡ with_item t m (remove (locks_at t m) k) → Ends t u next m p token
seen-end t u next m k p token keeps h is =
    let f = found_first t (all_granted t) next keeps.list.represents p token m k some_granted h in
    record { at = f.0; is_found = f.1; ends = seen-end_at t u next m k f.0 keeps f.2 f.3 f.4 is }

pub none_found : (t : LockTree) (next : ℕ) (p : Path) (token : List ℕ) → IsLockList t next → lookup_lock (has_that_token token) t 1 p ≡ None → found_token (lock_list t) p token ≡ None
none_found t next p token keeps h = not_found t (all_granted t) next keeps.represents p token h

-- the same place is found for a refresh that is out of memory
pub some_found : (t : LockTree) (next m k : ℕ) (p : Path) (token : List ℕ) → IsLockList t next → lookup_lock (has_that_token token) t 1 p ≡ Some (m, k) → IsSome (found_token (lock_list t) p token)
some_found t next m k p token keeps h = ap is_some (found_first t (all_granted t) next keeps.represents p token m k some_granted h).1

-- ---- another timeout

pub record Refreshes (t u : LockTree) (next : ℕ) (p : Path) (token : List ℕ) (now : ℕ) (timeout : Option ℕ) (l : Lock) : Type 0 where
  pub at : ℕ
  pub is_found : found_token (lock_list t) p token ≡ Some at
  pub is : l ≡ refreshed_lock now timeout (get_or (lock_list t) at l)
  pub after : IsSeenAs u next (set (lock_list t) at l)
  pub needed : AllNeeded u

pub seen-refresh : (t u : LockTree) (next m k : ℕ) (p : Path) (token : List ℕ) (now : ℕ) (timeout : Option ℕ) (l : Lock) → IsLockTree t next → lookup_lock (has_that_token token) t 1 p ≡ Some (m, k)
    → l ≡ refreshed_lock now timeout (get_or (locks_at t m) k some_granted).1 → u ≡ with_item t m (set (locks_at t m) k ((get_or (locks_at t m) k some_granted).0, l))
    → Refreshes t u next p token now timeout l
seen-refresh t u next m k p token now timeout l keeps h is changed =
    let f = found_first t (all_granted t) next keeps.list.represents p token m k some_granted h in
    let d : NumberedLock = some_granted in
    let standing : List NumberedLock = set (locks_at t m) k ((get_or (locks_at t m) k d).0, l) in
    let known : IsKnown t m = known_from_lock t m k f.2 in
    let changes : Changes t u m standing = subst (λ u. Changes t u m standing) (sym changed) (Changes-with_item t m standing keeps.list.represents.tree known) in
    let old : Lock = (get_or (all_granted t) f.0 d).1 in
    let same : l ≡ refreshed_lock now timeout old = is ∙ ap (λ (g : NumberedLock). refreshed_lock now timeout g.1) (sym f.4) in
    let listed : (e : Lock) → get_or (lock_list t) f.0 e ≡ old = λ e. get_or-map (λ (g : NumberedLock). g.1) (all_granted t) f.0 d e f.3 in
    let path : lock_path l ≡ lock_path old = ap lock_path same in
    let r = Represents-set t u (all_granted t) next keeps.list.represents m k f.0 l d f.2 f.3 f.4 path changes in
    let shown : locks_of (set (all_granted t) f.0 ((get_or (all_granted t) f.0 d).0, l)) ≡ set (lock_list t) f.0 l = map-set (λ (g : NumberedLock). g.1) (all_granted t) f.0 ((get_or (all_granted t) f.0 d).0, l) in
    let whole : l ≡ refreshed_lock now timeout (get_or (lock_list t) f.0 l) = same ∙ ap (refreshed_lock now timeout) (sym (listed l)) in
    record {
      at = f.0;
      is_found = f.1;
      is = whole;
      after = subst (IsSeenAs u next) shown
          (seen_from u (set (all_granted t) f.0 ((get_or (all_granted t) f.0 d).0, l)) next r
          (subst Exclusive (sym shown) (subst (λ x. Exclusive (set (lock_list t) f.0 x)) (sym whole) (Exclusive-refreshed (lock_list t) f.0 now timeout l keeps.list.exclusive))));
      needed = all_needed u m (NeededBut-changes t u m standing changes (needed_but t m keeps.needed)) (λ none. some (locks_at t m) k ((get_or (locks_at t m) k d).0, l) f.2 (sym changes.at ∙ none));
    }
  where
    some : (xs : List NumberedLock) (k : ℕ) (y : NumberedLock) → k < length xs → set xs k y ≡ [] → ⊥
    some [] k y lt e = absurd (omega (arith, lt))
    some (x ∷ xs) zero y lt e = absurd (cc)
    some (x ∷ xs) (suc k) y lt e = absurd (cc)

-- ---- a deletion

pub record Deletes (t u : LockTree) (next top : ℕ) (p : Path) : Type 0 where
  pub after : IsSeenAs u next (without_below p (lock_list t))
  pub needed : NeededBut u top

pub seen-delete : (t u : LockTree) (next top : ℕ) (p : Path) → IsLockTree t next → node_below t 1 p ≡ Some top → IsKnown t top → Cleared t u top → Deletes t u next top p
seen-delete t u next top p keeps leads known g =
    let stays : NumberedLock → Bool = λ g. not (is_at_or_below g.1 p) in
    let shown : locks_of (filter stays (all_granted t)) ≡ without_below p (lock_list t) = map-filter (λ (g : NumberedLock). g.1) (λ l. not (is_at_or_below l p)) (all_granted t) in
    record {
      after = subst (IsSeenAs u next) shown
          (seen_from u (filter stays (all_granted t)) next (Represents-cleared t u top g (all_granted t) next keeps.list.represents p leads)
          (subst Exclusive (sym shown) (Exclusive-filter (λ l. not (is_at_or_below l p)) (lock_list t) keeps.list.exclusive)));
      needed = NeededBut-cleared t u top g keeps.list.represents.tree known keeps.needed;
    }

-- nothing stands at or below a path that leads nowhere
pub none_deleted : (t : LockTree) (next : ℕ) (p : Path) → IsLockTree t next → node_below t 1 p ≡ None → without_below p (lock_list t) ≡ lock_list t
none_deleted t next p keeps stuck = all_stay t (all_granted t) next keeps.list.represents p stuck

-- ---- the locks that cover a path

pub seen-discovered : (t : LockTree) (next : ℕ) (p : Path) → IsLockList t next → covering_down t 1 p ≡ discovered_locks (lock_list t) p
seen-discovered t next p keeps = discovered_down t (all_granted t) next keeps.represents p

-- ---- refusals

-- what is shown is one of the conflicts, where what stands there is
shows_at : (conflicts : List Lock) (t : LockTree) (o : Option (ℕ × ℕ)) → ((f : ℕ × ℕ) → o ≡ Some f → Contains conflicts (get_or (locks_at t f.0) f.1 some_granted).1) → (e : LockError) → ShowsAt t o e → ShowsOnly conflicts e
shows_at conflicts t o is (Conflict l) h = subst (Contains conflicts) (sym (h.2 some_granted)) (is h.0 h.1)
shows_at conflicts t None is OutOfMemory h = absurd (false≢true h)
shows_at conflicts t (Some f) is OutOfMemory h = λ none. let c = is f refl in let nothing : length conflicts ≡ 0 = ap length none in absurd (omega (arith, c.1, nothing))

pub shows_weaker : (conflicts : List Lock) (e : LockError) → ShowsOnly conflicts e → Shows conflicts e
shows_weaker conflicts (Conflict l) h = h
shows_weaker conflicts OutOfMemory h = tt

module _ (t : LockTree) (next : ℕ) (keeps : IsLockList t next) (p : Path) where
  shows : (on_way : Bool → Lock → Bool) (of_all : Lock → Bool) → Agrees on_way of_all p → (f : ℕ × ℕ) → lookup_lock on_way t 1 p ≡ Some f → Contains (filter of_all (lock_list t)) (get_or (locks_at t f.0) f.1 some_granted).1
  shows on_way of_all a f h = conflict t (all_granted t) next keeps.represents p on_way of_all a f.0 f.1 some_granted h

  pub lock_free : (shared deep : Bool) → lookup_lock (refuses_wanted shared) t 1 p ≡ None → (deep ≡ true → NoneBelow (refuses_wanted shared true) t p) → lock_conflicts (lock_list t) p shared deep ≡ []
  lock_free shared deep h below =
      deep_lock_free t (all_granted t) next keeps.represents p shared deep
      (no_conflict t (all_granted t) next keeps.represents p (refuses_wanted shared) (refuses_lock p shared false) (wanted shared p) h) below

  pub lock_shown : (shared deep : Bool) (e : LockError) → ShowsAt t (lookup_lock (refuses_wanted shared) t 1 p) e → ShowsOnly (lock_conflicts (lock_list t) p shared deep) e
  lock_shown shared deep e h =
      shows_at (lock_conflicts (lock_list t) p shared deep) t (lookup_lock (refuses_wanted shared) t 1 p)
      (λ f is. lock_shown_wider (lock_list t) p shared deep _ (shows (refuses_wanted shared) (refuses_lock p shared false) (wanted shared p) f is)) e h

  pub lock_shown_below : (shared deep : Bool) (e : LockError) → deep ≡ true → ShowsBelow (refuses_wanted shared true) t p e → ShowsOnly (lock_conflicts (lock_list t) p shared deep) e
  lock_shown_below shared deep e is h =
      subst (λ deep. ShowsOnly (lock_conflicts (lock_list t) p shared deep) e) (sym is)
      (shows_at (lock_conflicts (lock_list t) p shared true) t (Some h.1)
      (λ f same. subst (λ (f : ℕ × ℕ). Contains (lock_conflicts (lock_list t) p shared true) (get_or (locks_at t f.0) f.1 some_granted).1) (same_some h.1 f same)
      (deep_lock_shown t (all_granted t) next keeps.represents p shared h.0 h.1 some_granted h.2 h.3)) e h.4)

  -- what a check answers, by the locks on the way that are held and those that aren't
  module _ (who : LockCaller) where
    pub check_free : lookup_lock (is_covering_unheld who) t 1 p ≡ None → check_conflicts (lock_list t) p false who ≡ []
    check_free h =
        all_held (lock_list t) p who (no_conflict t (all_granted t) next keeps.represents p (is_covering_unheld who) (λ l. covers l p && not (is_held_by l who)) (uncovered who p) h)

    pub check_held : IsSome (lookup_lock (is_covering_held who) t 1 p) → check_conflicts (lock_list t) p false who ≡ []
    check_held some = by (lookup_lock (is_covering_held who) t 1 p) refl some
      where
        by : (o : Option (ℕ × ℕ)) → lookup_lock (is_covering_held who) t 1 p ≡ o → IsSome o → check_conflicts (lock_list t) p false who ≡ []
        by None e some = absurd (false≢true some)
        by (Some f) e some =
            held_is_enough (lock_list t) p who keeps.exclusive
            (some_is_any t (all_granted t) next keeps.represents p (is_covering_held who) (λ l. covers l p && is_held_by l who) (covering who p) f.0 f.1 some_granted e)

    pub check_shown : (deep : Bool) → lookup_lock (is_covering_held who) t 1 p ≡ None → (e : LockError) → ShowsAt t (lookup_lock (is_covering_unheld who) t 1 p) e → ShowsOnly (check_conflicts (lock_list t) p deep who) e
    check_shown deep none e h =
        let nobody : any_held (lock_list t) p who ≡ false = none_is_any t (all_granted t) next keeps.represents p (is_covering_held who) (λ l. covers l p && is_held_by l who) (covering who p) none in
        shows_at (check_conflicts (lock_list t) p deep who) t (lookup_lock (is_covering_unheld who) t 1 p)
        (λ f is. check_shown_wider (lock_list t) p deep who _ (shows (is_covering_unheld who) (refuses_change (lock_list t) p false who) (asked (lock_list t) who p nobody) f is)) e h

    pub check_deep_free : (deep : Bool) → check_conflicts (lock_list t) p false who ≡ [] → (deep ≡ true → NoneBelow (is_covering_unheld who true) t p) → check_conflicts (lock_list t) p deep who ≡ []
    check_deep_free deep none below = deep_check_free t (all_granted t) next keeps.represents p deep who none below

    pub check_shown_below : (deep : Bool) (e : LockError) → deep ≡ true → ShowsBelow (is_covering_unheld who true) t p e → ShowsOnly (check_conflicts (lock_list t) p deep who) e
    check_shown_below deep e is h =
        subst (λ deep. ShowsOnly (check_conflicts (lock_list t) p deep who) e) (sym is)
        (shows_at (check_conflicts (lock_list t) p true who) t (Some h.1)
        (λ f same. subst (λ (f : ℕ × ℕ). Contains (check_conflicts (lock_list t) p true who) (get_or (locks_at t f.0) f.1 some_granted).1) (same_some h.1 f same)
        (deep_check_shown t (all_granted t) next keeps.represents p who h.0 h.1 some_granted h.2 h.3)) e h.4)

-- ---- whole calls

-- the tree keeps what a lock list keeps, and is seen as these locks
pub record IsKeptAs (t : LockTree) (next : ℕ) (locks : List Lock) : Type 0 where
  pub keeps : IsLockTree t next
  pub seen : lock_list t ≡ locks

kept_from : (t : LockTree) (next : ℕ) (locks : List Lock) → IsSeenAs t next locks → AllNeeded t → IsKeptAs t next locks
kept_from t next locks k needed = record { keeps = record { list = k.keeps; needed = needed }; seen = k.seen }

-- the same locks, where nodes that were made for another are taken away
pub kept-same : (t u : LockTree) (next : ℕ) (locks : List Lock) → IsLockTree t next → lock_list t ≡ locks → SameLocks t u → AllNeeded u → IsKeptAs u next locks
kept-same t u next locks keeps seen same needed = kept_from u next locks (seen-same t u next locks (seen-start t next locks keeps.list seen) same) needed

pub kept-grant : (t v u : LockTree) (next n : ℕ) (l : Lock) (locks : List Lock) → IsLockTree t next → lock_list t ≡ locks → SameLocks t v → node_below v 1 (lock_path l) ≡ Some n → IsKnown v n → NeededBut v n
    → lock_conflicts locks (lock_path l) l.shared l.deep ≡ [] → u ≡ with_item v n (locks_at v n ++ (next, l) ∷ []) → IsKeptAs u (next + 1) (locks ++ l ∷ [])
kept-grant t v u next n l locks keeps seen same leads known needed free is =
    let before : IsSeenAs v next locks = seen-same t v next locks (seen-start t next locks keeps.list seen) same in
    kept_from u (next + 1) (locks ++ l ∷ []) (seen-push v u next n l locks before leads known free is) (push-needed v u n (next, l) same.tree known needed is)

pub kept-end : (t u v : LockTree) (next n at : ℕ) (e : EndsAt t u next n at) → SameLocks u v → AllNeeded v → IsKeptAs v next (remove (lock_list t) at)
kept-end t u v next n at e same needed = kept_from v next (remove (lock_list t) at) (seen-same u v next (remove (lock_list t) at) e.after same) needed

pub kept-refresh : (t u : LockTree) (next : ℕ) (p : Path) (token : List ℕ) (now : ℕ) (timeout : Option ℕ) (l : Lock) (r : Refreshes t u next p token now timeout l) → IsKeptAs u next (set (lock_list t) r.at l)
kept-refresh t u next p token now timeout l r = kept_from u next (set (lock_list t) r.at l) r.after r.needed

pub kept-delete : (t u v : LockTree) (next top : ℕ) (p : Path) → Deletes t u next top p → SameLocks u v → AllNeeded v → IsKeptAs v next (without_below p (lock_list t))
kept-delete t u v next top p d same needed = kept_from v next (without_below p (lock_list t)) (seen-same u v next (without_below p (lock_list t)) d.after same) needed

pub on_err : {T E : Type 0} {P : Type 0} (r : Result T E) → P → OnErr r P
on_err (Ok x) h = tt
on_err (Err e) h = h
