-- The nodes of a tree of locks are as many as the distinct fronts of the paths of its locks.
use Rattle.std.proofs.Common.{◌≡◌, ◌≢◌, ◌⊎◌, inl, inr, ℕ, zero, suc, ◌+◌, ◌<◌, ◌≤◌, Bool, true, false, ◌||◌, List, [], ◌∷◌, ◌++◌, length, map, get_or, Option, Some, None, is_some, refl, sym, ap, ◌∙◌, subst, arith, eqb}
use Rattle.std.specs.Prelude.{sum_by}
use Rattle.std.specs.List.{flat_map, IsDistinct, AllByRecursion}
use Rattle.std.specs.Ordering.{nat_cmp}
use Rattle.std.specs.FinMap.{find, len}
use Rattle.std.specs.Set.{is_member}
use Rattle.std.proofs.lemmas.Bool.{or_cases, or_left, or_right, false≢true, false_from_ne_true}
use Rattle.std.proofs.lemmas.Cmp.{eq_by_cmp_equiv}
use Rattle.std.proofs.lemmas.List.{length-map}
use Rattle.std.proofs.lemmas.List.Concat.{length-flat_map}
use Rattle.std.proofs.lemmas.List.Folds.{list_any-append}
use Rattle.std.proofs.lemmas.Map.Made.{distinct_count-le, length-from_keys}
use Rattle.dav_path_core.specs.Fronts.{Segment, Path, is_front, is_same_path}
use Rattle.dav_path_core.specs.Keyed.{Entry, Under, entry, parent_number, IsKnown, IsTree, IsIn}
use Rattle.dav_path_core.proofs.lists.Orders.{path_total}
use Rattle.dav_path_core.proofs.children.Chains.{in_here, in_later, in_cases, none_twice, later_distinct}
use Rattle.dav_path_core.proofs.paths.FrontLemmas.{is_same_path-same, is_same_path-refl, is_front-cons, is_front-parts}
use Rattle.dav_path_core.proofs.trees.Counting.{numbers, numbers-distinct, numbers-known, numbers-length}
use Rattle.dav_path_core.proofs.trees.KeyedCuts.{same_truth}
use Rattle.dav_path_core.proofs.trees.Trees.{none≢some, same_some, find-here}
use Rattle.std.proofs.lemmas.Map.Keys.{IsDistinct-cons}
use Rattle.dav_locks_core.specs.Lock.{Lock}
use Rattle.dav_locks_core.specs.Locks.{lock_path, height}
use Rattle.dav_locks_core.specs.LockFronts.{fronts_below_root, lock_fronts, front_count}
use Rattle.dav_locks_core.specs.Private.LockTree.{NumberedLock, LockTree, is_segment, locks_at, node_below, locks_of}
use Rattle.dav_locks_core.specs.Private.Pruning.{AllNeeded}
use Rattle.dav_locks_core.specs.Private.LockRepresents.{Represents}
use Rattle.dav_path_core.proofs.lists.MemberLemmas.{In}
use Rattle.dav_locks_core.proofs.lists.NumberedLemmas.{place_of_found, found_at_place}
use Rattle.dav_locks_core.proofs.trees.StandingLemmas.{locks_of_entry}
use Rattle.dav_path_core.proofs.walks.AboveLemmas.{known_above}
use Rattle.dav_locks_core.proofs.walks.SubtreeLemmas.{way_to, through, front_of, node_at-here}
use Rattle.dav_locks_core.proofs.trees.WayLemmas.{one_path}

-- ---- members of a list of paths

has : Path → List Path → Bool
has q ps = is_member is_same_path ps q

has-append : (q : Path) (ps qs : List Path) → has q (ps ++ qs) ≡ (has q ps || has q qs)
unfolding has
has-append q ps qs = list_any-append (is_same_path q) ps qs

has-cons : (q p : Path) (ps : List Path) → has q (p ∷ ps) ≡ true → (q ≡ p) ⊎ (has q ps ≡ true)
unfolding has
has-cons q p ps h = elim (or_cases (is_same_path q p) (is_member is_same_path ps q) h) [
  | inl same ↦ inl (is_same_path-same q p same)
  | inr later ↦ inr later
]

has-here : (q : Path) (ps : List Path) → has q (q ∷ ps) ≡ true
unfolding has
has-here q ps = or_left _ _ (is_same_path-refl q)

has-later : (q p : Path) (ps : List Path) → has q ps ≡ true → has q (p ∷ ps) ≡ true
unfolding has
has-later q p ps h = or_right (is_same_path q p) _ h

has-none : (q : Path) → has q [] ≡ true → ⊥
unfolding has
has-none q h = false≢true h

-- the same path below one segment more
has-map : (s : Segment) (q : Path) (ps : List Path) → has q ps ≡ true → has (s ∷ q) (map (λ f. s ∷ f) ps) ≡ true
has-map s q [] h = absurd (has-none q h)
has-map s q (p ∷ ps) h = elim (has-cons q p ps h) [
  | inl is ↦ subst (λ p. has (s ∷ q) ((s ∷ p) ∷ map (λ f. s ∷ f) ps) ≡ true) is (has-here (s ∷ q) (map (λ f. s ∷ f) ps))
  | inr later ↦ has-later (s ∷ q) (s ∷ p) (map (λ f. s ∷ f) ps) (has-map s q ps later)
]

map-has : (s : Segment) (q : Path) (ps : List Path) → has q (map (λ f. s ∷ f) ps) ≡ true → (f : Path) × (q ≡ s ∷ f) × (has f ps ≡ true)
map-has s q [] h = absurd (has-none q h)
map-has s q (p ∷ ps) h = elim (has-cons q (s ∷ p) (map (λ f. s ∷ f) ps) h) [
  | inl is ↦ (p, is, has-here p ps)
  | inr later ↦ let w = map-has s q ps later in (w.0, w.1, has-later w.0 p ps w.2)
]

-- ---- the fronts of a path

fronts-has : (q p : Path) → q ≢ [] → is_front q p ≡ true → has q (fronts_below_root p) ≡ true
fronts-has [] p some f = absurd (some refl)
fronts-has (s ∷ q) [] some f = absurd (false≢true f)
fronts-has (s ∷ q) (x ∷ p) some f =
    let w = is_front-parts s x q p f in
    subst (λ x. has (s ∷ q) ((x ∷ []) ∷ map (λ f. x ∷ f) (fronts_below_root p)) ≡ true) w.0 (by q (λ some. fronts-has q p some w.1))
  where
    by : (q : Path) → (q ≢ [] → has q (fronts_below_root p) ≡ true) → has (s ∷ q) ((s ∷ []) ∷ map (λ f. s ∷ f) (fronts_below_root p)) ≡ true
    by [] rec = has-here (s ∷ []) (map (λ f. s ∷ f) (fronts_below_root p))
    by (y ∷ q) rec = has-later (s ∷ y ∷ q) (s ∷ []) (map (λ f. s ∷ f) (fronts_below_root p)) (has-map s (y ∷ q) (fronts_below_root p) (rec (λ e. cc)))

has-fronts : (q p : Path) → has q (fronts_below_root p) ≡ true → is_front q p ≡ true
has-fronts q [] h = absurd (has-none q h)
has-fronts q (x ∷ p) h = elim (has-cons q (x ∷ []) (map (λ f. x ∷ f) (fronts_below_root p)) h) [
  | inl is ↦ subst (λ q. is_front q (x ∷ p) ≡ true) (sym is) (is_front-cons x x [] p refl refl)
  | inr later ↦
      let w = map-has x q (fronts_below_root p) later in
      subst (λ q. is_front q (x ∷ p) ≡ true) (sym w.1) (is_front-cons x x w.0 p refl (has-fronts w.0 p w.2))
]

length-fronts : (p : Path) → length (fronts_below_root p) ≡ length p
length-fronts [] = refl
length-fronts (s ∷ p) = ap suc (length-map (fronts_below_root p) (λ (f : Path). s ∷ f) ∙ length-fronts p)

-- ---- the fronts of a list of locks

abbrev of_locks : List Lock → List Path
of_locks locks = flat_map (λ l. fronts_below_root (lock_path l)) locks

of_locks-has : (q : Path) (locks : List Lock) (l : Lock) → In l locks → q ≢ [] → is_front q (lock_path l) ≡ true → has q (of_locks locks) ≡ true
of_locks-has q [] l i some f = absurd i
of_locks-has q (k ∷ locks) l i some f =
    has-append q (fronts_below_root (lock_path k)) (of_locks locks) ∙ elim i [
      | inl is ↦ or_left _ _ (fronts-has q (lock_path k) some (ap (λ (l : Lock). is_front q (lock_path l)) is ∙ f))
      | inr later ↦ or_right (has q (fronts_below_root (lock_path k))) _ (of_locks-has q locks l later some f)
    ]

has-of_locks : (q : Path) (locks : List Lock) → has q (of_locks locks) ≡ true → (l : Lock) × In l locks × (is_front q (lock_path l) ≡ true)
has-of_locks q [] h = absurd (has-none q h)
has-of_locks q (k ∷ locks) h = elim (or_cases (has q (fronts_below_root (lock_path k))) (has q (of_locks locks)) (sym (has-append q (fronts_below_root (lock_path k)) (of_locks locks)) ∙ h)) [
  | inl here ↦ (k, inl refl, has-fronts q (lock_path k) here)
  | inr later ↦ let w = has-of_locks q locks later in (w.0, inr w.1, w.2)
]

length-of_locks : (locks : List Lock) → length (of_locks locks) ≡ sum_by height locks
length-of_locks locks =
    length-flat_map (λ (l : Lock). fronts_below_root (lock_path l)) locks ∙ ap (λ (f : Lock → ℕ). sum_by f locks) (λ i l. length-fronts (lock_path l) i)

-- at most 1 and the numbers of segments together
pub front_count-bound : (locks : List Lock) → front_count locks ≤ 1 + sum_by height locks
front_count-bound locks =
    let less : front_count locks ≤ length (lock_fronts locks) = distinct_count-le is_same_path (lock_fronts locks) in
    omega (arith, less, length-of_locks locks)

-- ---- one path for each node

-- the paths lead to the numbers, one to each
abbrev LeadTo : LockTree → List Path → List ℕ → Type 0
LeadTo t [] [] = Unit {0}
LeadTo t [] (k ∷ ks) = ⊥
LeadTo t (p ∷ ps) [] = ⊥
LeadTo t (p ∷ ps) (k ∷ ks) = (node_below t 1 p ≡ Some k) × LeadTo t ps ks

none_distinct : IsDistinct is_same_path []
unfolding IsDistinct
none_distinct = tt

module _ (t : LockTree) (tree : IsTree is_segment t) where
  lead_to : (ks : List ℕ) → ((q : ℕ) → IsIn q ks → IsKnown t q) → (ps : List Path) × LeadTo t ps ks
  lead_to [] known = ([], tt)
  lead_to (k ∷ ks) known =
      let w = way_to t tree k (known k (in_here k ks)) in
      let rest = lead_to ks (λ q i. known q (in_later q k ks i)) in
      (w.0 ∷ rest.0, (w.1, rest.1))

  as_many : (ps : List Path) (ks : List ℕ) → LeadTo t ps ks → length ps ≡ length ks
  as_many [] [] h = refl
  as_many [] (k ∷ ks) h = absurd h
  as_many (p ∷ ps) [] h = absurd h
  as_many (p ∷ ps) (k ∷ ks) h = ap suc (as_many ps ks h.1)

  -- a path of the list leads to a number of the list
  led : (q : Path) (ps : List Path) (ks : List ℕ) → LeadTo t ps ks → has q ps ≡ true → (k : ℕ) × (node_below t 1 q ≡ Some k) × IsIn k ks
  led q [] ks h i = absurd (has-none q i)
  led q (p ∷ ps) [] h i = absurd h
  led q (p ∷ ps) (k ∷ ks) h i = elim (has-cons q p ps i) [
    | inl is ↦ (k, ap (node_below t 1) is ∙ h.0, in_here k ks)
    | inr later ↦ let w = led q ps ks h.1 later in (w.0, w.1, in_later w.0 k ks w.2)
  ]

  -- and a path that leads to one is of the list
  has_led : (q : Path) (n : ℕ) (ps : List Path) (ks : List ℕ) → LeadTo t ps ks → IsIn n ks → node_below t 1 q ≡ Some n → has q ps ≡ true
  has_led q n [] [] h i e = absurd (false≢true i)
  has_led q n [] (k ∷ ks) h i e = absurd h
  has_led q n (p ∷ ps) [] h i e = absurd h
  has_led q n (p ∷ ps) (k ∷ ks) h i e = elim (in_cases n k ks i) [
    | inl is ↦
        let same : p ≡ q = one_path t tree p q k h.0 (e ∙ ap (λ (x : ℕ). Some x) is) in
        subst (λ p. has q (p ∷ ps) ≡ true) (sym same) (has-here q ps)
    | inr later ↦ has-later q p ps (has_led q n ps ks h.1 later e)
  ]

  distinct_paths : (ps : List Path) (ks : List ℕ) → LeadTo t ps ks → IsDistinct eqb ks → IsDistinct is_same_path ps
  distinct_paths [] [] h d = none_distinct
  distinct_paths [] (k ∷ ks) h d = absurd h
  distinct_paths (p ∷ ps) [] h d = absurd h
  distinct_paths (p ∷ ps) (k ∷ ks) h d =
      IsDistinct-cons is_same_path p ps (apart ps ks h.1 (λ i. none_twice k ks d i)) (distinct_paths ps ks h.1 (later_distinct k ks d))
    where
      apart : (qs : List Path) (js : List ℕ) → LeadTo t qs js → (IsIn k js → ⊥) → AllByRecursion (λ q. is_same_path p q ≡ false) qs
      apart [] js l out = tt
      apart (q ∷ qs) [] l out = absurd l
      apart (q ∷ qs) (j ∷ js) l out = (
        false_from_ne_true _ (λ same.
            let number : j ≡ k = same_some j k (sym l.0 ∙ ap (node_below t 1) (sym (is_same_path-same p q same)) ∙ h.0) in
            out (subst (λ v. IsIn v (j ∷ js)) number (in_here j js))),
        apart qs js l.1 (λ i. out (in_later k j js i)),
      )

-- ---- the nodes

In-place : (l : Lock) (k : ℕ) (gs : List NumberedLock) (j : ℕ) → j < length gs → get_or gs j (0, l) ≡ (k, l) → In l (locks_of gs)
In-place l k [] j lt e = absurd (omega (arith, lt))
In-place l k (g ∷ gs) zero lt e = inl (ap (λ (g : NumberedLock). g.1) e)
In-place l k (g ∷ gs) (suc j) lt e = inr (In-place l k gs j (omega (arith, lt)) e)

module _ (t : LockTree) (granted : List NumberedLock) (next : ℕ) (r : Represents t granted next) (needed : AllNeeded t) where
  In-locks : (l : Lock) (k : ℕ) → find nat_cmp k granted ≡ Some l → In l (locks_of granted)
  In-locks l k h = let w = place_of_found k l granted h in In-place l k granted w.0 w.1 (w.2 (0, l))

  found-In : (l : Lock) (gs : List NumberedLock) → In l (locks_of gs) → (j : ℕ) × (j < length gs) × ((d : NumberedLock) → (get_or gs j d).1 ≡ l)
  found-In l [] i = absurd i
  found-In l (g ∷ gs) i = elim i [
    | inl is ↦ (zero, omega arith, λ d. is)
    | inr later ↦ let w = found-In l gs later in (suc w.0, omega (arith, w.1), w.2)
  ]

  known_with_locks : (n k : ℕ) (l : Lock) → find nat_cmp k (locks_at t n) ≡ Some l → IsKnown t n
  known_with_locks n k l h = by (entry t n) refl
    where
      by : (o : Option (Entry Segment (List NumberedLock))) → entry t n ≡ o → IsKnown t n
      by None e = absurd (none≢some l (sym (ap (find nat_cmp k) (locks_of_entry t n None e)) ∙ h))
      by (Some x) e = ap is_some e

  -- a front leads to a node
  front_node : (q : Path) → has q (lock_fronts (locks_of granted)) ≡ true → (n : ℕ) × (node_below t 1 q ≡ Some n) × IsKnown t n
  front_node q h = elim (has-cons q [] (of_locks (locks_of granted)) h) [
    | inl root ↦ (1, ap (node_below t 1) root ∙ node_at-here t 1, r.tree.root.0)
    | inr later ↦
        let w = has-of_locks q (locks_of granted) later in
        let j = found-In w.0 granted w.1 in
        let d : NumberedLock = (0, w.0) in
        let g = get_or granted j.0 d in
        let s = r.stands g.0 g.1 (found_at_place granted j.0 d r.in_order j.1) in
        let leads = (r.listed s.0 g.0 g.1 s.1).1 in
        let top = through t 1 s.0 q (lock_path g.1) (ap (λ (l : Lock). is_front q (lock_path l)) (j.2 d) ∙ w.2) leads in
        (top.0, top.1, known_above is_segment t r.tree top.0 s.0 top.2 (known_with_locks s.0 g.0 g.1 s.1))
  ]

  -- and each node is led to by one
  node_front : (n : ℕ) → IsKnown t n → (q : Path) → node_below t 1 q ≡ Some n → has q (lock_fronts (locks_of granted)) ≡ true
  node_front n known q e = elim (needed n known) [
    | inl one ↦
        let root : q ≡ [] = one_path t r.tree q [] n e (node_at-here t 1 ∙ ap (λ (x : ℕ). Some x) (sym one)) in
        subst (λ q. has q (lock_fronts (locks_of granted)) ≡ true) (sym root) (has-here [] (of_locks (locks_of granted)))
    | inr m ↦ by m.0 m.1 (locks_at t m.0) refl m.2
  ]
    where
      by : (m : ℕ) → Under (parent_number t) n m → (ls : List NumberedLock) → locks_at t m ≡ ls → locks_at t m ≢ [] → has q (lock_fronts (locks_of granted)) ≡ true
      by m u [] at some = absurd (some at)
      by m u (g ∷ ls) at some =
          let here : find nat_cmp g.0 (locks_at t m) ≡ Some g.1 = ap (find nat_cmp g.0) at ∙ find-here g ls in
          let w = r.listed m g.0 g.1 here in
          above (front_of t r.tree n m q (lock_path g.1) e w.1 u) (In-locks g.1 g.0 w.0)
        where
          above : is_front q (lock_path g.1) ≡ true → In g.1 (locks_of granted) → has q (lock_fronts (locks_of granted)) ≡ true
          above f i = empty_or q f
            where
              empty_or : (q : Path) → is_front q (lock_path g.1) ≡ true → has q (lock_fronts (locks_of granted)) ≡ true
              empty_or [] f = has-here [] (of_locks (locks_of granted))
              empty_or (s ∷ q) f = has-later (s ∷ q) [] (of_locks (locks_of granted)) (of_locks-has (s ∷ q) (locks_of granted) g.1 i (λ e. cc) f)

  pub nodes_are_fronts : len t.nodes ≡ front_count (locks_of granted)
  unfolding has
  nodes_are_fronts =
      let w = lead_to t r.tree (numbers t) (λ q i. sym (numbers-known t q) ∙ i) in
      sym (numbers-length t) ∙ sym (as_many t r.tree w.0 (numbers t) w.1)
      ∙ length-from_keys (eq_by_cmp_equiv path_total) w.0 (lock_fronts (locks_of granted)) (distinct_paths t r.tree w.0 (numbers t) w.1 (numbers-distinct t)) (λ q. same q w.0 w.1)
    where
      same : (q : Path) (ps : List Path) → LeadTo t ps (numbers t) → is_member is_same_path ps q ≡ is_member is_same_path (lock_fronts (locks_of granted)) q
      same q ps l = same_truth _ _
          (λ h. let w = led t r.tree q ps (numbers t) l h in node_front w.0 (sym (numbers-known t w.0) ∙ w.2) q w.1)
          (λ h. let w = front_node q h in has_led t r.tree q w.0 ps (numbers t) l (numbers-known t w.0 ∙ w.2) w.1)
