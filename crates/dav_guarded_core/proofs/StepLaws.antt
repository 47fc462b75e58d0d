-- What one step keeps.
use Rattle.std.proofs.Common.{◌≡◌, ◌⊎◌, inl, inr, Bool, true, false, cond, ◌||◌, ◌&&◌, not, List, [], ◌∷◌, get_or, Ok, Err, refl, sym, ap, ◌∙◌, subst}
use Rattle.std.specs.Prelude.{set, remove, filter, bytes_eq, Contains}
use Rattle.std.specs.List.{AllByRecursion, list_any}
use Rattle.std.proofs.lemmas.Bool.{and_parts, or_left, or_right, cases_Bool, false≢true, not-false}
use Rattle.std.proofs.lemmas.List.Elements.{filter_agree}
use Rattle.rand_core.specs.Stream.{Stream}
use Rattle.dav_path_core.specs.Fronts.{Path, parent}
use Rattle.dav_locks_core.specs.Lock.{Lock}
use Rattle.dav_locks_core.specs.Locks.{LockCaller, is_at_or_below, check_conflicts, without_below}
use Rattle.dav_locks_core.specs.Exclusive.{Exclusive}
use Rattle.dav_locks_core.specs.Ended.{LocksEnded, StandIn}
use Rattle.dav_locks_core.specs.Stale.{is_stale, without_stale}
use Rattle.dav_locks_core.proofs.laws.ExclusiveLemmas.{Exclusive-push, Exclusive-filter, Exclusive-remove, Exclusive-refreshed}
use Rattle.dav_path_core.proofs.lists.EachLemmas.{all_filter, all_push, all_remove, all_set}
use Rattle.dav_path_core.proofs.lists.MemberLemmas.{In, In-Contains, Contains-In, all_in, append_none}
use Rattle.dav_path_core.proofs.lists.PlaceLemmas.{filter-remove, filter-set, filter-filter}
use Rattle.dav_locks_core.proofs.laws.StandInLemmas.{StandIn-trans, StandIn-push, StandIn-more, StandIn-filtered}
use Rattle.dav_locks_core.proofs.laws.CheckLemmas.{exclusive_held, any_lock_held, below_held}
use Rattle.dav_locks_core.proofs.laws.EndedLemmas.{LocksEnded-refl, LocksEnded-push, LocksEnded-remove, LocksEnded-filter, LocksEnded-set, LocksEnded-trans, IgnoresTimes, found_at}
use Rattle.dav_files_core.specs.Resources.{ResourceMap}
use Rattle.dav_files_core.specs.Finding.{place}
use Rattle.dav_guarded_core.specs.Requests.{Command, Request, Reply, Granted, Fs, Locked, NoLock, OutOfMemory, Answer}
use Rattle.dav_guarded_core.specs.Checks.{Check, caller_of, checks, is_reached, reach_check, shallow, member, refusing}
use Rattle.dav_guarded_core.specs.Step.{State, IsState, Same, conflicts_by, Effect, Serves, Step, start_of}
use Rattle.dav_guarded_core.specs.ResourceStep.{Does}
use Rattle.dav_guarded_core.specs.Naming.{names_as, names, unlocks, refreshes, touches}
use Rattle.dav_guarded_core.specs.Isolation.{StaysExclusive, EndsNamed, NewShown, Isolated, AnyIsolated}
use Rattle.dav_guarded_core.proofs.Frame.{framed}

pub Same-refl : (s : State) → Same s s
Same-refl s = record { map_is = refl; locks_are = refl; rng_is = refl }

-- equal part by part
pub Same-equal : (s s' : State) → Same s s' → s' ≡ s
Same-equal s s' h = rebuilt s' s.map s.locks s.rng h
  where
    rebuilt : (s' : State) (m : ResourceMap) (locks : List Lock) (g : Stream) → IsState s' m locks g → s' ≡ record { map = m; locks = locks; rng = g }
    rebuilt s' m locks g h = rw (sym h.map_is, sym h.locks_are, sym h.rng_is) refl

-- ---- a refusal leaves the state, and what is done met no conflict

-- the state is as before, or the command was done
abbrev pub Outcome : State → Request → Answer → State → Type 0
Outcome s r a s' = Same s s' ⊎ ((reply : Reply) × (a ≡ Ok reply) × (conflicts_by r.command s r ≡ []) × Effect r.command s r reply s')

pub outcome : (s s' : State) (r : Request) (a : Answer) → Serves s r a s' → Outcome s r a s'
outcome s s' r (Ok reply) h = inr (reply, refl, h.0, h.1)
outcome s s' r (Err (Fs e)) h = inl h.1
outcome s s' r (Err (Locked l)) h = inl h.1
outcome s s' r (Err NoLock) h = inl h.1
outcome s s' r (Err OutOfMemory) h = inl h.1

-- ---- exclusivity

effect_exclusive : (c : Command) (s s' : State) (r : Request) (reply : Reply) → conflicts_by c s r ≡ [] → Effect c s r reply s' → Exclusive s.locks → Exclusive s'.locks
effect_exclusive (Command.Lock path owner timeout shared deep) s s' r reply free e h = rw e.1.locks_are (Exclusive-push s.locks _ h free)
effect_exclusive (Command.Unlock path token) s s' r reply free e h = rw e.3.locks_are (Exclusive-remove s.locks e.0 h)
effect_exclusive (Command.Refresh path token timeout) s s' r reply free e h =
    rw e.5.locks_are (subst (λ l. Exclusive (set s.locks e.0 l)) (sym e.3) (Exclusive-refreshed s.locks e.0 r.now timeout e.1 h))
effect_exclusive (Command.Discover path) s s' r reply free e h = rw e.1.locks_are h
effect_exclusive (Command.Check path deep) s s' r reply free e h = rw e.1.locks_are h
effect_exclusive (Command.Remove path) s s' r reply free e h = rw e.1.locks_are (Exclusive-filter _ s.locks h)
effect_exclusive (Command.Move from to) s s' r reply free e h = rw e.1.locks_are (Exclusive-filter _ s.locks h)
effect_exclusive _ s s' r reply free e h = rw e.1.locks_are h

pub serves_exclusive : (s s' : State) (r : Request) (a : Answer) → Serves s r a s' → StaysExclusive s s'
serves_exclusive s s' r a h x = elim (outcome s s' r a h) [
  | inl same ↦ rw same.locks_are x
  | inr done ↦ effect_exclusive r.command s s' r done.0 done.2 done.3 x
]

-- ---- a lock that ends is named

-- what a deep check reaches and finds free is held
below_is_named : (s : State) (r : Request) (p : Path) (ks : List Check) → refusing s.locks (caller_of r) (reach_check p true ∷ ks) ≡ []
    → (l : Lock) → In l s.locks → not (is_at_or_below l p) ≡ false → names r l ≡ true
below_is_named s r p ks free l i gone =
    let none = (append_none (check_conflicts s.locks p true (caller_of r)) (refusing s.locks (caller_of r) ks) free).0 in
    or_left (names_as r l) (unlocks r.command l.token) (below_held s.locks p (caller_of r) none l i (not-false (is_at_or_below l p) gone))

below_named : (s : State) (r : Request) (p : Path) (ks : List Check) → refusing s.locks (caller_of r) (reach_check p true ∷ ks) ≡ []
    → LocksEnded (names r) s.locks (without_below p s.locks)
below_named s r p ks free = LocksEnded-filter (names r) (λ l. not (is_at_or_below l p)) s.locks (below_is_named s r p ks free)

effect_ends : (c : Command) (s s' : State) (r : Request) (reply : Reply) → r.command ≡ c → conflicts_by c s r ≡ [] → Effect c s r reply s' → LocksEnded (names r) s.locks s'.locks
effect_ends (Command.Lock path owner timeout shared deep) s s' r reply is free e = rw e.1.locks_are (LocksEnded-push (names r) s.locks _)
effect_ends (Command.Unlock path token) s s' r reply is free e = rw e.3.locks_are (LocksEnded-remove (names r) s.locks e.0 (λ d lt.
    let ended : Lock = get_or s.locks e.0 d in
    let here = found_at s.locks path token e.0 e.1 d in
    or_right (names_as r ended) (unlocks r.command ended.token) (subst (λ c. unlocks c ended.token ≡ true) (sym is) (and_parts _ _ here).0)))
effect_ends (Command.Refresh path token timeout) s s' r reply is free e =
    rw e.5.locks_are (LocksEnded-set (names r) s.locks e.0 e.1 r.now timeout e.3)
effect_ends (Command.Discover path) s s' r reply is free e = rw e.1.locks_are (LocksEnded-refl (names r) s.locks)
effect_ends (Command.Check path deep) s s' r reply is free e = rw e.1.locks_are (LocksEnded-refl (names r) s.locks)
effect_ends (Command.Remove path) s s' r reply is free e = rw e.1.locks_are (below_named s r path (shallow (parent path) ∷ []) free)
effect_ends (Command.Move from to) s s' r reply is free e = rw e.1.locks_are (below_named s r from (shallow (parent from) ∷ member to true) free)
effect_ends _ s s' r reply is free e = rw e.1.locks_are (LocksEnded-refl (names r) s.locks)

pub serves_ends : (s s' : State) (r : Request) (a : Answer) → Serves s r a s' → LocksEnded (names r) s.locks s'.locks
serves_ends s s' r a h = elim (outcome s s' r a h) [
  | inl same ↦ rw same.locks_are (LocksEnded-refl (names r) s.locks)
  | inr done ↦ effect_ends r.command s s' r done.0 refl done.2 done.3
]

-- ---- a lock that wasn't there is shown

effect_shows : (c : Command) (s s' : State) (r : Request) (reply : Reply) (P : Lock → Type 0) → ((l : Lock) → reply ≡ Granted l → P l) → Effect c s r reply s'
    → AllByRecursion P s.locks → AllByRecursion P s'.locks
effect_shows (Command.Lock path owner timeout shared deep) s s' r reply P granted e h = rw e.1.locks_are (all_push P s.locks _ h (granted _ e.0))
effect_shows (Command.Unlock path token) s s' r reply P granted e h = rw e.3.locks_are (all_remove P s.locks e.0 h)
effect_shows (Command.Refresh path token timeout) s s' r reply P granted e h = rw e.5.locks_are (all_set P s.locks e.0 e.1 e.1 (λ _. granted e.1 e.4) h)
effect_shows (Command.Discover path) s s' r reply P granted e h = rw e.1.locks_are h
effect_shows (Command.Check path deep) s s' r reply P granted e h = rw e.1.locks_are h
effect_shows (Command.Remove path) s s' r reply P granted e h = rw e.1.locks_are (all_filter P _ s.locks h)
effect_shows (Command.Move from to) s s' r reply P granted e h = rw e.1.locks_are (all_filter P _ s.locks h)
effect_shows _ s s' r reply P granted e h = rw e.1.locks_are h

pub step_shows : (s s' : State) (r : Request) (a : Answer) → Step s r a s' → NewShown s a s'
step_shows s s' r a h l i = all_in Known s'.locks l after (In-Contains s'.locks l i)
  where
    Known : Lock → Type 0
    Known l = Contains s.locks l ⊎ (a ≡ Ok (Granted l))

    own : (locks : List Lock) → ((l : Lock) → In l locks → Known l) → AllByRecursion Known locks
    own [] known = tt
    own (k ∷ locks) known = (known k (inl refl), own locks (λ l i. known l (inr i)))

    before : AllByRecursion Known (start_of r s).locks
    before = all_filter Known (λ l. not (is_stale r.now l)) s.locks (own s.locks (λ l i. inl (Contains-In s.locks l i)))

    after : AllByRecursion Known s'.locks
    after = elim (outcome (start_of r s) s' r a h) [
      | inl same ↦ rw same.locks_are before
      | inr done ↦ effect_shows r.command (start_of r s) s' r done.0 Known (λ l e. inr (done.1 ∙ ap Ok e)) done.3 before
    ]

-- ---- a lock that isn't named stands as it is

-- neither named nor refreshed
abbrev pub untouched : Request → Lock → Bool
untouched r l = not (names r l || refreshes r.command l.token)

unnamed_untouched : (r : Request) (l : Lock) → names r l ≡ true → untouched r l ≡ false
unnamed_untouched r l h = ap not (or_left (names r l) (refreshes r.command l.token) h)

-- what no test of a filter takes that lets the untouched stand
all_stand : (s : State) (r : Request) (keep : Lock → Bool) → ((l : Lock) → In l s.locks → keep l ≡ false → names r l ≡ true) → StandIn (filter (untouched r) s.locks) (filter keep s.locks)
all_stand s r keep h = by s.locks h
  where
    by : (locks : List Lock) → ((l : Lock) → In l locks → keep l ≡ false → names r l ≡ true) → StandIn (filter (untouched r) locks) (filter keep locks)
    by [] h = tt
    by (l ∷ locks) h =
        let rest = by locks (λ k i. h k (inr i)) in
        elim (keep l) as (λ b. keep l ≡ b → StandIn (filter (untouched r) (l ∷ locks)) (cond b (l ∷ filter keep locks) (filter keep locks))) [
          | true ↦ λ e. elim (untouched r l) as (λ b. StandIn (cond b (l ∷ filter (untouched r) locks) (filter (untouched r) locks)) (l ∷ filter keep locks)) [
            | true ↦ inl (refl, rest)
            | false ↦ StandIn-more (filter (untouched r) locks) (filter keep locks) l rest
          ]
          | false ↦ λ e. rw (unnamed_untouched r l (h l (inl refl) e)) rest
        ] refl

effect_stands : (c : Command) (s s' : State) (r : Request) (reply : Reply) → r.command ≡ c → conflicts_by c s r ≡ [] → Effect c s r reply s' → StandIn (filter (untouched r) s.locks) s'.locks
effect_stands (Command.Lock path owner timeout shared deep) s s' r reply is free e =
    rw e.1.locks_are (StandIn-trans (filter (untouched r) s.locks) s.locks _ (StandIn-filtered (untouched r) s.locks) (StandIn-push s.locks _))
effect_stands (Command.Unlock path token) s s' r reply is free e =
    let ended : (d : Lock) → names r (get_or s.locks e.0 d) ≡ true =
    λ d. or_right (names_as r (get_or s.locks e.0 d)) _ (subst (λ c. unlocks c (get_or s.locks e.0 d).token ≡ true) (sym is) (and_parts _ _ (found_at s.locks path token e.0 e.1 d)).0) in
    rw e.3.locks_are (subst (λ xs. StandIn xs (remove s.locks e.0)) (filter-remove (untouched r) s.locks e.0 (λ d lt. unnamed_untouched r (get_or s.locks e.0 d) (ended d)))
    (StandIn-filtered (untouched r) (remove s.locks e.0)))
effect_stands (Command.Refresh path token timeout) s s' r reply is free e =
    let touched : (l : Lock) → bytes_eq l.token token ≡ true → untouched r l ≡ false =
    λ l h. ap not (or_right (names r l) _ (subst (λ c. refreshes c l.token ≡ true) (sym is) h)) in
    let here : (d : Lock) → bytes_eq (get_or s.locks e.0 d).token token ≡ true = λ d. (and_parts _ _ (found_at s.locks path token e.0 e.2 d)).0 in
    let new : bytes_eq e.1.token token ≡ true = subst (λ (l : Lock). bytes_eq l.token token ≡ true) (sym e.3) (here e.1) in
    rw e.5.locks_are (subst (λ xs. StandIn xs (set s.locks e.0 e.1)) (filter-set (untouched r) s.locks e.0 e.1 (λ d lt. touched (get_or s.locks e.0 d) (here d)) (touched e.1 new))
    (StandIn-filtered (untouched r) (set s.locks e.0 e.1)))
effect_stands (Command.Discover path) s s' r reply is free e = rw e.1.locks_are (StandIn-filtered (untouched r) s.locks)
effect_stands (Command.Check path deep) s s' r reply is free e = rw e.1.locks_are (StandIn-filtered (untouched r) s.locks)
effect_stands (Command.Remove path) s s' r reply is free e =
    rw e.1.locks_are (all_stand s r (λ l. not (is_at_or_below l path)) (below_is_named s r path (shallow (parent path) ∷ []) free))
effect_stands (Command.Move from to) s s' r reply is free e =
    rw e.1.locks_are (all_stand s r (λ l. not (is_at_or_below l from)) (below_is_named s r from (shallow (parent from) ∷ member to true) free))
effect_stands _ s s' r reply is free e = rw e.1.locks_are (StandIn-filtered (untouched r) s.locks)

pub serves_stands : (s s' : State) (r : Request) (a : Answer) → Serves s r a s' → StandIn (filter (untouched r) s.locks) s'.locks
serves_stands s s' r a h = elim (outcome s s' r a h) [
  | inl same ↦ rw same.locks_are (StandIn-filtered (untouched r) s.locks)
  | inr done ↦ effect_stands r.command s s' r done.0 refl done.2 done.3
]

-- ---- isolation

-- the map is as before, or a command met no conflict and was done
abbrev pub Moves : Command → State → Request → State → Type 0
Moves c s r s' = (s'.map ≡ s.map) ⊎ ((refusing s.locks (caller_of r) (checks s.map c) ≡ []) × ((reply : Reply) × Does s.map c r.now (Ok reply) s'.map))

effect_moves : (c : Command) (s s' : State) (r : Request) (reply : Reply) → conflicts_by c s r ≡ [] → Effect c s r reply s' → Moves c s r s'
effect_moves (Command.Lock path owner timeout shared deep) s s' r reply free e = inl e.1.map_is
effect_moves (Command.Unlock path token) s s' r reply free e = inl e.3.map_is
effect_moves (Command.Refresh path token timeout) s s' r reply free e = inl e.5.map_is
effect_moves (Command.Discover path) s s' r reply free e = inl e.1.map_is
effect_moves (Command.Check path deep) s s' r reply free e = inl e.1.map_is
effect_moves _ s s' r reply free e = inr (free, (reply, e.0))

pub serves_moves : (s s' : State) (r : Request) (a : Answer) → Serves s r a s' → Moves r.command s r s'
serves_moves s s' r a h = elim (outcome s s' r a h) [
  | inl same ↦ inl same.map_is
  | inr done ↦ effect_moves r.command s s' r done.0 done.2 done.3
]

-- of checks that none refuses, the one that reaches a path finds no conflict
each_check : (locks : List Lock) (who : LockCaller) (ks : List Check) → refusing locks who ks ≡ [] → (p : Path) → list_any (λ k. is_reached k p) ks ≡ true
    → (k : Check) × (check_conflicts locks k.path k.deep who ≡ []) × (is_reached k p ≡ true)
each_check locks who [] none p h = absurd (false≢true h)
each_check locks who (k ∷ ks) none p h =
    let parts = append_none (check_conflicts locks k.path k.deep who) (refusing locks who ks) none in
    elim (cases_Bool (is_reached k p)) [
      | inl t ↦ (k, parts.0, t)
      | inr f ↦ each_check locks who ks parts.1 p (subst (λ b. (b || list_any (λ k. is_reached k p) ks) ≡ true) f h)
    ]

-- the place is as before, or a check that found no conflict reaches it
abbrev Reached : State → Request → State → Path → Type 0
Reached s r s' p = (place s'.map p ≡ place s.map p)
    ⊎ ((k : Check) × (check_conflicts s.locks k.path k.deep (caller_of r) ≡ []) × (is_reached k p ≡ true))

serves_reached : (s s' : State) (r : Request) (a : Answer) → Serves s r a s' → (p : Path) → Reached s r s' p
serves_reached s s' r a h p = elim (serves_moves s s' r a h) [
  | inl e ↦ inl (ap (λ m. place m p) e)
  | inr d ↦ elim (cases_Bool (list_any (λ k. is_reached k p) (checks s.map r.command))) [
    | inl t ↦ inr (each_check s.locks (caller_of r) (checks s.map r.command) d.0 p t)
    | inr f ↦ inl (framed s.map s'.map r.command r.now d.1.0 p d.1.1 f)
  ]
]

pub serves_isolated : (s s' : State) (r : Request) (a : Answer) → Serves s r a s' → Isolated s r s'
serves_isolated s s' r a h l i exclusive p covered = elim (serves_reached s s' r a h p) [
  | inl same ↦ inl same
  | inr k ↦ inr (exclusive_held s.locks k.0.path k.0.deep (caller_of r) k.1 l (In-Contains s.locks l i) exclusive p covered k.2)
]

pub serves_any_isolated : (s s' : State) (r : Request) (a : Answer) → Serves s r a s' → AnyIsolated s r s'
serves_any_isolated s s' r a h l i p covered = elim (serves_reached s s' r a h p) [
  | inl same ↦ inl same
  | inr k ↦ let m = any_lock_held s.locks k.0.path k.0.deep (caller_of r) k.1 l (In-Contains s.locks l i) p covered k.2 in
      inr (m.0, Contains-In s.locks m.0 m.1, m.2, m.3)
]

-- ---- a step, which first drops the locks whose end has come

names_ignores : (r : Request) → IgnoresTimes (names r)
names_ignores r a b same = ap (names r) same

pub step_exclusive : (s s' : State) (r : Request) (a : Answer) → Step s r a s' → StaysExclusive s s'
step_exclusive s s' r a h x = serves_exclusive (start_of r s) s' r a h (Exclusive-filter _ s.locks x)

pub step_ends : (s s' : State) (r : Request) (a : Answer) → Step s r a s' → EndsNamed s r s'
step_ends s s' r a h =
    LocksEnded-trans (is_stale r.now) (names r) (names_ignores r) s.locks (without_stale r.now s.locks) s'.locks
    (LocksEnded-filter (is_stale r.now) (λ l. not (is_stale r.now l)) s.locks (λ l i gone. not-false (is_stale r.now l) gone)) (serves_ends (start_of r s) s' r a h)

pub step_isolated : (s s' : State) (r : Request) (a : Answer) → Step s r a s' → Isolated (start_of r s) r s'
step_isolated s s' r a h = serves_isolated (start_of r s) s' r a h

pub step_any_isolated : (s s' : State) (r : Request) (a : Answer) → Step s r a s' → AnyIsolated (start_of r s) r s'
step_any_isolated s s' r a h = serves_any_isolated (start_of r s) s' r a h

pub not-or : (a b : Bool) → not (a || b) ≡ (not a && not b)
not-or true b = refl
not-or false b = refl

pub step_stands : (s s' : State) (r : Request) (a : Answer) → Step s r a s' → StandIn (filter (λ l. not (touches r l)) s.locks) s'.locks
step_stands s s' r a h =
    subst (λ xs. StandIn xs s'.locks) (filter-filter (untouched r) (λ l. not (is_stale r.now l)) s.locks ∙ filter_agree _ _ (λ l. sym (not-or (is_stale r.now l) _)) s.locks)
    (serves_stands (start_of r s) s' r a h)
