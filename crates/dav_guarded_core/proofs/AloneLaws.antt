-- Requests under an exclusive deep lock are answered as if no others were there.
use Rattle.std.proofs.Common.{◌≡◌, inl, inr, ℕ, ◌≤◌, Bool, true, false, not, ◌||◌, List, [], ◌∷◌, ◌++◌, cond, is_some, Ok, Err, refl, sym, ap, ◌∙◌, subst, arith}
use Rattle.std.specs.Prelude.{Contains}
use Rattle.std.specs.List.{AllByRecursion}
use Rattle.std.proofs.lemmas.Bool.{and_from, and_parts, cases_Bool, false≢true, true≢false, false_from_ne_true, or_left, or_right}
use Rattle.std.proofs.lemmas.List.Elements.{filter_passes, recursion_from_All}
use Rattle.dav_path_core.specs.Fronts.{Path, is_front, is_same_path}
use Rattle.dav_path_core.proofs.paths.FrontLemmas.{is_front-refl, behind_append}
use Rattle.dav_files_core.specs.Resources.{at_path}
use Rattle.dav_files_core.specs.Below.{is_below, SameBelow, AgreeBelow}
use Rattle.dav_files_core.proofs.laws.AgreeingLemmas.{not_front}
use Rattle.dav_locks_core.specs.Lock.{Lock}
use Rattle.dav_locks_core.specs.Locks.{lock_path, covers, discovered_locks, is_at_or_below, without_below}
use Rattle.dav_locks_core.specs.Stale.{is_stale, without_stale}
use Rattle.dav_locks_core.specs.Exclusive.{Exclusive}
use Rattle.dav_path_core.proofs.lists.EachLemmas.{all_filter}
use Rattle.dav_path_core.proofs.lists.MemberLemmas.{In, In-Contains, Contains-In, In-filter}
use Rattle.dav_locks_core.proofs.laws.DiscoveredLemmas.{covers_alone, same_discovered}
use Rattle.dav_locks_core.proofs.laws.ExclusiveLemmas.{Exclusive-filter, held_above}
use Rattle.dav_locks_core.proofs.laws.StandInLemmas.{In-StandIn}
use Rattle.dav_guarded_core.specs.Requests.{Command, Request, Reply, Locks, Fs, Locked, NoLock, OutOfMemory, Answer}
use Rattle.dav_guarded_core.specs.Checks.{Check, caller_of, checks, has, refusing}
use Rattle.dav_guarded_core.specs.ResourceStep.{is_on_map, Does, MayLackOnMap, locks_left}
use Rattle.dav_guarded_core.specs.Naming.{names_as, names, unlocks, refreshes}
use Rattle.dav_guarded_core.specs.Step.{State, IsState, Same, conflicts, conflicts_by, FindsNone, MayLackMemory, Effect, Serves, start_of, Run}
use Rattle.dav_guarded_core.specs.Alone.{is_within, under, requests_under, answers_under, NamedUnder, LastsThrough, IsLetIn, with_next_number, RaisedRun, HasRunAlone, HoldersAlone}
use Rattle.dav_guarded_core.proofs.StepLaws.{Same-refl, Same-equal, outcome, untouched, serves_exclusive, serves_stands, serves_isolated, serves_moves}
use Rattle.dav_guarded_core.proofs.BelowLaws.{does_below, does_refused, checks_below, same_next, does_next}

-- ---- steps of a command within a folder

conflicts_within : (folder : Path) (c : Command) (s : State) (r : Request) → is_within folder c ≡ true → conflicts_by c s r ≡ refusing s.locks (caller_of r) (checks s.map c)
conflicts_within folder (Command.Lock path owner timeout shared deep) s r within = absurd (false≢true within)
conflicts_within folder _ s r within = refl

finds_within : (folder : Path) (c : Command) (locks : List Lock) → is_within folder c ≡ true → ¬ FindsNone c locks
finds_within folder (Command.Unlock path token) locks within h = false≢true within
finds_within folder (Command.Refresh path token timeout) locks within h = false≢true within
finds_within folder _ locks within h = h

-- what one on the map does where it meets no conflict
abbrev Done : Command → State → Request → Reply → State → Type 0
Done c s r reply s' = Does s.map c r.now (Ok reply) s'.map × IsState s' s'.map (locks_left c s.locks) s.rng

effect_on_map : (c : Command) (s s' : State) (r : Request) (reply : Reply) → is_on_map c ≡ true → Effect c s r reply s' ≡ Done c s r reply s'
effect_on_map (Command.Lock path owner timeout shared deep) s s' r reply on = absurd (false≢true on)
effect_on_map (Command.Unlock path token) s s' r reply on = absurd (false≢true on)
effect_on_map (Command.Refresh path token timeout) s s' r reply on = absurd (false≢true on)
effect_on_map (Command.Discover path) s s' r reply on = absurd (false≢true on)
effect_on_map (Command.Check path deep) s s' r reply on = absurd (false≢true on)
effect_on_map _ s s' r reply on = refl

serves_next : (s s' : State) (r : Request) (a : Answer) → Serves s r a s' → s.map.next ≤ s'.map.next
serves_next s s' r a h = elim (serves_moves s s' r a h) [
  | inl same ↦ same_next s.map s'.map same
  | inr done ↦ does_next s.map s'.map r.command r.now done.1.0 done.1.1
]

-- ---- an exclusive deep lock that stands
module _ (l : Lock) (own : l.shared ≡ false) (deep : l.deep ≡ true) where
  -- it is in an exclusive list
  record Stands (locks : List Lock) : Type 0 where
    exclusive : Exclusive locks
    lock : In l locks

  -- below it no check of its holder finds a conflict
  refusing_none : (locks : List Lock) (r : Request) → Stands locks → names_as r l ≡ true → (ks : List Check) → AllByRecursion (λ k. is_front (lock_path l) k.path ≡ true) ks
      → refusing locks (caller_of r) ks ≡ []
  refusing_none locks r st named [] h = refl
  refusing_none locks r st named (k ∷ ks) h =
      ap (λ xs. xs ++ refusing locks (caller_of r) ks) (held_above locks l k.path k.deep (caller_of r) st.exclusive st.lock own deep named h.0)
      ∙ refusing_none locks r st named ks h.1

  -- it stays where locks go that are at or below a path below it
  stands_apart : (p : Path) (locks : List Lock) → is_below (lock_path l) p ≡ true → Stands locks → Stands (without_below p locks)
  stands_apart p locks below st = record {
    exclusive = Exclusive-filter _ locks st.exclusive;
    lock = In-filter (λ k. not (is_at_or_below k p)) locks l st.lock (ap not (not_front (lock_path l) p below));
  }

  stands_left : (c : Command) (locks : List Lock) → is_within (lock_path l) c ≡ true → Stands locks → Stands (locks_left c locks)
  stands_left (Command.Remove path) locks below st = stands_apart path locks below st
  stands_left (Command.Move from to) locks below st = stands_apart from locks (and_parts (is_below (lock_path l) from) _ below).0 st
  stands_left _ locks below st = st

  -- and where those go whose end has come
  stands_lasting : (now : ℕ) (locks : List Lock) → is_stale now l ≡ false → Stands locks → Stands (without_stale now locks)
  stands_lasting now locks lasts st = record {
    exclusive = Exclusive-filter _ locks st.exclusive;
    lock = In-filter (λ k. not (is_stale now k)) locks l st.lock (ap not lasts);
  }

  -- ---- a request under the lock

  record IsUnder (r : Request) : Type 0 where
    named : names_as r l ≡ true
    within : is_within (lock_path l) r.command ≡ true

  is_under : (r : Request) → under r l ≡ true → IsUnder r
  is_under r h = let parts = and_parts (names_as r l) _ h in record { named = parts.0; within = parts.1 }

  -- it meets no conflict
  free_under : (s : State) (r : Request) → IsUnder r → Stands s.locks → refusing s.locks (caller_of r) (checks s.map r.command) ≡ []
  free_under s r u st = refusing_none s.locks r st u.named (checks s.map r.command) (checks_below (lock_path l) s.map r.command u.within)

  no_conflict : (s : State) (r : Request) → IsUnder r → Stands s.locks → conflicts s r ≡ []
  no_conflict s r u st = conflicts_within (lock_path l) r.command s r u.within ∙ free_under s r u st

  no_lock_shown : (s : State) (r : Request) (k : Lock) → IsUnder r → Stands s.locks → ¬ Contains (conflicts s r) k
  no_lock_shown s r k u st shown = In-Contains [] k (subst (λ locks. Contains locks k) (no_conflict s r u st) shown)

  -- what is discovered at or below its path is the lock alone
  discovers_same : (locks others : List Lock) (p : Path) → is_front (lock_path l) p ≡ true → Stands locks → Stands others → discovered_locks others p ≡ discovered_locks locks p
  discovers_same locks others p front st too =
      let here : covers l p ≡ true = or_right (is_same_path (lock_path l) p) _ (and_from l.deep (is_front (lock_path l) p) deep front) in
      same_discovered locks others p (covers_alone others l p too.exclusive too.lock own here ∙ sym (covers_alone locks l p st.exclusive st.lock own here))

  -- a command within the folder that is not on the map only tells, and tells the same of two lists in which the lock stands
  tells_too : (c : Command) (s s' t : State) (r : Request) (reply : Reply) → is_on_map c ≡ false → is_within (lock_path l) c ≡ true → Stands s.locks → Stands t.locks
      → Effect c s r reply s' → Effect c t r reply t × Same s s'
  tells_too (Command.Lock path owner timeout shared deep) s s' t r reply off within st too h = absurd (false≢true within)
  tells_too (Command.Unlock path token) s s' t r reply off within st too h = absurd (false≢true within)
  tells_too (Command.Refresh path token timeout) s s' t r reply off within st too h = absurd (false≢true within)
  tells_too (Command.Discover path) s s' t r reply off within st too h =
      ((h.0 ∙ ap Locks (sym (discovers_same s.locks t.locks path within st too)), Same-refl t), h.1)
  tells_too (Command.Check path deep) s s' t r reply off within st too h = ((h.0, Same-refl t), h.1)
  tells_too _ s s' t r reply off within st too h = absurd (true≢false off)

  -- out of memory comes in both as well
  lacks_too : (c : Command) (s t : State) (r : Request) → is_within (lock_path l) c ≡ true → refusing s.locks (caller_of r) (checks s.map c) ≡ [] → Stands s.locks → Stands t.locks
      → MayLackMemory c s r → MayLackMemory c t r
  lacks_too (Command.Lock path owner timeout shared deep) s t r within free st too h = absurd (false≢true within)
  lacks_too (Command.Unlock path token) s t r within free st too h = absurd (false≢true within)
  lacks_too (Command.Refresh path token timeout) s t r within free st too h = absurd (false≢true within)
  lacks_too (Command.Discover path) s t r within free st too h = λ e. h (sym (discovers_same s.locks t.locks path within st too) ∙ e)
  lacks_too _ s t r within free st too h = absurd (h free)

  stands_after : (s s' : State) (r : Request) (a : Answer) → IsUnder r → Serves s r a s' → Stands s.locks → Stands s'.locks
  stands_after s s' r a u h st = elim (outcome s s' r a h) [
    | inl same ↦ subst Stands (sym same.locks_are) st
    | inr done ↦ elim (cases_Bool (is_on_map r.command)) [
      | inl on ↦
          let left : Done r.command s r done.0 s' = subst (λ (T : Type 0). T) (effect_on_map r.command s s' r done.0 on) done.3 in
          subst Stands (sym left.1.locks_are) (stands_left r.command s.locks u.within st)
      | inr off ↦ let told = tells_too r.command s s' s r done.0 off u.within st st done.3 in subst Stands (sym told.1.locks_are) st
    ]
  ]

  -- so no answer to it shows a lock
  all_let_in : (s end : State) (rs : List Request) (answers : List Answer) → AllByRecursion (λ r. under r l ≡ true) rs → LastsThrough rs l → Stands s.locks → RaisedRun s rs answers end
      → AllByRecursion IsLetIn answers
  all_let_in s end [] [] all lasts st h = tt
  all_let_in s end [] (a ∷ answers) all lasts st h = absurd h
  all_let_in s end (r ∷ rs) [] all lasts st h = absurd h
  all_let_in s end (r ∷ rs) (a ∷ answers) all lasts st h =
      let u = is_under r all.0 in
      let from : State = start_of r (with_next_number s h.1.0) in
      let stands : Stands from.locks = stands_lasting r.now s.locks lasts.0.0 st in (
        λ k is. no_lock_shown from r k u stands (subst (λ a. Serves from r a h.0) is h.1.2).0,
        all_let_in h.0 end rs answers all.1 lasts.1 (stands_after from h.0 r a u h.1.2 stands) h.2,
      )

  -- two states that agree at and below its path, in both of which it stands
  record Lone (s t : State) : Type 0 where
    agree : AgreeBelow (lock_path l) s.map t.map
    here : Stands s.locks
    alone : Stands t.locks

  abbrev ServedToo : State → Request → Answer → State → Type 0
  ServedToo t r a s' = (t' : State) × Serves t r a t' × Lone s' t'

  refused_too : (s s' t : State) (r : Request) (a : Answer) → Lone s t → Same s s' → Serves t r a t → ServedToo t r a s'
  refused_too s s' t r a lone same h = (t, h, subst (λ s. Lone s t) (sym (Same-equal s s' same)) lone)

  -- so it is answered in the other state, too, and the states agree afterwards
  serves_lone : (s s' t : State) (r : Request) (a : Answer) → IsUnder r → Lone s t → Serves s r a s' → ServedToo t r a s'
  unfolding MayLackOnMap
  serves_lone s s' t r (Ok reply) u lone h = elim (cases_Bool (is_on_map r.command)) [
    | inl on ↦
        let c : Command = r.command in
        let done : Done c s r reply s' = subst (λ (T : Type 0). T) (effect_on_map c s s' r reply on) h.1 in
        let does = does_below (lock_path l) s.map t.map s'.map c r.now (Ok reply) lone.agree u.within done.0 in
        let t' : State = record { map = does.0; locks = locks_left c t.locks; rng = t.rng } in (
          t',
          (no_conflict t r u lone.alone, subst (λ (T : Type 0). T) (sym (effect_on_map c t t' r reply on)) (does.1, record { map_is = refl; locks_are = refl; rng_is = refl })),
          record {
            agree = does.2;
            here = stands_after s s' r (Ok reply) u h lone.here;
            alone = stands_left c t.locks u.within lone.alone;
          },
        )
    | inr off ↦
        let told = tells_too r.command s s' t r reply off u.within lone.here lone.alone h.1 in
        refused_too s s' t r (Ok reply) lone told.1 (no_conflict t r u lone.alone, told.0)
  ]
  serves_lone s s' t r (Err (Fs e)) u lone h = refused_too s s' t r (Err (Fs e)) lone h.1 (
    (
      h.0.0,
      no_conflict t r u lone.alone,
      elim h.0.2 [
        | inl full ↦
            inl (
              full.0,
              (
                full.1.0,
                elim full.1.1 [
                  | inl early ↦ inl early
                  | inr done ↦
                      let does = does_below (lock_path l) s.map t.map done.1 r.command r.now (Ok done.0) lone.agree u.within done.2 in
                      inr (done.0, does.0, does.1)
                ],
              ),
            )
        | inr refused ↦
            let does = does_below (lock_path l) s.map t.map s.map r.command r.now (Err e) lone.agree u.within refused in
            inr (subst (Does t.map r.command r.now (Err e)) (does_refused t.map does.0 r.command r.now e does.1) does.1)
      ],
    ),
    Same-refl t,
  )
  serves_lone s s' t r (Err (Locked k)) u lone h = absurd (no_lock_shown s r k u lone.here h.0)
  serves_lone s s' t r (Err NoLock) u lone h = absurd (finds_within (lock_path l) r.command s.locks u.within h.0)
  serves_lone s s' t r (Err OutOfMemory) u lone h =
      refused_too s s' t r (Err OutOfMemory) lone h.1 (lacks_too r.command s t r u.within (free_under s r u lone.here) lone.here lone.alone h.0, Same-refl t)

  -- ---- all requests

  -- the run alone is behind by numbers at most
  record Ahead (s t : State) : Type 0 where
    there : has s.map (lock_path l) ≡ true
    same : SameBelow (lock_path l) s.map t.map
    next : t.map.next ≤ s.map.next
    here : Stands s.locks
    alone : Stands t.locks

  caught_up : (s t : State) → Ahead s t → Lone s (with_next_number t s.map.next)
  caught_up s t ahead = record { agree = record { there = ahead.there; same = ahead.same; next = refl }; here = ahead.here; alone = ahead.alone }

  goes_on : (s t : State) → Lone s t → Ahead s t
  goes_on s t lone = let next = lone.agree.next in record { there = lone.agree.there; same = lone.agree.same; next = omega (arith, next); here = lone.here; alone = lone.alone }

  -- where those locks go whose end has come
  starts : (s t : State) (r : Request) → is_stale r.now l ≡ false → Ahead s t → Ahead (start_of r s) (start_of r t)
  starts s t r lasts ahead = record {
    there = ahead.there;
    same = ahead.same;
    next = ahead.next;
    here = stands_lasting r.now s.locks lasts ahead.here;
    alone = stands_lasting r.now t.locks lasts ahead.alone;
  }

  -- a request that neither names nor refreshes the lock changes nothing there
  others_leave : (s s' t : State) (r : Request) (a : Answer) → names r l ≡ false → refreshes r.command l.token ≡ false → Serves s r a s' → Ahead s t → Ahead s' t
  others_leave s s' t r a unnamed kept_time h ahead = record {
    there = ap is_some kept_itself ∙ ahead.there;
    same = λ p. ahead.same p ∙ sym (kept p);
    next = let grows = serves_next s s' r a h in let behind = ahead.next in omega (arith, grows, behind);
    here = record {
      exclusive = serves_exclusive s s' r a h ahead.here.exclusive;
      lock = In-StandIn l _ s'.locks (serves_stands s s' r a h) (In-filter (untouched r) s.locks l ahead.here.lock (ap not (or_none (names r l) _ unnamed kept_time)));
    };
    alone = ahead.alone;
  }
    where
      or_none : (a b : Bool) → a ≡ false → b ≡ false → (a || b) ≡ false
      or_none a b f g = ap (λ a. a || b) f ∙ g

      reached : (q : Path) → is_front (lock_path l) q ≡ true → at_path s'.map q ≡ at_path s.map q
      reached q front = elim (serves_isolated s s' r a h l (Contains-In s.locks l ahead.here.lock) own q
          (or_right (is_same_path (lock_path l) q) _ (and_from l.deep (is_front (lock_path l) q) deep front))) [
            | inl e ↦ ap (λ x. x.0) e
            | inr named ↦ absurd (false≢true (sym unnamed ∙ or_left (names_as r l) (unlocks r.command l.token) named))
          ]

      kept : (p : Path) → at_path s'.map (lock_path l ++ p) ≡ at_path s.map (lock_path l ++ p)
      kept p = reached (lock_path l ++ p) (ap is_some (behind_append (lock_path l) p))

      kept_itself : at_path s'.map (lock_path l) ≡ at_path s.map (lock_path l)
      kept_itself = reached (lock_path l) (is_front-refl (lock_path l))

  alone_run : (s t s' : State) (rs : List Request) (answers : List Answer) → Ahead s t → LastsThrough rs l → NamedUnder rs l → Run s rs answers s' → HasRunAlone t rs answers l
  alone_run s t s' [] [] ahead lasts only h = (t, Same-refl t)
  alone_run s t s' [] (a ∷ answers) ahead lasts only h = absurd h
  alone_run s t s' (r ∷ rs) [] ahead lasts only h = absurd h
  alone_run s t s' (r ∷ rs) (a ∷ answers) ahead lasts only h = elim (cases_Bool (under r l)) [
    | inl is ↦
        let from : State = start_of r s in
        let to : State = start_of r t in
        let lone : Lone from (with_next_number to from.map.next) = caught_up from to (starts s t r lasts.0.0 ahead) in
        let served = serves_lone from h.0 (with_next_number to from.map.next) r a (is_under r is) lone h.1 in
        let rest = alone_run h.0 served.0 s' rs answers (goes_on h.0 served.0 served.2) lasts.1 only.1 h.2 in
        subst (λ b. (end : State) × RaisedRun t (cond b (r ∷ requests_under l rs) (requests_under l rs)) (cond b (a ∷ answers_under l rs answers) (answers_under l rs answers)) end) (sym is)
        (rest.0, (served.0, (from.map.next, ahead.next, served.1), rest.1))
    | inr other ↦
        let free : names r l ≡ false = false_from_ne_true (names r l) (λ named. false≢true (sym other ∙ only.0 named)) in
        let from : Ahead (start_of r s) t = record { there = ahead.there; same = ahead.same; next = ahead.next; here = stands_lasting r.now s.locks lasts.0.0 ahead.here; alone = ahead.alone } in
        let rest = alone_run h.0 t s' rs answers (others_leave (start_of r s) h.0 t r a free lasts.0.1 h.1 from) lasts.1 only.1 h.2 in
        subst (λ b. (end : State) × RaisedRun t (cond b (r ∷ requests_under l rs) (requests_under l rs)) (cond b (a ∷ answers_under l rs answers) (answers_under l rs answers)) end) (sym other) rest
  ]

pub run_alone : (s s' : State) (rs : List Request) (answers : List Answer) → Exclusive s.locks → Run s rs answers s' → HoldersAlone s rs answers
run_alone s s' rs answers x h l i own deep there lasts only =
    let stands : Stands l own deep s.locks = record { exclusive = x; lock = In-Contains s.locks l i } in
    let ahead : Ahead l own deep s s = record { there = there; same = λ p. refl; next = omega arith; here = stands; alone = stands } in
    alone_run l own deep s s s' rs answers ahead lasts only h

-- such a run shows no lock to a request under the lock
pub alone_let_in : (s : State) (rs : List Request) (answers : List Answer) (l : Lock) → Exclusive s.locks → Contains s.locks l → l.shared ≡ false → l.deep ≡ true
    → LastsThrough rs l → HasRunAlone s rs answers l → AllByRecursion IsLetIn (answers_under l rs answers)
alone_let_in s rs answers l x i own deep lasts alone =
    all_let_in l own deep s alone.0 (requests_under l rs) (answers_under l rs answers)
    (recursion_from_All (λ r. under r l ≡ true) (requests_under l rs) (filter_passes (λ r. under r l) rs)) (all_filter _ (λ r. under r l) rs lasts)
    (record { exclusive = x; lock = In-Contains s.locks l i }) alone.1
