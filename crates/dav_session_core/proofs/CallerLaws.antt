-- Runs of one caller's requests: how they go on, and what locks promise of them.
use Rattle.std.proofs.Common.{not, ℕ, Bool, true, false, ◌||◌, ◌&&◌, ◌≡◌, ◌⊎◌, inl, inr, Option, List, [], ◌∷◌, ◌++◌, map, refl, sym, ◌∙◌, ap, subst}
use Rattle.std.specs.Prelude.{Contains, filter}
use Rattle.std.specs.List.{list_any}
use Rattle.std.proofs.lemmas.Bool.{cases_Bool, or_parts, not-true, true≢false}
use Rattle.std.proofs.lemmas.List.Elements.{filter_agree}
use Rattle.dav_path_core.proofs.lists.PlaceLemmas.{filter-filter}
use Rattle.dav_path_core.specs.Fronts.{Path}
use Rattle.dav_path_core.specs.PathText.{PathText}
use Rattle.dav_path_core.proofs.lists.MemberLemmas.{In, In-Contains, Contains-In, In-filter}
use Rattle.dav_path_core.proofs.paths.FrontLemmas.{is_front-refl}
use Rattle.dav_files_core.specs.Finding.{place}
use Rattle.dav_files_core.specs.Resources.{IsResourceMap}
use Rattle.dav_locks_core.specs.Ended.{StandIn}
use Rattle.dav_locks_core.specs.Exclusive.{Exclusive}
use Rattle.dav_locks_core.specs.Lock.{Lock}
use Rattle.dav_locks_core.specs.Locks.{covers, is_at_or_below}
use Rattle.dav_locks_core.specs.Stale.{is_stale}
use Rattle.dav_locks_core.proofs.laws.StandInLemmas.{In-StandIn, StandIn-trans, StandIn-filtered}
use Rattle.dav_guarded_core.specs.Naming.{unlocks, refreshes, touched_in, touches}
use Rattle.dav_guarded_core.specs.Requests.{Command, Request, Reply, Answer}
use Rattle.dav_guarded_core.specs.Step.{Effect, State, Step, Run, start_of}
use Rattle.dav_guarded_core.proofs.RunLaws.{keeps_locks, run_join, run_shape}
use Rattle.dav_guarded_core.proofs.StepLaws.{Same-refl, outcome, step_any_isolated, step_exclusive, step_stands}
use Rattle.dav_session_core.proofs.AnewLemmas.{of_filter}
use Rattle.dav_session_core.specs.Callers.{Asks, Caller, HoldsAbove, RunBy, Runs, KeepsApart, asking, changes_locks, holds}

-- ---- runs that go on

pub by_none : (who : Caller) (s : State) → RunBy who s s
by_none who s = record { commands = []; answers = []; run = Same-refl s; keeps = refl }

pub by_step : (who : Caller) (s mid s' : State) (c : Command) (a : Answer) → changes_locks c ≡ false
    → Step s (asking who c) a mid → RunBy who mid s'
    → RunBy who s s'
by_step who s mid s' c a keeps step rest = record {
  commands = c ∷ rest.commands;
  answers = a ∷ rest.answers;
  run = (mid, step, rest.run);
  keeps = rw keeps rest.keeps;
}

pub by_one : (who : Caller) (s s' : State) (c : Command) (a : Answer) → changes_locks c ≡ false
    → Step s (asking who c) a s' → RunBy who s s'
by_one who s s' c a keeps step = by_step who s s' s' c a keeps step (by_none who s')

-- ---- what no request touches

-- a command that changes no locks touches none by its token
untouching : (c : Command) (token : List ℕ) → changes_locks c ≡ false
    → (unlocks c token ≡ false) × (refreshes c token ≡ false)
untouching (Command.Unlock path ended) token keeps = (absurd (true≢false keeps), absurd (true≢false keeps))
untouching (Command.Refresh path ended timeout) token keeps = (absurd (true≢false keeps), absurd (true≢false keeps))
untouching _ token keeps = (refl, refl)

free_of : (who : Caller) (l : Lock) (cs : List Command) → list_any changes_locks cs ≡ false
    → is_stale who.now l ≡ false → holds who l ≡ false
    → touched_in (map (asking who) cs) l ≡ false
free_of who l [] keeps lasts other = refl
free_of who l (c ∷ cs) keeps lasts other =
    let parts = or_parts (changes_locks c) (list_any changes_locks cs) keeps in
    let apart = untouching c l.token parts.0 in
    rw (lasts, other, apart.0, apart.1) (free_of who l cs parts.1 lasts other)

-- ---- what no request brings

-- a command that changes no locks leaves those that stood, or some of them
brings_none : (c : Command) (s s' : State) (r : Request) (reply : Reply) → changes_locks c ≡ false
    → Effect c s r reply s' → (m : Lock) → In m s'.locks → In m s.locks
brings_none (Command.Lock path owner timeout shared deep) s s' r reply keeps e m i =
    absurd (true≢false keeps)
brings_none (Command.Unlock path token) s s' r reply keeps e m i = absurd (true≢false keeps)
brings_none (Command.Refresh path token timeout) s s' r reply keeps e m i = absurd (true≢false keeps)
brings_none (Command.Discover path) s s' r reply keeps e m i = subst (In m) e.1.locks_are i
brings_none (Command.Check path deep) s s' r reply keeps e m i = subst (In m) e.1.locks_are i
brings_none (Command.Remove path) s s' r reply keeps e m i =
    (of_filter (λ l. not (is_at_or_below l path)) s.locks m (subst (In m) e.1.locks_are i)).0
brings_none (Command.Move from to) s s' r reply keeps e m i =
    (of_filter (λ l. not (is_at_or_below l from)) s.locks m (subst (In m) e.1.locks_are i)).0
brings_none _ s s' r reply keeps e m i = subst (In m) e.1.locks_are i

stood_before : (who : Caller) (s mid : State) (c : Command) (a : Answer) → changes_locks c ≡ false
    → Step s (asking who c) a mid → (m : Lock) → In m mid.locks → In m s.locks
stood_before who s mid c a keeps h m i =
    (of_filter (λ l. not (is_stale who.now l)) s.locks m (elim (outcome (start_of (asking who c) s) mid (asking who c) a h) [
      | inl same ↦ subst (In m) same.locks_are i
      | inr done ↦ brings_none c (start_of (asking who c) s) mid (asking who c) done.0 keeps done.3 m i
    ])).0

-- ---- what locks promise

and_under : (q p : Bool) → (p ≡ true → q ≡ true) → (q && p) ≡ p
and_under true p h = refl
and_under false true h = h refl
and_under false false h = refl

run_exclusive : (s s' : State) (rs : List Request) (answers : List Answer) → Exclusive s.locks → Run s rs answers s' → Exclusive s'.locks
run_exclusive s s' [] [] x h = subst Exclusive (sym h.locks_are) x
run_exclusive s s' [] (a ∷ answers) x h = absurd h
run_exclusive s s' (r ∷ rs) [] x h = absurd h
run_exclusive s s' (r ∷ rs) (a ∷ answers) x h = run_exclusive h.0 s' rs answers (step_exclusive s h.0 r a h.1 x) h.2

pub asks_of : (who : Caller) (s s' : State) → RunBy who s s' → Asks who s s'
asks_of who s s' h = record { commands = h.commands; answers = h.answers; run = h.run }

pub runs_of : (who : Caller) (s s' : State) → Asks who s s' → Runs s s'
runs_of who s s' h = record { requests = map (asking who) h.commands; answers = h.answers; run = h.run }

pub runs_by : (who : Caller) (s s' : State) → RunBy who s s' → Runs s s'
runs_by who s s' h = record { requests = map (asking who) h.commands; answers = h.answers; run = h.run }

pub no_runs : (s : State) → Runs s s
no_runs s = record { requests = []; answers = []; run = Same-refl s }

pub runs_join : (s mid s' : State) → Runs s mid → Runs mid s' → Runs s s'
runs_join s mid s' h k = record {
  requests = h.requests ++ k.requests;
  answers = h.answers ++ k.answers;
  run = run_join s mid s' h.requests k.requests h.answers k.answers h.run k.run;
}

pub runs_exclusive : (s s' : State) → Runs s s' → Exclusive s.locks → Exclusive s'.locks
runs_exclusive s s' h x = run_exclusive s s' h.requests h.answers x h.run

pub runs_shape : (s s' : State) → Runs s s' → IsResourceMap s.map → IsResourceMap s'.map
runs_shape s s' h is_map = run_shape s s' h.requests h.answers is_map h.run

pub asks_shape : (who : Caller) (s s' : State) → Asks who s s' → IsResourceMap s.map → IsResourceMap s'.map
asks_shape who s s' h is_map = run_shape s s' (map (asking who) h.commands) h.answers is_map h.run

-- a lock that lasts and is not held is touched by no request
untouched_of : (who : Caller) (l : Lock) (cs : List Command) → list_any changes_locks cs ≡ false
    → not (is_stale who.now l || holds who l) ≡ true
    → not (touched_in (map (asking who) cs) l) ≡ true
untouched_of who l cs keeps apart =
    let parts = or_parts (is_stale who.now l) (holds who l) (not-true _ apart) in
    ap not (free_of who l cs keeps parts.0 parts.1)

-- a lock that lasts and is not held stands behind a step as it was
stands_behind : (who : Caller) (s mid : State) (c : Command) (a : Answer) → changes_locks c ≡ false
    → Step s (asking who c) a mid → (l : Lock) → In l s.locks
    → is_stale who.now l ≡ false → holds who l ≡ false → In l mid.locks
stands_behind who s mid c a keeps h l i lasts other =
    let apart = untouching c l.token keeps in
    let free : touches (asking who c) l ≡ false = rw (lasts, other, apart.0, apart.1) refl in
    In-StandIn l _ mid.locks (step_stands s mid (asking who c) a h) (In-filter (λ l. not (touches (asking who c) l)) s.locks l i (ap not free))

held_before : (who : Caller) (s mid : State) (c : Command) (a : Answer) → changes_locks c ≡ false
    → Step s (asking who c) a mid → (p : Path) → HoldsAbove who mid.locks p
    → HoldsAbove who s.locks p
held_before who s mid c a keeps h p above = record {
  lock = above.lock;
  stood = Contains-In s.locks above.lock (stood_before who s mid c a keeps h above.lock (In-Contains mid.locks above.lock above.stood));
  lasts = above.lasts;
  held = above.held;
  front = above.front;
  is_above = above.is_above;
  covered = above.covered;
}

-- a path under a lock that lasts and is not held is as it was, or another at it or above is
under_any : (who : Caller) (l : Lock) (p : Path) (s s' : State) (cs : List Command) (answers : List Answer)
    → list_any changes_locks cs ≡ false → Run s (map (asking who) cs) answers s'
    → In l s.locks → is_stale who.now l ≡ false → holds who l ≡ false → covers l p ≡ true
    → (place s'.map p ≡ place s.map p) ⊎ HoldsAbove who s.locks p
under_any who l p s s' [] [] keeps h i lasts other covered = inl (ap (λ m. place m p) h.map_is)
under_any who l p s s' [] (a ∷ answers) keeps h i lasts other covered = absurd h
under_any who l p s s' (c ∷ cs) [] keeps h i lasts other covered = absurd h
under_any who l p s s' (c ∷ cs) (a ∷ answers) keeps h i lasts other covered =
    let parts = or_parts (changes_locks c) (list_any changes_locks cs) keeps in
    let live = (start_of (asking who c) s).locks in
    let here = In-filter (λ l. not (is_stale who.now l)) s.locks l i (ap not lasts) in
    elim (step_any_isolated s h.0 (asking who c) a h.1 l (Contains-In live l here) p covered) [
      | inr m ↦
          let stood = of_filter (λ l. not (is_stale who.now l)) s.locks m.0 (In-Contains live m.0 m.1) in
          inr (record {
            lock = m.0;
            stood = Contains-In s.locks m.0 stood.0;
            lasts = not-true (is_stale who.now m.0) stood.1;
            held = m.2;
            front = m.3.0;
            is_above = m.3.1;
            covered = m.3.2;
          })
      | inl same ↦ elim (under_any who l p h.0 s' cs answers parts.1 h.2 (stands_behind who s h.0 c a parts.0 h.1 l i lasts other) lasts other covered) [
        | inl later ↦ inl (later ∙ same)
        | inr above ↦ inr (held_before who s h.0 c a parts.0 h.1 p above)
      ]
    ]

-- and so it is under one that is held
pub kept_under_any : (who : Caller) (s s' : State) → RunBy who s s' → (l : Lock)
    → Contains s.locks l → is_stale who.now l ≡ false → (p : Path) → covers l p ≡ true
    → (place s'.map p ≡ place s.map p) ⊎ HoldsAbove who s.locks p
kept_under_any who s s' h l i lasts p covered = elim (cases_Bool (holds who l)) [
  | inl named ↦ inr (record {
    lock = l;
    stood = i;
    lasts = lasts;
    held = named;
    front = p;
    is_above = is_front-refl p;
    covered = covered;
  })
  | inr other ↦ under_any who l p s s' h.commands h.answers h.keeps h.run (In-Contains s.locks l i) lasts other covered
]

pub keeps_apart : (who : Caller) (s s' : State) → Exclusive s.locks → RunBy who s s' → KeepsApart who s s'
keeps_apart who s s' x h =
    let rs = map (asking who) h.commands in
    let keep : Lock → Bool = λ l. not (is_stale who.now l || holds who l) in
    let all = keeps_locks s s' rs h.answers x h.run in
    record {
      exclusive = run_exclusive s s' rs h.answers x h.run;
      isolated = λ l i exclusive lasts p covered. elim (cases_Bool (holds who l)) [
        | inl named ↦ inr named
        | inr other ↦ inl (all.kept l i exclusive (free_of who l h.commands h.keeps lasts other) p covered)
      ];
      any_isolated = kept_under_any who s s' h;
      stand = subst (λ xs. StandIn xs s'.locks)
          (filter-filter keep (λ l. not (touched_in rs l)) s.locks ∙ filter_agree _ _ (λ l. and_under (not (touched_in rs l)) (keep l) (untouched_of who l h.commands h.keeps)) s.locks)
          (StandIn-trans _ _ s'.locks (StandIn-filtered keep (filter (λ l. not (touched_in rs l)) s.locks)) all.stand);
      shape = λ is_map. run_shape s s' rs h.answers is_map h.run;
    }

-- a grant is as good as such a run
grant_touches : (who : Caller) (path : PathText) (owner : Option (List ℕ)) (timeout : Option ℕ) (shared deep : Bool) (l : Lock)
    → not (touches (asking who (Command.Lock path owner timeout shared deep)) l) ≡ not (is_stale who.now l || holds who l)
grant_touches who path owner timeout shared deep l = by (is_stale who.now l) (holds who l)
  where
    by : (stale held : Bool) → not (stale || ((held || false) || false)) ≡ not (stale || held)
    by true held = refl
    by false true = refl
    by false false = refl

pub grant_apart : (who : Caller) (path : PathText) (owner : Option (List ℕ)) (timeout : Option ℕ) (shared deep : Bool) (s s' : State) (a : Answer)
    → Exclusive s.locks
    → Step s (asking who (Command.Lock path owner timeout shared deep)) a s' → KeepsApart who s s'
grant_apart who path owner timeout shared deep s s' a x h =
    let r = asking who (Command.Lock path owner timeout shared deep) in
    let same : s'.map ≡ s.map = elim (outcome (start_of r s) s' r a h) [ inl same ↦ same.map_is | inr done ↦ done.3.1.map_is ] in
    record {
      exclusive = step_exclusive s s' r a h x;
      isolated = λ l i exclusive lasts p covered. inl (ap (λ m. place m p) same);
      any_isolated = λ l i lasts p covered. inl (ap (λ m. place m p) same);
      stand = subst (λ xs. StandIn xs s'.locks) (filter_agree _ _ (grant_touches who path owner timeout shared deep) s.locks) (step_stands s s' r a h);
      shape = subst IsResourceMap (sym same);
    }
