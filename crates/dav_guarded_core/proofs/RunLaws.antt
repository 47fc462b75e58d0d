-- What a run keeps, and how it goes on.
use Rattle.std.proofs.Common.{not, Bool, ◌≡◌, inl, inr, ℕ, ◌+◌, ◌<◌, List, [], ◌∷◌, ◌++◌, length, get_or, take, map, sym, ◌∙◌, ap, subst}
use Rattle.std.specs.Prelude.{filter}
use Rattle.std.proofs.lemmas.Bool.{or_left, or_parts, false≢true}
use Rattle.std.proofs.lemmas.List.Elements.{filter_agree}
use Rattle.std.proofs.lemmas.List.{take_more, map_push}
use Rattle.dav_files_core.specs.Finding.{place}
use Rattle.dav_files_core.specs.Resources.{IsResourceMap}
use Rattle.dav_locks_core.specs.Lock.{Lock}
use Rattle.dav_locks_core.specs.Ended.{StandIn}
use Rattle.dav_locks_core.specs.Stale.{is_stale}
use Rattle.dav_locks_core.specs.Exclusive.{Exclusive}
use Rattle.dav_path_core.proofs.lists.MemberLemmas.{In, In-Contains, Contains-In, In-filter}
use Rattle.dav_path_core.proofs.lists.PlaceLemmas.{filter-filter}
use Rattle.dav_locks_core.proofs.laws.StandInLemmas.{StandIn-trans, StandIn-filtered, StandIn-filter, In-StandIn}
use Rattle.dav_guarded_core.specs.Requests.{Request, Answer}
use Rattle.dav_guarded_core.specs.Step.{State, Serves, Step, Run, start_of}
use Rattle.dav_guarded_core.specs.Naming.{names_as, names, unlocks, touches, touched_in}
use Rattle.dav_guarded_core.specs.Isolation.{EndsNamed, NewShown, EachNewShown, Isolated, AnyIsolated, UntouchedStand, UntouchedIsolated, EachStep, EachExclusive, EachShape, EachEndsNamed, EachIsolated, EachAnyIsolated, KeepsLocks}
use Rattle.dav_guarded_core.proofs.AloneLaws.{run_alone}
use Rattle.dav_guarded_core.proofs.StepLaws.{Same-refl, Same-equal, step_exclusive, step_ends, step_shows, step_isolated, step_any_isolated, step_stands, serves_moves, not-or}
use Rattle.dav_guarded_core.proofs.BelowLaws.{does_grows}

-- ---- by each step

-- what holds of every step holds of each step of a run
pub each_step : (Law : State → Request → Answer → State → Type 0) → ((s s' : State) (r : Request) (a : Answer) → Step s r a s' → Law s r a s')
    → (s s' : State) (rs : List Request) (answers : List Answer) → EachStep Law s rs answers s'
each_step Law law s s' [] answers = tt
each_step Law law s s' (r ∷ rs) [] = tt
each_step Law law s s' (r ∷ rs) (a ∷ answers) = λ mid step rest. (law s mid r a step, each_step Law law mid s' rs answers)

pub each_exclusive : (s s' : State) (rs : List Request) (answers : List Answer) → Exclusive s.locks → EachExclusive s rs answers s'
each_exclusive s s' [] answers x = tt
each_exclusive s s' (r ∷ rs) [] x = tt
each_exclusive s s' (r ∷ rs) (a ∷ answers) x = λ mid step rest.
    let y : Exclusive mid.locks = step_exclusive s mid r a step x in
    (y, each_exclusive mid s' rs answers y)

-- ---- the map's shape

serves_shape : (s s' : State) (r : Request) (a : Answer) → Serves s r a s' → IsResourceMap s.map → IsResourceMap s'.map
serves_shape s s' r a h is_map = elim (serves_moves s s' r a h) [
  | inl same ↦ subst IsResourceMap (sym same) is_map
  | inr done ↦ (does_grows s.map s'.map r.command r.now done.1.0 done.1.1).shape is_map
]

pub each_shape : (s s' : State) (rs : List Request) (answers : List Answer) → IsResourceMap s.map → EachShape s rs answers s'
each_shape s s' [] answers is_map = tt
each_shape s s' (r ∷ rs) [] is_map = tt
each_shape s s' (r ∷ rs) (a ∷ answers) is_map = λ mid step rest.
    let next : IsResourceMap mid.map = serves_shape (start_of r s) mid r a step is_map in
    (next, each_shape mid s' rs answers next)

pub run_shape : (s s' : State) (rs : List Request) (answers : List Answer) → IsResourceMap s.map → Run s rs answers s' → IsResourceMap s'.map
run_shape s s' [] [] is_map h = subst IsResourceMap (sym h.map_is) is_map
run_shape s s' [] (a ∷ answers) is_map h = absurd h
run_shape s s' (r ∷ rs) [] is_map h = absurd h
run_shape s s' (r ∷ rs) (a ∷ answers) is_map h = run_shape h.0 s' rs answers (serves_shape (start_of r s) h.0 r a h.1 is_map) h.2

-- ---- what a lock's end takes

pub each_ends_named : (s s' : State) (rs : List Request) (answers : List Answer) → EachEndsNamed s rs answers s'
each_ends_named = each_step (λ s r a s'. EndsNamed s r s') step_ends

pub each_new_shown : (s s' : State) (rs : List Request) (answers : List Answer) → EachNewShown s rs answers s'
each_new_shown = each_step (λ s r a s'. NewShown s a s') step_shows

-- ---- from the start to the end

pub run_stand : (s s' : State) (rs : List Request) (answers : List Answer) → Run s rs answers s' → UntouchedStand s rs s'
run_stand s s' [] [] h = rw h.locks_are (StandIn-filtered (λ l. not (touched_in [] l)) s.locks)
run_stand s s' [] (a ∷ answers) h = absurd h
run_stand s s' (r ∷ rs) [] h = absurd h
run_stand s s' (r ∷ rs) (a ∷ answers) h =
    let rest : Lock → Bool = λ l. not (touched_in rs l) in
    let first : filter rest (filter (λ l. not (touches r l)) s.locks) ≡ filter (λ l. not (touched_in (r ∷ rs) l)) s.locks =
    filter-filter rest (λ l. not (touches r l)) s.locks ∙ filter_agree _ _ (λ l. sym (not-or (touches r l) (touched_in rs l))) s.locks in
    subst (λ xs. StandIn xs s'.locks) first
    (StandIn-trans _ (filter rest h.0.locks) s'.locks (StandIn-filter rest _ h.0.locks (step_stands s h.0 r a h.1)) (run_stand h.0 s' rs answers h.2))

pub each_isolated : (s s' : State) (rs : List Request) (answers : List Answer) → EachIsolated s rs answers s'
each_isolated = each_step (λ s r a s'. Isolated (start_of r s) r s') step_isolated

pub each_any_isolated : (s s' : State) (rs : List Request) (answers : List Answer) → EachAnyIsolated s rs answers s'
each_any_isolated = each_step (λ s r a s'. AnyIsolated (start_of r s) r s') step_any_isolated

pub run_isolated : (s s' : State) (rs : List Request) (answers : List Answer) → Run s rs answers s' → UntouchedIsolated s rs s'
run_isolated s s' [] [] h l i exclusive free p covered = ap (λ m. place m p) h.map_is
run_isolated s s' [] (a ∷ answers) h l i exclusive free p covered = absurd h
run_isolated s s' (r ∷ rs) [] h l i exclusive free p covered = absurd h
run_isolated s s' (r ∷ rs) (a ∷ answers) h l i exclusive free p covered =
    let parts = or_parts (touches r l) (touched_in rs l) free in
    let apart = or_parts (is_stale r.now l) _ parts.0 in
    let unnamed = or_parts (names r l) _ apart.1 in
    let here : In l s.locks = In-Contains s.locks l i in
    let stands : In l h.0.locks = In-StandIn l _ h.0.locks (step_stands s h.0 r a h.1) (In-filter _ s.locks l here (ap not parts.0)) in
    let starts : In l (start_of r s).locks = In-filter _ s.locks l here (ap not apart.0) in
    elim (step_isolated s h.0 r a h.1 l (Contains-In (start_of r s).locks l starts) exclusive p covered) [
      | inl e ↦ run_isolated h.0 s' rs answers h.2 l (Contains-In h.0.locks l stands) exclusive parts.1 p covered ∙ e
      | inr named ↦ absurd (false≢true (sym unnamed.0 ∙ or_left (names_as r l) (unlocks r.command l.token) named))
    ]

-- all of it, from an exclusive start
pub keeps_locks : (s s' : State) (rs : List Request) (answers : List Answer) → Exclusive s.locks → Run s rs answers s' → KeepsLocks s rs answers s'
keeps_locks s s' rs answers x h = record {
  exclusive = (x, each_exclusive s s' rs answers x);
  isolated = each_isolated s s' rs answers;
  any_isolated = each_any_isolated s s' rs answers;
  ends_named = each_ends_named s s' rs answers;
  new_shown = each_new_shown s s' rs answers;
  stand = run_stand s s' rs answers h;
  kept = run_isolated s s' rs answers h;
  alone = run_alone s s' rs answers x h;
}

-- ---- a run goes on

-- by another run
pub run_join : (s mid s' : State) (rs more : List Request) (answers others : List Answer)
    → Run s rs answers mid → Run mid more others s' → Run s (rs ++ more) (answers ++ others) s'
run_join s mid s' [] more [] others h k = subst (λ m. Run m more others s') (Same-equal s mid h) k
run_join s mid s' [] more (b ∷ answers) others h k = absurd h
run_join s mid s' (q ∷ rs) more [] others h k = absurd h
run_join s mid s' (q ∷ rs) more (b ∷ answers) others h k = (h.0, h.1, run_join h.0 mid s' rs more answers others h.2 k)

-- a step is a run of one request
pub run_one : (s s' : State) (r : Request) (a : Answer) → Step s r a s' → Run s (r ∷ []) (a ∷ []) s'
run_one s s' r a h = (s', h, Same-refl s')

-- by one step
pub run_more : (s mid s' : State) (rs : List Request) (answers : List Answer) (r : Request) (a : Answer)
    → Run s rs answers mid → Step mid r a s' → Run s (rs ++ (r ∷ [])) (answers ++ (a ∷ [])) s'
run_more s mid s' rs answers r a h k = run_join s mid s' rs (r ∷ []) answers (a ∷ []) h (run_one mid s' r a k)

-- a loop over requests and their answers, each seen as plain data
pub run_on : {A B : Type 0} (request_of : A → Request) (answer_of : B → Answer) (s mid s' : State) (rs : List A) (i : ℕ) (answers new : List B) (r : A) (a : B)
    → i < length rs → r ≡ get_or rs i r → new ≡ answers ++ (a ∷ [])
    → Run s (map request_of (take i rs)) (map answer_of answers) mid → Step mid (request_of r) (answer_of a) s'
    → Run s (map request_of (take (i + 1) rs)) (map answer_of new) s'
run_on request_of answer_of s mid s' rs i answers new r a lt item added h k =
    let asked : map request_of (take (i + 1) rs) ≡ map request_of (take i rs) ++ (request_of r ∷ []) =
    ap (map request_of) (take_more rs i r lt) ∙ map_push request_of (take i rs) (get_or rs i r) ∙ ap (λ q. map request_of (take i rs) ++ (request_of q ∷ [])) (sym item) in
    let told : map answer_of new ≡ map answer_of answers ++ (answer_of a ∷ []) = ap (map answer_of) added ∙ map_push answer_of answers a in
    rw (asked, told) (run_more s mid s' (map request_of (take i rs)) (map answer_of answers) (request_of r) (answer_of a) h k)
