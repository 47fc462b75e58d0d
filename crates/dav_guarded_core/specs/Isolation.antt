-- What locks promise of a step, and of each step of a run (RFC 4918 sections 6 and 7). Isolation speaks of the state from which the
-- step starts.
use Rattle.std.specs.Prelude.{◌≡◌, ◌⊎◌, List, ◌∷◌, true, false, not, ◌||◌, filter, Ok, Contains}
use Rattle.dav_path_core.specs.Fronts.{Path, is_front}
use Rattle.dav_files_core.specs.Finding.{place}
use Rattle.dav_files_core.specs.Resources.{IsResourceMap}
use Rattle.dav_locks_core.specs.Lock.{Lock}
use Rattle.dav_locks_core.specs.Locks.{covers}
use Rattle.dav_locks_core.specs.Exclusive.{Exclusive}
use Rattle.dav_locks_core.specs.Ended.{LocksEnded, StandIn}
use Rattle.dav_locks_core.specs.Stale.{is_stale}
use Rattle.dav_guarded_core.specs.Requests.{Request, Granted, Answer}
use Rattle.dav_guarded_core.specs.Step.{State, Step, Run, start_of}
use Rattle.dav_guarded_core.specs.Naming.{names_as, names, touched_in}
use Rattle.dav_guarded_core.specs.Alone.{HoldersAlone}

-- ---- of a step

-- two locks that cover one path stay both shared
abbrev pub StaysExclusive : State → State → Type 0
StaysExclusive s s' = Exclusive s.locks → Exclusive s'.locks

-- a lock ends only where its moment has come or the request names it
abbrev pub EndsNamed : State → Request → State → Type 0
EndsNamed s r s' = LocksEnded (λ l. is_stale r.now l || names r l) s.locks s'.locks

-- each lock of the state after is one of the state before, as it was, or the one that the answer shows as granted
abbrev pub NewShown : State → Answer → State → Type 0
NewShown s a s' = (l : Lock) → Contains s'.locks l → Contains s.locks l ⊎ (a ≡ Ok (Granted l))

-- the place of a path that an exclusive lock covers is unchanged, or the request names that lock's token under its principal
abbrev pub Isolated : State → Request → State → Type 0
Isolated s r s' = (l : Lock) → Contains s.locks l → l.shared ≡ false → (p : Path) → covers l p ≡ true
    → (place s'.map p ≡ place s.map p) ⊎ (names_as r l ≡ true)

-- the request names a lock that covers a front of the path
abbrev pub NamesAbove : List Lock → Request → Path → Type 0
NamesAbove locks r p =
    (m : Lock) × Contains locks m × (names_as r m ≡ true) × ((q : Path) × (is_front q p ≡ true) × (covers m q ≡ true))

-- the place of a path that any lock covers is unchanged, or the request names a lock that covers a front of the path
abbrev pub AnyIsolated : State → Request → State → Type 0
AnyIsolated s r s' = (l : Lock) → Contains s.locks l → (p : Path) → covers l p ≡ true
    → (place s'.map p ≡ place s.map p) ⊎ NamesAbove s.locks r p

-- ---- of a run, by its requests alone

-- a path that an exclusive lock of the start covers keeps its place where no request touches that lock
abbrev pub UntouchedIsolated : State → List Request → State → Type 0
UntouchedIsolated s rs s' = (l : Lock) → Contains s.locks l → l.shared ≡ false → touched_in rs l ≡ false → (p : Path) → covers l p ≡ true
    → place s'.map p ≡ place s.map p

-- the locks of the start that no request touches stand unchanged at the end, in the same order
abbrev pub UntouchedStand : State → List Request → State → Type 0
UntouchedStand s rs s' = StandIn (filter (λ l. not (touched_in rs l)) s.locks) s'.locks

-- ---- of each step of a run

-- the law holds of each step of every chain that the run can be
abbrev pub EachStep : (State → Request → Answer → State → Type 0) → State → List Request → List Answer → State → Type 0
EachStep Law s (r ∷ rs) (a ∷ answers) s' =
    (mid : State) → Step s r a mid → Run mid rs answers s' → Law s r a mid × EachStep Law mid rs answers s'
EachStep Law s _ _ s' = Unit {0}

-- in each state two locks that cover one path are both shared
abbrev pub EachExclusive : State → List Request → List Answer → State → Type 0
EachExclusive = EachStep (λ s r a s'. Exclusive s'.locks)

-- each state has a resource map
abbrev pub EachShape : State → List Request → List Answer → State → Type 0
EachShape = EachStep (λ s r a s'. IsResourceMap s'.map)

abbrev pub EachEndsNamed : State → List Request → List Answer → State → Type 0
EachEndsNamed = EachStep (λ s r a s'. EndsNamed s r s')

abbrev pub EachNewShown : State → List Request → List Answer → State → Type 0
EachNewShown = EachStep (λ s r a s'. NewShown s a s')

abbrev pub EachIsolated : State → List Request → List Answer → State → Type 0
EachIsolated = EachStep (λ s r a s'. Isolated (start_of r s) r s')

abbrev pub EachAnyIsolated : State → List Request → List Answer → State → Type 0
EachAnyIsolated = EachStep (λ s r a s'. AnyIsolated (start_of r s) r s')

-- ---- all of it, of one run

-- what locks promise of a run: of each state, of each step, and from the start to the end
pub record KeepsLocks (s : State) (rs : List Request) (answers : List Answer) (s' : State) : Type 0 where
  pub exclusive : Exclusive s.locks × EachExclusive s rs answers s'
  pub isolated : EachIsolated s rs answers s'
  pub any_isolated : EachAnyIsolated s rs answers s'
  pub ends_named : EachEndsNamed s rs answers s'
  pub new_shown : EachNewShown s rs answers s'
  pub stand : UntouchedStand s rs s'
  pub kept : UntouchedIsolated s rs s'
  pub alone : HoldersAlone s rs answers
