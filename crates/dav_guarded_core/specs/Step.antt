-- A step and a run of requests, over a resource map, a list of locks and what a generator still gives.
use Rattle.std.specs.Prelude.{◌≡◌, ◌≢◌, ◌⊎◌, ℕ, List, [], ◌∷◌, ◌++◌, true, Some, None, Ok, Err, Contains, remove, set, get_or, is_some}
use Rattle.rand_core.specs.Stream.{Stream}
use Rattle.dav_path_core.specs.declared.errors.FsError.TheVariants.{InsufficientStorage}
use Rattle.dav_path_core.specs.Segments.{segments}
use Rattle.dav_files_core.specs.Resources.{ResourceMap}
use Rattle.dav_locks_core.specs.Lock.{Lock}
use Rattle.dav_locks_core.specs.Locks.{lock_conflicts, found_token, refreshed_lock, discovered_locks}
use Rattle.dav_locks_core.specs.Stale.{without_stale}
use Rattle.dav_locks_core.specs.Tokens.{token_from}
use Rattle.dav_locks_core.specs.NewLock.{new_lock}
use Rattle.dav_guarded_core.specs.Requests.{Command, Request, Reply, Done, Granted, Locks, Fs, Locked, NoLock, OutOfMemory, Answer}
use Rattle.dav_guarded_core.specs.Checks.{caller_of, checks, refusing, MayLack}
use Rattle.dav_guarded_core.specs.ResourceStep.{is_on_map, Does, MayLackOnMap, locks_left}

-- the map, the locks, and what the generator still gives
pub record State : Type 0 where
  pub map : ResourceMap
  pub locks : List Lock
  pub rng : Stream

-- what a state is, part by part
pub record IsState (s : State) (map : ResourceMap) (locks : List Lock) (rng : Stream) : Type 0 where
  pub map_is : s.map ≡ map
  pub locks_are : s.locks ≡ locks
  pub rng_is : s.rng ≡ rng

abbrev pub Same : State → State → Type 0
Same s s' = IsState s' s.map s.locks s.rng

-- ---- a step

-- the locks that refuse a command
abbrev pub conflicts_by : Command → State → Request → List Lock
conflicts_by (Command.Lock path owner timeout shared deep) s r = lock_conflicts s.locks (segments path.bytes) shared deep
conflicts_by command s r = refusing s.locks (caller_of r) (checks s.map command)

-- the locks that refuse a request
abbrev pub conflicts : State → Request → List Lock
conflicts s r = conflicts_by r.command s r

-- the command ends or refreshes a lock, and there is no such lock
abbrev pub FindsNone : Command → List Lock → Type 0
FindsNone (Command.Unlock path token) locks = found_token locks path token ≡ None
FindsNone (Command.Refresh path token timeout) locks = found_token locks path token ≡ None
FindsNone _ locks = ⊥

-- its checks, or its work on the locks, may be out of memory
abbrev pub MayLackMemory : Command → State → Request → Type 0
MayLackMemory (Command.Lock path owner timeout shared deep) s r = Unit {0}
MayLackMemory (Command.Refresh path token timeout) s r = is_some (found_token s.locks path token) ≡ true
MayLackMemory (Command.Discover path) s r = discovered_locks s.locks path ≢ []
MayLackMemory command s r = MayLack s.locks (caller_of r) (checks s.map command)

-- what a command does that meets no conflict
abbrev pub Effect : Command → State → Request → Reply → State → Type 0
Effect (Command.Lock path owner timeout shared deep) s r reply s' =
    let lock = new_lock (token_from s.rng).0 path r.principal owner timeout shared deep r.now in
    (reply ≡ Granted lock) × IsState s' s.map (s.locks ++ (lock ∷ [])) (token_from s.rng).1
Effect (Command.Unlock path token) s r reply s' =
    (k : ℕ) × (found_token s.locks path token ≡ Some k) × (reply ≡ Done) × IsState s' s.map (remove s.locks k) s.rng
Effect (Command.Refresh path token timeout) s r reply s' =
    (k : ℕ) × (lock : Lock) × (found_token s.locks path token ≡ Some k) × (lock ≡ refreshed_lock r.now timeout (get_or s.locks k lock))
    × (reply ≡ Granted lock) × IsState s' s.map (set s.locks k lock) s.rng
Effect (Command.Discover path) s r reply s' = (reply ≡ Locks (discovered_locks s.locks path)) × Same s s'
Effect (Command.Check path deep) s r reply s' = (reply ≡ Done) × Same s s'
Effect command s r reply s' = Does s.map command r.now (Ok reply) s'.map × IsState s' s'.map (locks_left command s.locks) s.rng

-- Each answer, and when it comes. A refusal leaves the state. Out of memory comes only to a command whose checks, or whose work, may
-- lack memory; of the work on the map only where no lock stands in the way and, but for a move, nothing else refuses.
abbrev pub Serves : State → Request → Answer → State → Type 0
Serves s r (Err (Locked l)) s' = Contains (conflicts s r) l × Same s s'
Serves s r (Err OutOfMemory) s' = MayLackMemory r.command s r × Same s s'
Serves s r (Err NoLock) s' = FindsNone r.command s.locks × Same s s'
Serves s r (Err (Fs e)) s' =
    ((is_on_map r.command ≡ true) × (conflicts s r ≡ [])
    × (((e ≡ InsufficientStorage) × MayLackOnMap s.map r.command r.now) ⊎ Does s.map r.command r.now (Err e) s.map))
    × Same s s'
Serves s r (Ok reply) s' = (conflicts s r ≡ []) × Effect r.command s r reply s'

-- the state that a step starts from: the locks are dropped that have expired at the request's moment, whatever its answer
abbrev pub start_of : Request → State → State
start_of r s = record s { locks = without_stale r.now s.locks }

-- one request, its answer, and the state after
abbrev pub Step : State → Request → Answer → State → Type 0
Step s r a s' = Serves (start_of r s) r a s'

-- ---- a run

-- as many answers as requests, and a chain of steps through all of them
abbrev pub Chain : (State → Request → Answer → State → Type 0) → State → List Request → List Answer → State → Type 0
Chain Link s [] [] s' = Same s s'
Chain Link s [] (a ∷ answers) s' = ⊥
Chain Link s (r ∷ rs) [] s' = ⊥
Chain Link s (r ∷ rs) (a ∷ answers) s' = (mid : State) × Link s r a mid × Chain Link mid rs answers s'

abbrev pub Run : State → List Request → List Answer → State → Type 0
Run = Chain Step
