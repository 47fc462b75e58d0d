-- The holder of a deep exclusive lock, with all others left out (RFC 4918 sections 6.1, 6.4 and 7.4).
use Rattle.std.specs.Prelude.{◌≡◌, ℕ, ◌≤◌, List, [], ◌∷◌, Bool, true, false, ◌&&◌, if◌then◌else◌, filter, Err, Contains}
use Rattle.std.specs.List.{AllByRecursion}
use Rattle.dav_path_core.specs.Fronts.{Path, is_front}
use Rattle.dav_files_core.specs.Below.{is_below}
use Rattle.dav_locks_core.specs.Lock.{Lock}
use Rattle.dav_locks_core.specs.Locks.{lock_path}
use Rattle.dav_locks_core.specs.Stale.{is_stale}
use Rattle.dav_guarded_core.specs.Requests.{Command, Request, Locked, Answer}
use Rattle.dav_guarded_core.specs.Checks.{has}
use Rattle.dav_guarded_core.specs.Naming.{names_as, names, refreshes}
use Rattle.dav_guarded_core.specs.Step.{State, Step, Chain}

-- ---- requests under a lock

-- what the command looks at, or changes where it is, stands at or below the folder, and what it makes, removes or moves stands below
abbrev pub is_within : Path → Command → Bool
is_within folder (Command.Put path bytes) = is_below folder path
is_within folder (Command.Write path at bytes) = is_front folder path
is_within folder (Command.Read path at count) = is_front folder path
is_within folder (Command.List path) = is_front folder path
is_within folder (Command.Meta path) = is_front folder path
is_within folder (Command.MkCol path) = is_below folder path
is_within folder (Command.Remove path) = is_below folder path
is_within folder (Command.Move from to) = is_below folder from && is_below folder to
is_within folder (Command.Copy from to) = is_front folder from && is_below folder to
is_within folder (Command.PatchProps path patch) = is_front folder path
is_within folder (Command.GetProps path content) = is_front folder path
is_within folder (Command.GetProp path wanted) = is_front folder path
is_within folder (Command.Discover path) = is_front folder path
is_within folder (Command.Check path deep) = is_front folder path
is_within folder _ = false

-- the request names the lock as its holder, and its command is within the folder where the lock stands
abbrev pub under : Request → Lock → Bool
under r l = names_as r l && is_within (lock_path l) r.command

-- of a list of requests, those under the lock
abbrev pub requests_under : Lock → List Request → List Request
requests_under l rs = filter (λ r. under r l) rs

-- and the answers at their places
abbrev pub answers_under : Lock → List Request → List Answer → List Answer
answers_under l (r ∷ rs) (a ∷ answers) = if under r l then a ∷ answers_under l rs answers else answers_under l rs answers
answers_under l _ _ = []

-- each request that names the lock is under it
abbrev pub NamedUnder : List Request → Lock → Type 0
NamedUnder rs l = AllByRecursion (λ r. names r l ≡ true → under r l ≡ true) rs

-- ---- alone

-- the state with another next number, which no answer shows
abbrev pub with_next_number : State → ℕ → State
with_next_number s n = record s { map = record s.map { next = n } }

-- a step before which the next number may be raised
abbrev pub RaisedStep : State → Request → Answer → State → Type 0
RaisedStep s r a s' = (n : ℕ) × (s.map.next ≤ n) × Step (with_next_number s n) r a s'

-- a run in which the next number may be raised before each request
abbrev pub RaisedRun : State → List Request → List Answer → State → Type 0
RaisedRun = Chain RaisedStep

-- the requests under the lock, in order, have with their own answers such a run from the state to some state
abbrev pub HasRunAlone : State → List Request → List Answer → Lock → Type 0
HasRunAlone s rs answers l = (end : State) × RaisedRun s (requests_under l rs) (answers_under l rs answers) end

-- the answer shows no lock that is in the way
abbrev pub IsLetIn : Answer → Type 0
IsLetIn a = (l : Lock) → ¬ (a ≡ Err (Locked l))

-- no request comes at the lock's end or later, and none refreshes its token
abbrev pub LastsThrough : List Request → Lock → Type 0
LastsThrough rs l = AllByRecursion (λ r. (is_stale r.now l ≡ false) × (refreshes r.command l.token ≡ false)) rs

-- for every exclusive deep lock of the start at a path of the start's map, which lasts, and where each request that names the
-- lock is under it
abbrev pub HoldersAlone : State → List Request → List Answer → Type 0
HoldersAlone s rs answers = (l : Lock) → Contains s.locks l → l.shared ≡ false → l.deep ≡ true → has s.map (lock_path l) ≡ true
    → LastsThrough rs l → NamedUnder rs l → HasRunAlone s rs answers l
