-- A question leaves the state from which a request of its moment starts, and a refusal the locks that last.
use Rattle.std.proofs.Common.{◌≡◌, inl, inr, Err, ap, ◌∙◌, subst}
use Rattle.dav_path_core.specs.Fronts.{Path}
use Rattle.dav_files_core.specs.Describing.{metadata}
use Rattle.dav_locks_core.specs.Stale.{without_stale}
use Rattle.dav_locks_core.proofs.laws.StaleLemmas.{stale_once}
use Rattle.dav_resource_core.specs.Requests.{Command, Request, Reply, Meta, Answer, Refusal, Fs, Locked, NoLock, OutOfMemory}
use Rattle.dav_resource_core.specs.Step.{State, Same, Effect, Serves, Step, start_of}
use Rattle.dav_guarded_core.proofs.Frame.{told_left}
use Rattle.dav_guarded_core.proofs.StepLaws.{Same-equal, outcome}

-- what a `Meta` that is answered does
told_alone : (s s' : State) (r : Request) (path : Path) (reply : Reply) → Effect (Command.Meta path) s r reply s' → Same s s'
told_alone s s' r path reply e = record {
  map_is = told_left s.map Meta (metadata s.map path) reply s'.map e.0;
  locks_are = e.1.locks_are;
  rng_is = e.1.rng_is;
}

-- a `Meta` leaves the state from which it starts
pub asked_alone : (s s' : State) (r : Request) (path : Path) (a : Answer) → r.command ≡ Command.Meta path → Step s r a s' → Same (start_of r s) s'
asked_alone s s' r path a is h = elim (outcome (start_of r s) s' r a h) [
  | inl same ↦ same
  | inr done ↦ told_alone (start_of r s) s' r path done.0 (subst (λ c. Effect c (start_of r s) r done.0 s') is done.3)
]

-- so another request of that moment starts from the same state behind it
pub asked_before : (s s' : State) (r asked : Request) (path : Path) (a : Answer) → asked.now ≡ r.now → asked.command ≡ Command.Meta path → Step s asked a s'
    → start_of r s' ≡ start_of r s
asked_before s s' r asked path a now is h =
    ap (start_of r) (Same-equal (start_of asked s) s' (asked_alone s s' asked path a is h))
    ∙ ap (λ now. record s { locks = without_stale r.now (without_stale now s.locks) }) now
    ∙ ap (λ locks. record s { locks = locks }) (stale_once r.now s.locks)

refused_same : (s s' : State) (r : Request) (e : Refusal) → Serves s r (Err e) s' → Same s s'
refused_same s s' r (Fs e) h = h.1
refused_same s s' r (Locked l) h = h.1
refused_same s s' r NoLock h = h.1
refused_same s s' r OutOfMemory h = h.1

-- after a refusal the locks that last are as before
pub refused_locks : (s s' : State) (r : Request) (e : Refusal) → Serves (start_of r s) r (Err e) s' → without_stale r.now s'.locks ≡ without_stale r.now s.locks
refused_locks s s' r e h = ap (without_stale r.now) (refused_same (start_of r s) s' r e h).locks_are ∙ stale_once r.now s.locks
