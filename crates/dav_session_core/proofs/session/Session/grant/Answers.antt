use Rattle.std.proofs.Common.{Err, option_map, string_bytes, subst, sym}
use Rattle.dav_path_core.specs.Segments.{segments}
use Rattle.dav_locks_core.specs.Lock.{Lock}
use Rattle.dav_locks_core.specs.Locks.{lock_conflicts}
use Rattle.dav_guarded_core.specs.Requests.{Command}
use Rattle.dav_guarded_core.specs.Served.{answer_of, refusal_of}
use Rattle.dav_faults_core.specs.declared.faults.Fault.TheVariants as fault
use Rattle.dav_session_core.specs.Callers.{Asked, live}
use Rattle.dav_session_core.specs.Granting.{IsConflictOf}
use Rattle.dav_session_core.specs.Sessions as spec
use Rattle.dav_session_core.proofs.AskedLemmas.{conflict_told, granted_apart}
use Rattle.dav_session_core.proofs.session.Session.grant.Goals as goal

pub returns-in-Ok-Lock-clause-apart : goal.returns-in-Ok-Lock-clause-apart
returns-in-Ok-Lock-clause-apart g c = λ x.
    granted_apart (spec.caller c.args.self.now) (spec.state g.R.Rng.stream c.args.self.now) (spec.state g.R.Rng.stream c.ask.new.self) c.args.path (option_map string_bytes c.args.owner)
    c.args.timeout c.args.shared c.args.deep (answer_of c.ask.result) x c.ask.ensures.asked

pub returns-in-Err-Locked-clause-apart : goal.returns-in-Err-Locked-clause-apart
returns-in-Err-Locked-clause-apart g c = λ x.
    granted_apart (spec.caller c.args.self.now) (spec.state g.R.Rng.stream c.args.self.now) (spec.state g.R.Rng.stream c.ask.new.self) c.args.path (option_map string_bytes c.args.owner)
    c.args.timeout c.args.shared c.args.deep (answer_of c.ask.result) x c.ask.ensures.asked

pub returns-in_default-clause-apart : goal.returns-in_default-clause-apart
returns-in_default-clause-apart g c = λ x.
    granted_apart (spec.caller c.args.self.now) (spec.state g.R.Rng.stream c.args.self.now) (spec.state g.R.Rng.stream c.ask.new.self) c.args.path (option_map string_bytes c.args.owner)
    c.args.timeout c.args.shared c.args.deep (answer_of c.ask.result) x c.ask.ensures.asked

pub returns-in-Err-Locked-clause-err : goal.returns-in-Err-Locked-clause-err
returns-in-Err-Locked-clause-err g c =
    let who = spec.caller c.args.self.now in
    let s = spec.state g.R.Rng.stream c.args.self.now in
    let after = spec.state g.R.Rng.stream c.ask.new.self in
    let owner = option_map string_bytes c.args.owner in
    subst (λ (l : Lock). IsConflictOf (lock_conflicts (live who.now s).locks (segments c.args.path.bytes) c.args.shared c.args.deep) (fault.ConflictingLock l.path)) (sym c.lock.view_is)
    (conflict_told who s after c.args.path owner c.args.timeout c.args.shared c.args.deep c.in-Err-Locked.lock
    (subst (λ r. Asked s who (Command.Lock c.args.path owner c.args.timeout c.args.shared c.args.deep) (Err (refusal_of r)) after) c.in-Err-Locked.field-0-is c.in-Err-Locked.ensures.asked))
