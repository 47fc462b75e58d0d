use Rattle.std.proofs.Common.{Err, sym, subst}
use Rattle.dav_path_core.specs.Segments.{segments}
use Rattle.dav_locks_core.specs.Lock.{Lock}
use Rattle.dav_locks_core.specs.Locks.{check_conflicts}
use Rattle.dav_guarded_core.specs.Requests.{Command}
use Rattle.dav_guarded_core.specs.Served.{refusal_of}
use Rattle.dav_guarded_core.specs.Step.{Step}
use Rattle.dav_faults_core.specs.declared.faults.Fault.TheVariants as fault
use Rattle.dav_session_core.specs.Callers.{as_caller, asking, live}
use Rattle.dav_session_core.specs.LocksInTheWay.{IsRefusedBy}
use Rattle.dav_session_core.specs.Sessions as spec
use Rattle.dav_session_core.proofs.PutLemmas.{check_refused}
use Rattle.dav_session_core.proofs.session.Session.check_reached.Goals as goal

pub returns-in-Err-Locked-clause-err : goal.returns-in-Err-Locked-clause-err
returns-in-Err-Locked-clause-err g c =
    let who = spec.caller c.args.self.now in
    let s = spec.state g.R.Rng.stream c.args.self.now in
    let after = spec.state g.R.Rng.stream c.look.new.self in
    let p = segments c.args.path.bytes in
    let deep = c.args.deep in
    subst (λ (l : Lock). IsRefusedBy (check_conflicts (live who.now s).locks p deep (as_caller who)) (fault.Locked l.path)) (sym c.lock.view_is) (check_refused who s after p deep c.in-Err-Locked.lock
    (subst (λ r. Step s (asking who (Command.Check p deep)) (Err (refusal_of r)) after) c.in-Err-Locked.field-0-is c.in-Err-Locked.ensures.step))
