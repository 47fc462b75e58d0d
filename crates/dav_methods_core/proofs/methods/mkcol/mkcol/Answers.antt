use Rattle.std.proofs.Common.{inl, Ok, sym, subst}
use Rattle.std.proofs.lemmas.Result.{err_from_is_err_and}
use Rattle.dav_path_core.specs.declared.util.DavMethod.TheVariants as method
use Rattle.dav_path_core.specs.Segments.{segments}
use Rattle.dav_guarded_core.specs.Requests.{Command}
use Rattle.dav_guarded_core.specs.Served.{reply_of, refusal_of}
use Rattle.dav_session_core.specs.Callers.{live}
use Rattle.dav_session_core.specs.Sessions as spec
use Rattle.dav_session_core.proofs.Looking.{acts_on, looks_on}
use Rattle.dav_session_core.proofs.AskedLemmas.{behind_look}
use Rattle.dav_session_core.proofs.PutLemmas.{after_look}
use Rattle.dav_methods_core.specs.MkcolMethod.{CanMake, CantMake, FailsToMake}
use Rattle.dav_methods_core.proofs.CourseLemmas.{course_stays, stopped_after}
use Rattle.dav_methods_core.proofs.MkcolLemmas.{made, not_made_at}
use Rattle.dav_safe_methods_core.proofs.Acting.{looks_act}
use Rattle.dav_locks_core.proofs.answers.LockListLemmas.{on_err}
use Rattle.dav_methods_core.proofs.methods.mkcol.mkcol.Goals as goal

pub returns-in_err-check_making-clause-err : goal.returns-in_err-check_making-clause-err
returns-in_err-check_making-clause-err g c =
    let q = err_from_is_err_and c.from_residual.result c.from_residual.ensures.1 in
    rw (q.1, q.2) (inl c.in_err-check_making.ensures.err)

pub returns-in_err-check_conditions-clause-err : goal.returns-in_err-check_conditions-clause-err
returns-in_err-check_conditions-clause-err g c =
    let q = err_from_is_err_and c.from_residual-in_err-check_conditions.result c.from_residual-in_err-check_conditions.ensures.1 in
    let who = spec.caller c.args.session.now in
    let s = spec.state g.R.Rng.stream c.args.session.now in
    let p = segments c.args.path.bytes in
    rw (q.1, q.2) (stopped_after method.MkCol p c.args.headers.now who.now s (spec.state g.R.Rng.stream c.check_making.new.session) c.check_making.ensures.looks.live
    (CantMake (live who.now s) who p) (CanMake (live who.now s) who p) c.in_err-check_conditions.field-0.0 tt c.in_ok-check_making.ensures.ok
    c.in_err-check_conditions.ensures.err)

pub returns-in-Ok-clause-done : goal.returns-in-Ok-clause-done
returns-in-Ok-clause-done g c =
    let who = spec.caller c.args.session.now in
    let s = spec.state g.R.Rng.stream c.args.session.now in
    let p = segments c.args.path.bytes in
    let looks = looks_on c.check_making.ensures.looks c.check_conditions.ensures.looks in
    made c.args.headers.now who (live who.now s) (spec.state g.R.Rng.stream c.change.new.self) p (reply_of c.in-Ok.field-0)
    (course_stays method.MkCol p c.args.headers.now who.now s (spec.state g.R.Rng.stream c.check_making.new.session) _ c.check_making.ensures.looks.live
    c.in_ok-check_conditions.ensures.ok)
    (after_look who (spec.caller c.check_conditions.new.session) s (spec.state g.R.Rng.stream c.check_conditions.new.session) (spec.state g.R.Rng.stream c.change.new.self)
    (Command.MkCol p) (Ok (reply_of c.in-Ok.field-0)) looks.who looks.live c.in-Ok.ensures.asked)

pub returns-clause-err : goal.returns-clause-err
returns-clause-err g c =
    let who = spec.caller c.args.session.now in
    let s = spec.state g.R.Rng.stream c.args.session.now in
    let p = segments c.args.path.bytes in
    let looks = looks_on c.check_making.ensures.looks c.check_conditions.ensures.looks in
    let e = refusal_of c.in-Err.refusal in
    subst (FailsToMake c.args.headers.now (live who.now s) who p) (sym c.refused.ensures)
    (inl (not_made_at who (live who.now s) (spec.state g.R.Rng.stream c.change.new.self) p e c.in_ok-check_making.ensures.ok
    (behind_look who (spec.caller c.check_conditions.new.session) s (spec.state g.R.Rng.stream c.check_conditions.new.session) (spec.state g.R.Rng.stream c.change.new.self)
    (Command.MkCol p) e looks.who looks.live c.in-Err.ensures.asked)))

pub returns-in_err-check_making-clause-refused : goal.returns-in_err-check_making-clause-refused
returns-in_err-check_making-clause-refused g c = on_err c.from_residual.result c.check_making.ensures.looks.live

pub returns-in_err-check_making-clause-acts : goal.returns-in_err-check_making-clause-acts
returns-in_err-check_making-clause-acts g c = looks_act c.check_making.ensures.looks

pub returns-in_err-check_conditions-clause-refused : goal.returns-in_err-check_conditions-clause-refused
returns-in_err-check_conditions-clause-refused g c =
    on_err c.from_residual-in_err-check_conditions.result (looks_on c.check_making.ensures.looks c.check_conditions.ensures.looks).live

pub returns-in_err-check_conditions-clause-acts : goal.returns-in_err-check_conditions-clause-acts
returns-in_err-check_conditions-clause-acts g c = looks_act (looks_on c.check_making.ensures.looks c.check_conditions.ensures.looks)

pub returns-in-Ok-clause-acts : goal.returns-in-Ok-clause-acts
returns-in-Ok-clause-acts g c = acts_on (looks_act (looks_on c.check_making.ensures.looks c.check_conditions.ensures.looks)) c.change.ensures.acts

pub returns-clause-refused : goal.returns-clause-refused
returns-clause-refused g c = (looks_on (looks_on c.check_making.ensures.looks c.check_conditions.ensures.looks) c.in-Err.ensures.refused).live

pub returns-clause-acts : goal.returns-clause-acts
returns-clause-acts g c = acts_on (looks_act (looks_on c.check_making.ensures.looks c.check_conditions.ensures.looks)) c.change.ensures.acts
