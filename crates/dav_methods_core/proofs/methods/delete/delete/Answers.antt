use Rattle.std.proofs.Common.{inl, List, refl, map}
use Rattle.std.proofs.lemmas.Result.{err_from_is_err_and}
use Rattle.dav_path_core.specs.declared.util.DavMethod.TheVariants as method
use Rattle.dav_path_core.specs.Fronts.{Path}
use Rattle.dav_path_core.specs.Segments.{segments}
use Rattle.dav_session_core.specs.Callers.{live}
use Rattle.dav_session_core.specs.Removing.{IsRemoved}
use Rattle.dav_session_core.specs.Sessions as spec
use Rattle.dav_session_core.specs.Unhindered.{WhereRemovable}
use Rattle.dav_session_core.proofs.Looking.{acts_on, looks_before, looks_on}
use Rattle.dav_methods_core.specs.DeleteMethod.{CanRemove, CantRemove}
use Rattle.dav_safe_methods_core.proofs.Acting.{held_before, looks_act}
use Rattle.dav_methods_core.proofs.CourseLemmas.{course_stays, stopped_after}
use Rattle.dav_locks_core.proofs.answers.LockListLemmas.{on_err}
use Rattle.dav_methods_core.proofs.methods.delete.delete.Goals as goal

pub returns-in_err-places-clause-err : goal.returns-in_err-places-clause-err
returns-in_err-places-clause-err g c =
    let q = err_from_is_err_and c.from_residual.result c.from_residual.ensures.1 in
    rw (q.1, q.2) (inl c.in_err-places.ensures.err)

pub returns-in_err-check_conditions-clause-err : goal.returns-in_err-check_conditions-clause-err
returns-in_err-check_conditions-clause-err g c =
    let q = err_from_is_err_and c.from_residual-in_err-check_conditions.result c.from_residual-in_err-check_conditions.ensures.1 in
    let who = spec.caller c.args.session.now in
    let s = spec.state g.R.Rng.stream c.args.session.now in
    let p = segments c.args.path.bytes in
    let headers = c.args.headers.now in
    rw (q.1, q.2) (stopped_after method.Delete p headers who.now s (spec.state g.R.Rng.stream c.removable.new.session) c.removable.ensures.looks.live
    (CantRemove headers (live who.now s) who p) ((places : List Path) × CanRemove headers (live who.now s) who p places) c.in_err-check_conditions.field-0.0 tt
    (map (λ q. segments q.bytes) c.in_ok-places.places.items, c.in_ok-places.ensures.ok) c.in_err-check_conditions.ensures.err)

pub returns-clause-done : goal.returns-clause-done
returns-clause-done g c =
    let who = spec.caller c.args.session.now in
    let s = spec.state g.R.Rng.stream c.args.session.now in
    let after = spec.state g.R.Rng.stream c.remove_all.new.self in
    let p = segments c.args.path.bytes in
    let headers = c.args.headers.now in
    let places = map (λ q. segments q.bytes) c.in_ok-places.places.items in
    let can = c.in_ok-places.ensures.ok in
    record {
      status_is = refl;
      places = places;
      can = can;
      course = course_stays method.Delete p headers who.now s (spec.state g.R.Rng.stream c.removable.new.session) _ c.removable.ensures.looks.live c.in_ok-check_conditions.ensures.ok;
      removed = held_before (λ w t. WhereRemovable t w places (λ p. IsRemoved w.now p t after)) (looks_on c.removable.ensures.looks c.check_conditions.ensures.looks)
          c.in_ok-remove_all.ensures.removed p can.no_root can.stood can.walk can.free;
    }

pub returns-in_err-remove_all-clause-err : goal.returns-in_err-remove_all-clause-err
returns-in_err-remove_all-clause-err g c =
    let q = err_from_is_err_and c.from_residual-in_err-remove_all.result c.from_residual-in_err-remove_all.ensures.1 in
    rw (q.1, q.2) (inl tt)

pub returns-in_err-remove_all-clause-refused : goal.returns-in_err-remove_all-clause-refused
returns-in_err-remove_all-clause-refused g c =
    let q = err_from_is_err_and c.from_residual-in_err-remove_all.result c.from_residual-in_err-remove_all.ensures.1 in
    let looks = looks_on (looks_on c.removable.ensures.looks c.check_conditions.ensures.looks) (looks_before c.in_err-remove_all.ensures.refused) in
    rw q.1 looks.live

pub returns-in_err-places-clause-refused : goal.returns-in_err-places-clause-refused
returns-in_err-places-clause-refused g c = on_err c.from_residual.result c.removable.ensures.looks.live

pub returns-in_err-places-clause-acts : goal.returns-in_err-places-clause-acts
returns-in_err-places-clause-acts g c = looks_act c.removable.ensures.looks

pub returns-in_err-check_conditions-clause-refused : goal.returns-in_err-check_conditions-clause-refused
returns-in_err-check_conditions-clause-refused g c =
    on_err c.from_residual-in_err-check_conditions.result (looks_on c.removable.ensures.looks c.check_conditions.ensures.looks).live

pub returns-in_err-check_conditions-clause-acts : goal.returns-in_err-check_conditions-clause-acts
returns-in_err-check_conditions-clause-acts g c = looks_act (looks_on c.removable.ensures.looks c.check_conditions.ensures.looks)

pub returns-in_err-remove_all-clause-acts : goal.returns-in_err-remove_all-clause-acts
returns-in_err-remove_all-clause-acts g c = acts_on (looks_act (looks_on c.removable.ensures.looks c.check_conditions.ensures.looks)) c.remove_all.ensures.acts

pub returns-clause-acts : goal.returns-clause-acts
returns-clause-acts g c = acts_on (looks_act (looks_on c.removable.ensures.looks c.check_conditions.ensures.looks)) c.remove_all.ensures.acts
