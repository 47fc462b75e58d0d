use Rattle.std.proofs.Common.{◌≡◌, [], ◌++◌, ap, sym, subst}
use Rattle.std.proofs.lemmas.Result.{err_from_is_err_and}
use Rattle.dav_path_core.specs.Segments.{segments}
use Rattle.dav_guarded_core.specs.Checks.{refusing}
use Rattle.dav_session_core.specs.Callers.{as_caller, live, refusing_at}
use Rattle.dav_session_core.specs.LocksInTheWay.{IsRefusedBy}
use Rattle.dav_session_core.specs.Sessions as spec
use Rattle.dav_methods_core.specs.Placing.{target_by}
use Rattle.dav_methods_core.proofs.PutMethodLemmas.{above_fails, above_passes, first_refused}
use Rattle.dav_session_core.proofs.Looking.{looks_none, looks_on}
use Rattle.dav_methods_core.proofs.methods.changes.check_locks.Goals as goal

pub returns-in_err-check-clause-err : goal.returns-in_err-check-clause-err
returns-in_err-check-clause-err g c =
    let p = err_from_is_err_and c.from_residual-in_err-check.result c.from_residual-in_err-check.ensures.1 in
    let who = spec.caller c.args.session.now in
    let s = spec.state g.R.Rng.stream c.args.session.now in
    let e = c.in_err-check.field-0.0 in
    rw (p.1, p.2) (first_refused who (live who.now s) (segments c.args.path.now.bytes) c.args.there e
    (subst (λ p. IsRefusedBy (refusing_at (live who.now s) who (segments p.bytes)) e) c.in_ok-copy_of.ensures c.in_err-check.ensures.err))

pub returns-clause-err : goal.returns-clause-err
returns-clause-err g c =
    above_fails (spec.caller c.args.session.now) (spec.caller c.check.new.self) (spec.state g.R.Rng.stream c.args.session.now) (spec.state g.R.Rng.stream c.check.new.self)
    (segments c.args.path.now.bytes) _ c.args.there c.check-2.result c.if-there.false c.check.ensures.looks.who c.check.ensures.looks.live c.in_ok-parent_of.ensures.ok c.check-2.ensures.err

pub returns-clause-ok : goal.returns-clause-ok
returns-clause-ok g c =
    let who = spec.caller c.args.session.now in
    let s = spec.state g.R.Rng.stream c.args.session.now in
    above_passes who (spec.caller c.check.new.self) s (spec.state g.R.Rng.stream c.check.new.self) (segments c.args.path.now.bytes) _ c.args.there c.check-2.result c.if-there.false
    (subst (λ p. refusing_at (live who.now s) who (segments p.bytes) ≡ []) c.in_ok-copy_of.ensures c.in_ok-check.ensures.ok) c.check.ensures.looks.who c.check.ensures.looks.live
    c.in_ok-parent_of.ensures.ok c.check-2.ensures.ok

pub returns-in_err-copy_of-clause-looks : goal.returns-in_err-copy_of-clause-looks
returns-in_err-copy_of-clause-looks g c = looks_none g.R.Rng.stream c.args.session.now

pub returns-clause-looks : goal.returns-clause-looks
returns-clause-looks g c = looks_on c.check.ensures.looks c.check-2.ensures.looks

pub returns-then-there-clause-ok : goal.returns-then-there-clause-ok
returns-then-there-clause-ok g c =
    let who = spec.caller c.args.session.now in
    let s = live who.now (spec.state g.R.Rng.stream c.args.session.now) in
    let free = subst (λ p. refusing_at s who (segments p.bytes) ≡ []) c.in_ok-copy_of.ensures c.in_ok-check.ensures.ok in
    subst (λ b. refusing s.locks (as_caller who) (target_by b (segments c.args.path.now.bytes)) ≡ []) (sym c.if-there.true) (ap (λ xs. xs ++ []) free)
