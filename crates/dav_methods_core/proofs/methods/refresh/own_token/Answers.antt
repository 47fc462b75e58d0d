use Rattle.std.proofs.Common.{◌≡◌, ◌⊎◌, ℕ, List, Ok, Err, string_bytes, subst}
use Rattle.std.proofs.lemmas.Result.{err_from_is_err_and}
use Rattle.dav_path_core.specs.declared.util.DavMethod.TheVariants as method
use Rattle.dav_path_core.specs.Segments.{segments}
use Rattle.dav_guarded_core.specs.Step.{State}
use Rattle.dav_faults_core.specs.declared.faults.Fault.TheVariants as fault
use Rattle.dav_session_core.specs.Callers.{Caller}
use Rattle.dav_session_core.specs.Sessions as spec
use Rattle.dav_session_core.specs.Unlocking.{IsAnothers}
use Rattle.dav_methods_core.specs.ChangeConditions.{change_course}
use Rattle.dav_session_core.proofs.Looking.{looks_on}
use Rattle.dav_methods_core.proofs.RefreshMethodLemmas.{fails_anothers, fails_course, fails_unnamed}
use Rattle.dav_safe_methods_core.proofs.Acting.{held_before}
use Rattle.dav_methods_core.proofs.methods.refresh.own_token.Goals as goal

pub returns-in_err-token-clause-err : goal.returns-in_err-token-clause-err
returns-in_err-token-clause-err g c = λ timeouts read.
    let q = err_from_is_err_and c.from_residual.result c.from_residual.ensures.1 in
    rw (q.1, q.2) (fails_unnamed c.args.headers.now (spec.live_of g.R.Rng.stream c.args.session.now) (spec.caller c.args.session.now) (segments c.args.path.now.bytes)
    c.in_err-token.field-0.0 timeouts read c.in_err-token.ensures.err)

pub returns-in_err-check_refresh-clause-err : goal.returns-in_err-check_refresh-clause-err
returns-in_err-check_refresh-clause-err g c = λ timeouts read.
    let q = err_from_is_err_and c.from_residual-in_err-check_refresh.result c.from_residual-in_err-check_refresh.ensures.1 in
    let p = segments c.args.path.now.bytes in
    let token = string_bytes c.in_ok-token.token in
    let e = c.in_err-check_refresh.field-0.0 in
    rw (q.1, q.2) (fails_anothers c.args.headers.now (spec.live_of g.R.Rng.stream c.args.session.now) (spec.caller c.args.session.now) p e timeouts token read c.in_ok-token.ensures.ok
    (held_before (λ (w : Caller) (t : State). (e ≡ fault.InsufficientStorage) ⊎ ((e ≡ fault.Forbidden) × IsAnothers t w p token)) c.token_named.ensures.looks
    (subst (λ (named : List ℕ). (e ≡ fault.InsufficientStorage) ⊎ ((e ≡ fault.Forbidden)
    × IsAnothers (spec.live_of g.R.Rng.stream c.token_named.new.session) (spec.caller c.token_named.new.session) p named)) c.deref.ensures c.in_err-check_refresh.ensures.err)))

pub returns-in_err-check_conditions-clause-err : goal.returns-in_err-check_conditions-clause-err
returns-in_err-check_conditions-clause-err g c = λ timeouts read.
    let q = err_from_is_err_and c.from_residual-in_err-check_conditions.result c.from_residual-in_err-check_conditions.ensures.1 in
    let p = segments c.args.path.now.bytes in
    let headers = c.args.headers.now in
    let token = string_bytes c.in_ok-token.token in
    let e = c.in_err-check_conditions.field-0.0 in
    let own = held_before (λ w (t : State). ¬ IsAnothers t w p token) c.token_named.ensures.looks
    (subst (λ (named : List ℕ). ¬ IsAnothers (spec.live_of g.R.Rng.stream c.token_named.new.session) (spec.caller c.token_named.new.session) p named) c.deref.ensures
    c.in_ok-check_refresh.ensures.own) in
    rw (q.1, q.2) (fails_course headers (spec.live_of g.R.Rng.stream c.args.session.now) (spec.caller c.args.session.now) p e timeouts token read c.in_ok-token.ensures.ok own
    (held_before (λ w (t : State). (e ≡ fault.InsufficientStorage) ⊎ (change_course method.Lock t.map p headers ≡ Err e))
    (looks_on c.token_named.ensures.looks c.check_refresh.ensures.looks) c.in_err-check_conditions.ensures.err))

pub returns-clause-own : goal.returns-clause-own
returns-clause-own g c =
    let p = segments c.args.path.now.bytes in
    held_before (λ w (t : State). ¬ IsAnothers t w p (string_bytes c.in_ok-token.token)) c.token_named.ensures.looks
    (subst (λ (named : List ℕ). ¬ IsAnothers (spec.live_of g.R.Rng.stream c.token_named.new.session) (spec.caller c.token_named.new.session) p named) c.deref.ensures
    c.in_ok-check_refresh.ensures.own)

pub returns-clause-course : goal.returns-clause-course
returns-clause-course g c =
    held_before (λ w (t : State). change_course method.Lock t.map (segments c.args.path.now.bytes) c.args.headers.now ≡ Ok tt)
    (looks_on c.token_named.ensures.looks c.check_refresh.ensures.looks) c.in_ok-check_conditions.ensures.ok

pub returns-in_err-check_refresh-clause-looks : goal.returns-in_err-check_refresh-clause-looks
returns-in_err-check_refresh-clause-looks g c = looks_on c.token_named.ensures.looks c.check_refresh.ensures.looks

pub returns-in_err-check_conditions-clause-looks : goal.returns-in_err-check_conditions-clause-looks
returns-in_err-check_conditions-clause-looks g c = looks_on (looks_on c.token_named.ensures.looks c.check_refresh.ensures.looks) c.check_conditions.ensures.looks

pub returns-clause-looks : goal.returns-clause-looks
returns-clause-looks g c = looks_on (looks_on c.token_named.ensures.looks c.check_refresh.ensures.looks) c.check_conditions.ensures.looks
