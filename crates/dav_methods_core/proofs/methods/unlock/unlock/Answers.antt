use Rattle.std.proofs.Common.{◌≡◌, ◌⊎◌, inl, inr, true, refl, sym, ℕ, List, string_bytes, subst}
use Rattle.std.proofs.lemmas.Result.{err_from_is_err_and}
use Rattle.dav_path_core.specs.declared.util.DavMethod.TheVariants as method
use Rattle.http_header.specs.FieldValue.{FieldValue}
use Rattle.http_header.specs.HeaderMap.{Entries}
use Rattle.dav_path_core.specs.Fronts.{Path}
use Rattle.dav_path_core.specs.Segments.{segments}
use Rattle.dav_guarded_core.specs.Step.{State}
use Rattle.dav_faults_core.specs.declared.faults.Fault.{Fault}
use Rattle.dav_faults_core.specs.declared.faults.Fault.TheVariants as fault
use Rattle.dav_session_core.specs.Callers.{Caller, live}
use Rattle.dav_session_core.specs.Conditions.{has_token}
use Rattle.dav_session_core.specs.Sessions as spec
use Rattle.dav_session_core.specs.Unlocking.{EndsOwn, IsAnothers, KeepsLock}
use Rattle.dav_session_core.proofs.Looking.{looks_before, looks_none, looks_on, requests_of, requests_on}
use Rattle.dav_methods_core.specs.UnlockMethod.{CanUnlock, CantUnlock, FailsToUnlock, NamesToken}
use Rattle.dav_safe_methods_core.proofs.Acting.{held_before, held_behind}
use Rattle.dav_methods_core.proofs.CourseLemmas.{course_stays, stopped_after}
use Rattle.dav_methods_core.proofs.methods.unlock.unlock.Goals as goal

-- no token is named
unnamed : (headers : Entries FieldValue) (s : State) (who : Caller) (p : Path) (e : Fault)
    → (e ≡ fault.InsufficientStorage) ⊎ ((e ≡ fault.BadRequest) × ((token : List ℕ) → ¬ NamesToken headers token)) → FailsToUnlock headers s who p e
unnamed headers s who p e (inl short) = inl (subst (CantUnlock headers s who p) (sym short) tt)
unnamed headers s who p e (inr (bad, none)) = inl (subst (CantUnlock headers s who p) (sym bad) none)

-- one is, and its lock stays
kept : (headers : Entries FieldValue) (s : State) (who : Caller) (p : Path) (token : List ℕ) (e : Fault) → NamesToken headers token → KeepsLock s who p token e
    → CantUnlock headers s who p e
kept headers s who p token fault.InsufficientStorage names h = tt
kept headers s who p token fault.NoSuchLock names h = (token, names, h)
kept headers s who p token fault.Forbidden names h = (token, names, h)
kept headers s who p token _ names h = absurd h

pub returns-in_err-token-clause-err : goal.returns-in_err-token-clause-err
returns-in_err-token-clause-err g c =
    let q = err_from_is_err_and c.from_residual.result c.from_residual.ensures.1 in
    rw (q.1, q.2) (unnamed c.args.headers.now (spec.live_of g.R.Rng.stream c.args.session.now) (spec.caller c.args.session.now) (segments c.args.path.bytes)
    c.in_err-token.field-0.0 c.in_err-token.ensures.err)

pub returns-in_err-token-clause-looks : goal.returns-in_err-token-clause-looks
returns-in_err-token-clause-looks g c =
    let q = err_from_is_err_and c.from_residual.result c.from_residual.ensures.1 in
    rw q.1 (looks_none g.R.Rng.stream c.args.session.now)

pub returns-in_err-token-clause-asks : goal.returns-in_err-token-clause-asks
returns-in_err-token-clause-asks g c = requests_of (looks_none g.R.Rng.stream c.args.session.now)

pub returns-in_err-check_unlock-clause-err : goal.returns-in_err-check_unlock-clause-err
returns-in_err-check_unlock-clause-err g c =
    let q = err_from_is_err_and c.from_residual-in_err-check_unlock.result c.from_residual-in_err-check_unlock.ensures.1 in
    let who = spec.caller c.args.session.now in
    let s = spec.live_of g.R.Rng.stream c.args.session.now in
    let p = segments c.args.path.bytes in
    let e = c.in_err-check_unlock.field-0.0 in
    rw (q.1, q.2) (inl (kept c.args.headers.now s who p (string_bytes c.in_ok-token.token) e c.in_ok-token.ensures.ok
    (subst (λ (t : List ℕ). KeepsLock s who p t e) c.deref.ensures c.in_err-check_unlock.ensures.err)))

pub returns-in_err-check_unlock-clause-looks : goal.returns-in_err-check_unlock-clause-looks
returns-in_err-check_unlock-clause-looks g c =
    let q = err_from_is_err_and c.from_residual-in_err-check_unlock.result c.from_residual-in_err-check_unlock.ensures.1 in
    rw q.1 c.check_unlock.ensures.looks

pub returns-in_err-check_unlock-clause-asks : goal.returns-in_err-check_unlock-clause-asks
returns-in_err-check_unlock-clause-asks g c = requests_of c.check_unlock.ensures.looks

pub returns-in_err-check_conditions-clause-asks : goal.returns-in_err-check_conditions-clause-asks
returns-in_err-check_conditions-clause-asks g c = requests_of (looks_on c.check_unlock.ensures.looks c.check_conditions.ensures.looks)

pub returns-in_err-check_conditions-clause-err : goal.returns-in_err-check_conditions-clause-err
returns-in_err-check_conditions-clause-err g c =
    let q = err_from_is_err_and c.from_residual-in_err-check_conditions.result c.from_residual-in_err-check_conditions.ensures.1 in
    let who = spec.caller c.args.session.now in
    let s = spec.state g.R.Rng.stream c.args.session.now in
    let p = segments c.args.path.bytes in
    let headers = c.args.headers.now in
    let token = string_bytes c.in_ok-token.token in
    rw (q.1, q.2) (stopped_after method.Unlock p headers who.now s (spec.state g.R.Rng.stream c.check_unlock.new.self) c.check_unlock.ensures.looks.live
    (CantUnlock headers (live who.now s) who p) ((token : List ℕ) × CanUnlock headers (live who.now s) who p token) c.in_err-check_conditions.field-0.0 tt (
      token,
      record {
        names = c.in_ok-token.ensures.ok;
        covered = subst (λ (t : List ℕ). has_token (live who.now s) p t ≡ true) c.deref.ensures c.in_ok-check_unlock.ensures.covered;
        own = subst (λ (t : List ℕ). ¬ IsAnothers (live who.now s) who p t) c.deref.ensures c.in_ok-check_unlock.ensures.own;
      },
    ) c.in_err-check_conditions.ensures.err)

pub returns-in_err-check_conditions-clause-looks : goal.returns-in_err-check_conditions-clause-looks
returns-in_err-check_conditions-clause-looks g c =
    let q = err_from_is_err_and c.from_residual-in_err-check_conditions.result c.from_residual-in_err-check_conditions.ensures.1 in
    rw q.1 (looks_on c.check_unlock.ensures.looks c.check_conditions.ensures.looks)

pub returns-clause-asks : goal.returns-clause-asks
returns-clause-asks g c = requests_on (looks_on c.check_unlock.ensures.looks c.check_conditions.ensures.looks) c.unlock.ensures.requests

pub returns-in_err-unlock-clause-err : goal.returns-in_err-unlock-clause-err
returns-in_err-unlock-clause-err g c =
    let q = err_from_is_err_and c.from_residual-in_err-unlock.result c.from_residual-in_err-unlock.ensures.1 in
    rw (q.1, q.2) (inl tt)

pub returns-in_err-unlock-clause-looks : goal.returns-in_err-unlock-clause-looks
returns-in_err-unlock-clause-looks g c =
    let q = err_from_is_err_and c.from_residual-in_err-unlock.result c.from_residual-in_err-unlock.ensures.1 in
    rw q.1 (looks_on (looks_on c.check_unlock.ensures.looks c.check_conditions.ensures.looks) (looks_before c.in_err-unlock.ensures.refused))

pub returns-in_err-unlock-clause-asks : goal.returns-in_err-unlock-clause-asks
returns-in_err-unlock-clause-asks g c = requests_on (looks_on c.check_unlock.ensures.looks c.check_conditions.ensures.looks) c.unlock.ensures.requests

pub unlock-requires-clause-covered : goal.unlock-requires-clause-covered
unlock-requires-clause-covered g c =
    let p = segments c.args.path.bytes in
    let token = string_bytes c.in_ok-token.token in
    let looks = looks_on c.check_unlock.ensures.looks c.check_conditions.ensures.looks in
    held_behind (λ w (t : State). has_token t p token ≡ true) looks
    (subst (λ (t : List ℕ). has_token (spec.live_of g.R.Rng.stream c.args.session.now) p t ≡ true) c.deref.ensures c.in_ok-check_unlock.ensures.covered)

pub unlock-requires-clause-own : goal.unlock-requires-clause-own
unlock-requires-clause-own g c =
    let p = segments c.args.path.bytes in
    let token = string_bytes c.in_ok-token.token in
    let who = spec.caller c.args.session.now in
    let looks = looks_on c.check_unlock.ensures.looks c.check_conditions.ensures.looks in
    held_behind (λ w (t : State). ¬ IsAnothers t w p token) looks
    (subst (λ (t : List ℕ). ¬ IsAnothers (spec.live_of g.R.Rng.stream c.args.session.now) who p t) c.deref.ensures c.in_ok-check_unlock.ensures.own)

pub returns-clause-done : goal.returns-clause-done
returns-clause-done g c =
    let who = spec.caller c.args.session.now in
    let s = spec.state g.R.Rng.stream c.args.session.now in
    let p = segments c.args.path.bytes in
    let token = string_bytes c.in_ok-token.token in
    let after = spec.state g.R.Rng.stream c.unlock.new.self in
    record {
      status_is = refl;
      token = token;
      names = c.in_ok-token.ensures.ok;
      covered = subst (λ (t : List ℕ). has_token (live who.now s) p t ≡ true) c.deref.ensures c.in_ok-check_unlock.ensures.covered;
      own = subst (λ (t : List ℕ). ¬ IsAnothers (live who.now s) who p t) c.deref.ensures c.in_ok-check_unlock.ensures.own;
      course = course_stays method.Unlock p c.args.headers.now who.now s (spec.state g.R.Rng.stream c.check_unlock.new.self) _ c.check_unlock.ensures.looks.live
          c.in_ok-check_conditions.ensures.ok;
      ends = held_before (λ w (t : State). EndsOwn t w p token after) (looks_on c.check_unlock.ensures.looks c.check_conditions.ensures.looks)
          c.in_ok-unlock.ensures.ends;
    }
