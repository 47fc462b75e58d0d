use Rattle.std.proofs.Common.{◌≡◌, List, [], ◌++◌, map, sym, subst}
use Rattle.std.specs.Prelude.{IfErr, OnOk}
use Rattle.std.proofs.lemmas.Result.{err_from_is_err_and}
use Rattle.dav_path_core.specs.Segments.{segments}
use Rattle.dav_locks_core.specs.Lock.{Lock}
use Rattle.dav_guarded_core.specs.Checks.{Check, refusing, shallow}
use Rattle.dav_guarded_core.specs.Step.{State}
use Rattle.dav_session_core.specs.Callers.{Caller, as_caller, live}
use Rattle.dav_session_core.specs.Clearing.{refusing_clearing}
use Rattle.dav_session_core.specs.LocksInTheWay.{IsRefusedBy}
use Rattle.dav_methods_core.specs.Placing.{target_by}
use Rattle.dav_session_core.specs.Sessions as spec
use Rattle.dav_session_core.proofs.Looking.{looks_on}
use Rattle.dav_safe_methods_core.proofs.Acting.{held_before}
use Rattle.dav_methods_core.proofs.CopyCheckLemmas.{fails_behind, fails_first, fails_last, passes_behind, refusing_append}
use Rattle.dav_methods_core.proofs.methods.copy.check_copy.Goals as goal

-- the locks that refuse some checks
abbrev of_checks : List Check → State → Caller → List Lock
of_checks ks s who = refusing s.locks (as_caller who) ks

pub returns-in_err-check_clearing-clause-err : goal.returns-in_err-check_clearing-clause-err
returns-in_err-check_clearing-clause-err g c =
    let q = err_from_is_err_and c.from_residual.result c.from_residual.ensures.1 in
    let who = spec.caller c.args.session.now in
    let s = spec.state g.R.Rng.stream c.args.session.now in
    let to = segments c.args.to.now.bytes in
    let clearing = refusing_clearing (live who.now s) who to (map (λ p. segments p.bytes) c.args.gone.now) in
    let there = target_by c.args.there to in
    let copies = map (λ t. shallow (segments t.to.bytes)) c.args.transfers.now in
    rw (q.1, q.2) (fails_first clearing (of_checks (there ++ copies) (live who.now s) who) c.in_err-check_clearing.field-0.0 c.in_err-check_clearing.ensures.err)

pub returns-in_err-check_locks-clause-err : goal.returns-in_err-check_locks-clause-err
returns-in_err-check_locks-clause-err g c =
    let q = err_from_is_err_and c.from_residual-in_err-check_locks.result c.from_residual-in_err-check_locks.ensures.1 in
    let who = spec.caller c.args.session.now in
    let s = spec.state g.R.Rng.stream c.args.session.now in
    let to = segments c.args.to.now.bytes in
    let clearing = refusing_clearing (live who.now s) who to (map (λ p. segments p.bytes) c.args.gone.now) in
    let there = target_by c.args.there to in
    let copies = map (λ t. shallow (segments t.to.bytes)) c.args.transfers.now in
    let e = c.in_err-check_locks.field-0.0 in
    let here = held_before (λ w t. IsRefusedBy (of_checks there t w) e) c.check_clearing.ensures.looks c.in_err-check_locks.ensures.err in
    let both = subst (λ ls. IsRefusedBy ls e) (sym (refusing_append (live who.now s).locks (as_caller who) there copies))
    (fails_first (of_checks there (live who.now s) who) (of_checks copies (live who.now s) who) e here) in
    rw (q.1, q.2) (fails_last clearing (of_checks (there ++ copies) (live who.now s) who) e both)

pub returns-clause-err : goal.returns-clause-err
returns-clause-err g c =
    let who = spec.caller c.args.session.now in
    let s = spec.state g.R.Rng.stream c.args.session.now in
    let to = segments c.args.to.now.bytes in
    let clearing = refusing_clearing (live who.now s) who to (map (λ p. segments p.bytes) c.args.gone.now) in
    let there = target_by c.args.there to in
    let copies = map (λ t. shallow (segments t.to.bytes)) c.args.transfers.now in
    let looked = looks_on c.check_clearing.ensures.looks c.check_locks.ensures.looks in
    let here = held_before (λ w t. IfErr c.check_each.result (λ e. IsRefusedBy (of_checks copies t w) e)) looked c.check_each.ensures.err in
    let both = subst (λ ls. IfErr c.check_each.result (λ e. IsRefusedBy ls e)) (sym (refusing_append (live who.now s).locks (as_caller who) there copies))
    (fails_behind (of_checks there (live who.now s) who) (of_checks copies (live who.now s) who) c.check_each.result here) in
    fails_behind clearing (of_checks (there ++ copies) (live who.now s) who) c.check_each.result both

pub returns-clause-ok : goal.returns-clause-ok
returns-clause-ok g c =
    let who = spec.caller c.args.session.now in
    let s = spec.state g.R.Rng.stream c.args.session.now in
    let to = segments c.args.to.now.bytes in
    let clearing = refusing_clearing (live who.now s) who to (map (λ p. segments p.bytes) c.args.gone.now) in
    let there = target_by c.args.there to in
    let copies = map (λ t. shallow (segments t.to.bytes)) c.args.transfers.now in
    let looked = looks_on c.check_clearing.ensures.looks c.check_locks.ensures.looks in
    let here = held_before (λ w t. of_checks there t w ≡ []) c.check_clearing.ensures.looks c.in_ok-check_locks.ensures.ok in
    let last = held_before (λ w t. OnOk c.check_each.result (of_checks copies t w ≡ [])) looked c.check_each.ensures.ok in
    let both = subst (λ ls. OnOk c.check_each.result (ls ≡ [])) (sym (refusing_append (live who.now s).locks (as_caller who) there copies))
    (passes_behind (of_checks there (live who.now s) who) (of_checks copies (live who.now s) who) c.check_each.result here last) in
    passes_behind clearing (of_checks (there ++ copies) (live who.now s) who) c.check_each.result c.in_ok-check_clearing.ensures.ok both

pub returns-in_err-check_locks-clause-looks : goal.returns-in_err-check_locks-clause-looks
returns-in_err-check_locks-clause-looks g c = looks_on c.check_clearing.ensures.looks c.check_locks.ensures.looks

pub returns-clause-looks : goal.returns-clause-looks
returns-clause-looks g c = looks_on (looks_on c.check_clearing.ensures.looks c.check_locks.ensures.looks) c.check_each.ensures.looks
