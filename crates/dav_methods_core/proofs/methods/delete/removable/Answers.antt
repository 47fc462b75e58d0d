use Rattle.std.proofs.Common.{◌≡◌, [], sym, ◌∙◌, map, subst}
use Rattle.std.specs.Prelude.{IsSome}
use Rattle.std.proofs.lemmas.Result.{err_from_is_err_and}
use Rattle.dav_path_core.specs.PathText.{PathText}
use Rattle.dav_path_core.specs.Segments.{segments}
use Rattle.dav_files_core.specs.Resources.{at_path}
use Rattle.dav_guarded_core.specs.Step.{State}
use Rattle.dav_session_core.specs.Callers.{live}
use Rattle.dav_session_core.specs.LocksInTheWay.{IsRefusedBy}
use Rattle.dav_session_core.specs.Questions.{FailsToWalk}
use Rattle.dav_session_core.specs.Removing.{refusing_removal}
use Rattle.dav_session_core.specs.Sessions as spec
use Rattle.dav_session_core.specs.Subtrees.{IsSubtreeWalk}
use Rattle.dav_session_core.proofs.Looking.{looks_on}
use Rattle.dav_session_core.proofs.RemovalCheckLemmas.{no_root_there}
use Rattle.dav_methods_core.specs.DeleteMethod.{CantRemove}
use Rattle.dav_methods_core.proofs.DeleteLemmas.{can_remove, removal_fails, removal_halted, removal_unwalked}
use Rattle.dav_methods_core.proofs.methods.delete.removable.Goals as goal

pub returns-in_err-check_reach-clause-err : goal.returns-in_err-check_reach-clause-err
returns-in_err-check_reach-clause-err g c =
    let q = err_from_is_err_and c.from_residual.result c.from_residual.ensures.1 in
    rw (q.1, q.2) (removal_halted c.args.headers.now (spec.caller c.args.session.now) (spec.state g.R.Rng.stream c.args.session.now) (segments c.args.path.now.bytes)
    c.in_err-check_reach.field-0.0 c.in_err-check_reach.ensures.err)

pub returns-in_err-places-clause-err : goal.returns-in_err-places-clause-err
returns-in_err-places-clause-err g c =
    let q = err_from_is_err_and c.from_residual-in_err-places.result c.from_residual-in_err-places.ensures.1 in
    let p = segments c.args.path.now.bytes in
    let e = c.in_err-places.field-0.0 in
    let a = spec.state g.R.Rng.stream c.check_reach.new.session in
    rw (q.1, q.2) (removal_unwalked c.args.headers.now (spec.caller c.args.session.now) (spec.state g.R.Rng.stream c.args.session.now) p e
    c.in_ok-check_reach.ensures.ok (no_root_there p (sym c.is_root.ensures ∙ c.if-is_root.false))
    (subst (λ (t : State). FailsToWalk t.map p e) c.check_reach.ensures.looks.live
    (subst (λ (q : PathText). FailsToWalk a.map (segments q.bytes) e) c.in_ok-copy_of.ensures c.in_err-places.ensures.err)))

pub returns-in-Ok-clause-ok : goal.returns-in-Ok-clause-ok
returns-in-Ok-clause-ok g c =
    let who = spec.caller c.args.session.now in
    let s = spec.state g.R.Rng.stream c.args.session.now in
    let a = spec.state g.R.Rng.stream c.check_reach.new.session in
    let mid = spec.state g.R.Rng.stream c.walk.new.self in
    let asker = spec.caller c.walk.new.self in
    let places = map (λ q. segments q.bytes) c.in_ok-places.places.items in
    let p = segments c.args.path.now.bytes in
    let looks = looks_on c.check_reach.ensures.looks c.walk.ensures.looks in
    let walk = subst (λ (t : State). IsSubtreeWalk t.map p places) c.check_reach.ensures.looks.live
    (subst (λ (q : PathText). IsSubtreeWalk a.map (segments q.bytes) places) c.in_ok-copy_of.ensures c.in_ok-places.ensures.ok) in
    let stood = subst (λ (t : State). IsSome (at_path t.map p)) c.check_reach.ensures.looks.live
    (subst (λ (q : PathText). IsSome (at_path a.map (segments q.bytes))) c.in_ok-copy_of.ensures c.in_ok-places.ensures.found) in
    let free = subst (λ xs. refusing_removal (live asker.now mid) asker (map (λ q. segments q.bytes) xs) ≡ []) c.deref.ensures.value c.in-Ok.ensures.ok in
    can_remove c.args.headers.now who asker s mid p places c.in_ok-check_reach.ensures.ok (no_root_there p (sym c.is_root.ensures ∙ c.if-is_root.false))
    stood walk looks.who looks.live free

pub returns-in-Err-clause-err : goal.returns-in-Err-clause-err
returns-in-Err-clause-err g c =
    let who = spec.caller c.args.session.now in
    let s = spec.state g.R.Rng.stream c.args.session.now in
    let a = spec.state g.R.Rng.stream c.check_reach.new.session in
    let mid = spec.state g.R.Rng.stream c.walk.new.self in
    let asker = spec.caller c.walk.new.self in
    let places = map (λ q. segments q.bytes) c.in_ok-places.places.items in
    let p = segments c.args.path.now.bytes in
    let e = c.in-Err.fault in
    let looks = looks_on c.check_reach.ensures.looks c.walk.ensures.looks in
    subst (CantRemove c.args.headers.now (live who.now s) who p) (sym c.by_place.ensures) (removal_fails c.args.headers.now who asker s mid p places e
    c.in_ok-check_reach.ensures.ok (no_root_there p (sym c.is_root.ensures ∙ c.if-is_root.false))
    (subst (λ (t : State). IsSubtreeWalk t.map p places) c.check_reach.ensures.looks.live
    (subst (λ (q : PathText). IsSubtreeWalk a.map (segments q.bytes) places) c.in_ok-copy_of.ensures c.in_ok-places.ensures.ok))
    looks.who looks.live
    (subst (λ xs. IsRefusedBy (refusing_removal (live asker.now mid) asker (map (λ q. segments q.bytes) xs)) e) c.deref.ensures.value c.in-Err.ensures.err))

pub returns-in_err-places-clause-looks : goal.returns-in_err-places-clause-looks
returns-in_err-places-clause-looks g c = looks_on c.check_reach.ensures.looks c.walk.ensures.looks

pub returns-in-Ok-clause-looks : goal.returns-in-Ok-clause-looks
returns-in-Ok-clause-looks g c = looks_on (looks_on c.check_reach.ensures.looks c.walk.ensures.looks) c.check_removal.ensures.looks

pub returns-in-Err-clause-looks : goal.returns-in-Err-clause-looks
returns-in-Err-clause-looks g c = looks_on (looks_on c.check_reach.ensures.looks c.walk.ensures.looks) c.check_removal.ensures.looks
