use Rattle.std.proofs.Common.{◌≡◌, ◌∙◌, [], not, ap, subst}
use Rattle.std.specs.Prelude.{IfErr, IsSome, OnOk}
use Rattle.std.proofs.lemmas.Result.{IfErr-weaker, on_ok_weaker}
use Rattle.dav_path_core.specs.Fronts.{Path}
use Rattle.dav_path_core.specs.PathText.{PathText}
use Rattle.dav_path_core.specs.Segments.{segments}
use Rattle.dav_files_core.specs.Resources.{at_path}
use Rattle.dav_files_core.proofs.paths.SubtreeMaps.{stands_as}
use Rattle.dav_guarded_core.specs.Step.{State}
use Rattle.dav_faults_core.specs.declared.faults.Fault.{Fault}
use Rattle.dav_faults_core.specs.declared.faults.Fault.TheVariants as fault
use Rattle.dav_session_core.specs.Callers.{Caller, live, refusing_at}
use Rattle.dav_session_core.specs.Ends.{known_at}
use Rattle.dav_session_core.specs.LocksInTheWay.{IsRefusedBy}
use Rattle.dav_session_core.specs.Sessions as spec
use Rattle.dav_session_core.proofs.Looking.{looks_none, looks_on}
use Rattle.dav_safe_methods_core.proofs.Acting.{held_before}
use Rattle.dav_methods_core.specs.ProppatchMethod.{LacksStanding}
use Rattle.dav_methods_core.proofs.methods.proppatch.check_standing.Goals as goal

-- what stands there is refused by a lock alone
lacks_by_lock : (s : State) (who : Caller) (p : Path) → IsSome (at_path s.map p) → (e : Fault) → IsRefusedBy (refusing_at s who p) e → LacksStanding s who p e
lacks_by_lock s who p stood fault.InsufficientStorage h = tt
lacks_by_lock s who p stood (fault.Locked path) h = (stood, h)
lacks_by_lock s who p stood _ h = absurd h

pub returns-in_err-copy_of-clause-looks : goal.returns-in_err-copy_of-clause-looks
returns-in_err-copy_of-clause-looks g c = looks_none g.R.Rng.stream c.args.session.now

pub returns-clause-looks : goal.returns-clause-looks
returns-clause-looks g c = looks_on c.meta-known.ensures.looks c.check.ensures.looks

pub returns-clause-ok : goal.returns-clause-ok
returns-clause-ok g c =
    let who = spec.caller c.args.session.now in
    let s = spec.state g.R.Rng.stream c.args.session.now in
    let asker = spec.caller c.meta-known.new.self in
    let mid = spec.state g.R.Rng.stream c.meta-known.new.self in
    let p = segments c.args.path.now.bytes in
    let stood = stands_as c.meta-known.result (at_path s.map p) (c.meta-known.ensures.found ∙ ap (λ (q : PathText). known_at s.map (segments q.bytes)) c.in_ok-copy_of.ensures)
    (c.is_none.ensures ∙ ap not c.if-is_none.false) in
    on_ok_weaker c.check.result (λ (free : refusing_at (live who.now s) who p ≡ []). (stood, free))
    (held_before (λ w t. OnOk c.check.result (refusing_at t w p ≡ [])) c.meta-known.ensures.looks
    (subst (λ (q : PathText). OnOk c.check.result (refusing_at (live asker.now mid) asker (segments q.bytes) ≡ [])) c.in_ok-copy_of-2.ensures c.check.ensures.ok))

pub returns-clause-err : goal.returns-clause-err
returns-clause-err g c =
    let who = spec.caller c.args.session.now in
    let s = spec.state g.R.Rng.stream c.args.session.now in
    let asker = spec.caller c.meta-known.new.self in
    let mid = spec.state g.R.Rng.stream c.meta-known.new.self in
    let p = segments c.args.path.now.bytes in
    let stood = stands_as c.meta-known.result (at_path s.map p) (c.meta-known.ensures.found ∙ ap (λ (q : PathText). known_at s.map (segments q.bytes)) c.in_ok-copy_of.ensures)
    (c.is_none.ensures ∙ ap not c.if-is_none.false) in
    IfErr-weaker c.check.result (λ e. IsRefusedBy (refusing_at (live who.now s) who p) e) (λ e. LacksStanding (live who.now s) who p e) (lacks_by_lock (live who.now s) who p stood)
    (held_before (λ w t. IfErr c.check.result (λ e. IsRefusedBy (refusing_at t w p) e)) c.meta-known.ensures.looks
    (subst (λ (q : PathText). IfErr c.check.result (λ e. IsRefusedBy (refusing_at (live asker.now mid) asker (segments q.bytes)) e)) c.in_ok-copy_of-2.ensures c.check.ensures.err))
