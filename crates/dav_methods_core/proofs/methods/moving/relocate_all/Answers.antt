use Rattle.http_server.specs.Response.{fields_of}
use Rattle.dav_fields_core.specs.Fields.{Sent}
use Rattle.dav_methods_core.specs.CreatedPlaces.{place_fields}
use Rattle.dav_safe_methods_core.proofs.SentLemmas.{sent_is}
use Rattle.std.proofs.Common.{◌≡◌, inl, [], ◌++◌, map, cond, refl, sym, ap, ◌∙◌, subst}
use Rattle.dav_path_core.specs.declared.util.DavMethod.TheVariants as method
use Rattle.std.specs.Prelude.{option_map}
use Rattle.std.proofs.lemmas.Result.{err_from_is_err_and}
use Rattle.dav_path_core.specs.Segments.{segments}
use Rattle.dav_files_core.specs.Meta.{meta_at, meta_of}
use Rattle.dav_files_core.specs.Resources.{IsResourceMap, Resource, at_path}
use Rattle.dav_faults_core.specs.declared.faults.Fault.TheVariants as fault
use Rattle.dav_session_core.specs.Callers.{live}
use Rattle.dav_session_core.specs.LocksInTheWay.{IsRefusedBy, by_place}
use Rattle.dav_guarded_core.specs.Step.{State}
use Rattle.dav_methods_core.specs.MoveMethod.{CantMove, IsMovable}
use Rattle.dav_session_core.specs.Moving.{refusing_move}
use Rattle.dav_session_core.specs.Sessions as spec
use Rattle.dav_methods_core.proofs.MoveCheckLemmas.{movable, move_all, move_begun, move_left, move_locked, move_lost, move_ready, move_short, move_unfit}
use Rattle.dav_methods_core.proofs.CourseLemmas.{course_stays, stopped_after}
use Rattle.dav_session_core.proofs.Looking.{acts_on, looks_before, looks_on}
use Rattle.dav_safe_methods_core.proofs.Acting.{looks_act, looks_act_thrice}
use Rattle.dav_session_core.proofs.PutLemmas.{known_there}
use Rattle.dav_methods_core.proofs.methods.moving.relocate_all.Goals as goal

pub returns-in_err-target-clause-err : goal.returns-in_err-target-clause-err
returns-in_err-target-clause-err g c =
    let q = err_from_is_err_and c.from_residual.result c.from_residual.ensures.1 in
    rw (q.1, q.2) (inl (move_unfit c.args.site.now c.args.prefix.now c.args.headers.now (spec.caller c.args.session.now) (spec.state g.R.Rng.stream c.args.session.now)
    (segments c.args.path.bytes) c.in_err-target.field-0.0 c.requires.reaches c.in_err-target.ensures.err))

pub returns-in-Err-clause-err : goal.returns-in-Err-clause-err
returns-in-Err-clause-err g c =
    let who = spec.caller c.args.session.now in
    let s = spec.state g.R.Rng.stream c.args.session.now in
    let asker = spec.caller c.ends_of.new.session in
    let a = spec.state g.R.Rng.stream c.ends_of.new.session in
    let from = segments c.args.path.bytes in
    let to = c.in_ok-target.field-0.target in
    let gone = map (λ q. segments q.bytes) c.in_ok-target.field-0.gone.items in
    let e = c.in-Err.fault in
    inl (subst (CantMove c.args.site.now c.args.prefix.now c.args.headers.now (live who.now s) who from) (sym (c.by_place-in-Err.ensures ∙ ap (by_place from) c.by_place.ensures))
    (move_locked c.args.site.now c.args.prefix.now c.args.headers.now who s from to (option_map meta_of c.in_ok-target.field-0.known) gone c.in_ok-target.ensures.ok asker a e
    c.requires.reaches c.ends_of.ensures.looks.who c.ends_of.ensures.looks.live
    (subst (λ xs. IsRefusedBy (refusing_move (live asker.now a) asker from (segments to.bytes) (map (λ q. segments q.bytes) xs)) e) c.deref.ensures.value c.in-Err.ensures.err)))

pub returns-in_err-check_conditions-clause-err : goal.returns-in_err-check_conditions-clause-err
returns-in_err-check_conditions-clause-err g c =
    let q = err_from_is_err_and c.from_residual-in_err-check_conditions.result c.from_residual-in_err-check_conditions.ensures.1 in
    let who = spec.caller c.args.session.now in
    let s = spec.state g.R.Rng.stream c.args.session.now in
    let asker = spec.caller c.ends_of.new.session in
    let a = spec.state g.R.Rng.stream c.ends_of.new.session in
    let from = segments c.args.path.bytes in
    let site = c.args.site.now in
    let prefix = c.args.prefix.now in
    let headers = c.args.headers.now in
    let to = c.in_ok-target.field-0.target in
    let gone = map (λ q. segments q.bytes) c.in_ok-target.field-0.gone.items in
    let free = subst (λ xs. refusing_move (live asker.now a) asker from (segments to.bytes) (map (λ q. segments q.bytes) xs) ≡ []) c.deref.ensures.value c.in-Ok.ensures.ok in
    let can = movable site prefix headers who s from to (option_map meta_of c.in_ok-target.field-0.known) gone c.in_ok-target.ensures.ok asker a (spec.caller c.check_move.new.session)
    (spec.state g.R.Rng.stream c.check_move.new.session) a c.ends_of.ensures.looks.who c.ends_of.ensures.looks.live c.check_move.ensures.looks.who c.check_move.ensures.looks.live
    c.requires.reaches free in
    let before = looks_on c.ends_of.ensures.looks c.check_move.ensures.looks in
    rw (q.1, q.2) (stopped_after method.Move from headers who.now s (spec.state g.R.Rng.stream c.check_move.new.session) before.live
    (CantMove site prefix headers (live who.now s) who from) (IsMovable site prefix headers (live who.now s) who from) c.in_err-check_conditions.field-0.0 CantMove.memory can
    c.in_err-check_conditions.ensures.err)

pub returns-in_err-check_conditions-clause-left : goal.returns-in_err-check_conditions-clause-left
returns-in_err-check_conditions-clause-left g c =
    let q = err_from_is_err_and c.from_residual-in_err-check_conditions.result c.from_residual-in_err-check_conditions.ensures.1 in
    let looks = looks_on c.ends_of.ensures.looks (looks_on c.check_move.ensures.looks c.check_conditions.ensures.looks) in
    rw (q.1, q.2) (move_left c.args.site.now c.args.prefix.now c.args.headers.now (spec.caller c.args.session.now) (spec.state g.R.Rng.stream c.args.session.now)
    (segments c.args.path.bytes) c.in_err-check_conditions.field-0.0 (spec.state g.R.Rng.stream c.check_conditions.new.session) looks.live)

pub returns-in_err-say_place-clause-err : goal.returns-in_err-say_place-clause-err
returns-in_err-say_place-clause-err g c =
    let q = err_from_is_err_and c.from_residual-in_err-say_place.result c.from_residual-in_err-say_place.ensures.1 in
    rw (q.1, q.2) (move_lost c.args.site.now c.args.prefix.now c.args.headers.now (spec.caller c.args.session.now) (spec.state g.R.Rng.stream c.args.session.now)
    (segments c.args.path.bytes) c.in_err-say_place.field-0.0 c.in_err-say_place.ensures.err)

pub returns-in_err-say_place-clause-left : goal.returns-in_err-say_place-clause-left
returns-in_err-say_place-clause-left g c =
    let q = err_from_is_err_and c.from_residual-in_err-say_place.result c.from_residual-in_err-say_place.ensures.1 in
    let looks = looks_on c.ends_of.ensures.looks (looks_on c.check_move.ensures.looks c.check_conditions.ensures.looks) in
    rw (q.1, q.2) (move_left c.args.site.now c.args.prefix.now c.args.headers.now (spec.caller c.args.session.now) (spec.state g.R.Rng.stream c.args.session.now)
    (segments c.args.path.bytes) c.in_err-say_place.field-0.0 (spec.state g.R.Rng.stream c.check_conditions.new.session) looks.live)

pub returns-in_err-clear-clause-err : goal.returns-in_err-clear-clause-err
returns-in_err-clear-clause-err g c =
    let q = err_from_is_err_and c.from_residual-in_err-clear.result c.from_residual-in_err-clear.ensures.1 in
    rw (q.1, q.2) (move_lost c.args.site.now c.args.prefix.now c.args.headers.now (spec.caller c.args.session.now) (spec.state g.R.Rng.stream c.args.session.now)
    (segments c.args.path.bytes) fault.InsufficientStorage refl)

pub returns-in_err-clear-clause-left : goal.returns-in_err-clear-clause-left
returns-in_err-clear-clause-left g c =
    let q = err_from_is_err_and c.from_residual-in_err-clear.result c.from_residual-in_err-clear.ensures.1 in
    let checked = looks_on c.check_move.ensures.looks c.check_conditions.ensures.looks in
    let looks = looks_on (looks_on c.ends_of.ensures.looks checked) (looks_before c.in_err-clear.ensures.refused) in
    rw (q.1, q.2) (move_left c.args.site.now c.args.prefix.now c.args.headers.now (spec.caller c.args.session.now) (spec.state g.R.Rng.stream c.args.session.now)
    (segments c.args.path.bytes) fault.InsufficientStorage (spec.state g.R.Rng.stream c.clear.new.self) looks.live)

pub returns-in_err-clear-clause-acts : goal.returns-in_err-clear-clause-acts
returns-in_err-clear-clause-acts g c =
    acts_on (looks_act_thrice c.ends_of.ensures.looks c.check_move.ensures.looks c.check_conditions.ensures.looks) c.clear.ensures.acts

pub returns-clause-sent : goal.returns-clause-sent
returns-clause-sent g c =
    let to = c.in_ok-target.field-0.target in
    let sent : Sent = record { fields = place_fields c.args.prefix.now to c.done.result; body = [] } in (
      sent,
      sent_is c.say_place.new.response (fields_of c.args.response.now ++ place_fields c.args.prefix.now to c.done.result) []
          (c.in_ok-say_place.ensures.fields ∙ ap (λ status. fields_of c.args.response.now ++ place_fields c.args.prefix.now to status) (sym c.done.ensures))
          (ap (λ b. b.items) c.say_place.ensures.body ∙ c.requires.empty),
      record { to = to; leads = c.in_ok-target.ensures.ok.leads.leads; tells = refl },
    )

pub returns-in_err-relocate-clause-err : goal.returns-in_err-relocate-clause-err
returns-in_err-relocate-clause-err g c =
    let q = err_from_is_err_and c.from_residual-in_err-relocate.result c.from_residual-in_err-relocate.ensures.1 in
    let who = spec.caller c.args.session.now in
    let s = spec.state g.R.Rng.stream c.args.session.now in
    let asker = spec.caller c.ends_of.new.session in
    let a = spec.state g.R.Rng.stream c.ends_of.new.session in
    let checker = spec.caller c.check_conditions.new.session in
    let b = spec.state g.R.Rng.stream c.check_conditions.new.session in
    let checked = looks_on c.check_move.ensures.looks c.check_conditions.ensures.looks in
    let shape = subst (λ (t : State). IsResourceMap t.map) (sym c.check_conditions.ensures.looks.live) c.in-Ok.ensures.shape in
    let m = spec.state g.R.Rng.stream c.clear.new.self in
    let from = segments c.args.path.bytes in
    let to = c.in_ok-target.field-0.target in
    let known = option_map meta_of c.in_ok-target.field-0.known in
    let gone = map (λ q. segments q.bytes) c.in_ok-target.field-0.gone.items in
    let free = subst (λ xs. refusing_move (live asker.now a) asker from (segments to.bytes) (map (λ q. segments q.bytes) xs) ≡ []) c.deref.ensures.value c.in-Ok.ensures.ok in
    let ready = move_ready c.args.site.now c.args.prefix.now c.args.headers.now who s from to known gone c.in_ok-target.ensures.ok asker a checker b m c.ends_of.ensures.looks.who c.ends_of.ensures.looks.live
    checked.who checked.live free shape c.clear.ensures.acts.run c.in_ok-clear.ensures.cleared in
    let mover = spec.caller c.clear.new.self in
    let after = spec.state g.R.Rng.stream c.relocate.new.self in
    let by = c.clear.ensures.acts.who ∙ checked.who ∙ c.ends_of.ensures.looks.who in
    let short = move_short c.args.site.now c.args.prefix.now c.args.headers.now who s from to known gone c.in_ok-target.ensures.ok m ready mover after by c.in_err-relocate.field-0.0
    c.in_err-relocate.ensures.err in
    rw (q.1, q.2) (move_lost c.args.site.now c.args.prefix.now c.args.headers.now who s from c.in_err-relocate.field-0.0 short)

pub returns-in_err-relocate-clause-left : goal.returns-in_err-relocate-clause-left
returns-in_err-relocate-clause-left g c =
    let q = err_from_is_err_and c.from_residual-in_err-relocate.result c.from_residual-in_err-relocate.ensures.1 in
    let who = spec.caller c.args.session.now in
    let s = spec.state g.R.Rng.stream c.args.session.now in
    let asker = spec.caller c.ends_of.new.session in
    let a = spec.state g.R.Rng.stream c.ends_of.new.session in
    let checker = spec.caller c.check_conditions.new.session in
    let b = spec.state g.R.Rng.stream c.check_conditions.new.session in
    let checked = looks_on c.check_move.ensures.looks c.check_conditions.ensures.looks in
    let shape = subst (λ (t : State). IsResourceMap t.map) (sym c.check_conditions.ensures.looks.live) c.in-Ok.ensures.shape in
    let m = spec.state g.R.Rng.stream c.clear.new.self in
    let from = segments c.args.path.bytes in
    let to = c.in_ok-target.field-0.target in
    let known = option_map meta_of c.in_ok-target.field-0.known in
    let gone = map (λ q. segments q.bytes) c.in_ok-target.field-0.gone.items in
    let free = subst (λ xs. refusing_move (live asker.now a) asker from (segments to.bytes) (map (λ q. segments q.bytes) xs) ≡ []) c.deref.ensures.value c.in-Ok.ensures.ok in
    let ready = move_ready c.args.site.now c.args.prefix.now c.args.headers.now who s from to known gone c.in_ok-target.ensures.ok asker a checker b m c.ends_of.ensures.looks.who c.ends_of.ensures.looks.live
    checked.who checked.live free shape c.clear.ensures.acts.run c.in_ok-clear.ensures.cleared in
    let mover = spec.caller c.clear.new.self in
    let after = spec.state g.R.Rng.stream c.relocate.new.self in
    let by = c.clear.ensures.acts.who ∙ checked.who ∙ c.ends_of.ensures.looks.who in
    let short = move_short c.args.site.now c.args.prefix.now c.args.headers.now who s from to known gone c.in_ok-target.ensures.ok m ready mover after by c.in_err-relocate.field-0.0
    c.in_err-relocate.ensures.err in
    let before = looks_on c.ends_of.ensures.looks c.check_move.ensures.looks in
    let lets = course_stays method.Move from c.args.headers.now who.now s (spec.state g.R.Rng.stream c.check_move.new.session) _ before.live c.in_ok-check_conditions.ensures.ok in
    rw (q.1, q.2) (move_begun c.args.site.now c.args.prefix.now c.args.headers.now who s from to known gone c.in_ok-target.ensures.ok m ready mover after by
    c.in_err-relocate.field-0.0 c.requires.reaches lets short c.in_err-relocate.ensures.refused)

pub returns-clause-done : goal.returns-clause-done
returns-clause-done g c =
    let who = spec.caller c.args.session.now in
    let s = spec.state g.R.Rng.stream c.args.session.now in
    let asker = spec.caller c.ends_of.new.session in
    let a = spec.state g.R.Rng.stream c.ends_of.new.session in
    let checker = spec.caller c.check_conditions.new.session in
    let b = spec.state g.R.Rng.stream c.check_conditions.new.session in
    let checked = looks_on c.check_move.ensures.looks c.check_conditions.ensures.looks in
    let shape = subst (λ (t : State). IsResourceMap t.map) (sym c.check_conditions.ensures.looks.live) c.in-Ok.ensures.shape in
    let m = spec.state g.R.Rng.stream c.clear.new.self in
    let from = segments c.args.path.bytes in
    let to = c.in_ok-target.field-0.target in
    let known = option_map meta_of c.in_ok-target.field-0.known in
    let gone = map (λ q. segments q.bytes) c.in_ok-target.field-0.gone.items in
    let free = subst (λ xs. refusing_move (live asker.now a) asker from (segments to.bytes) (map (λ q. segments q.bytes) xs) ≡ []) c.deref.ensures.value c.in-Ok.ensures.ok in
    let there = known_there meta_of (λ (r : Resource). meta_at r.node) c.in_ok-target.field-0.known (at_path s.map (segments to.bytes)) c.in_ok-target.ensures.ok.known_is in
    let before = looks_on c.ends_of.ensures.looks c.check_move.ensures.looks in
    let lets = course_stays method.Move from c.args.headers.now who.now s (spec.state g.R.Rng.stream c.check_move.new.session) _ before.live c.in_ok-check_conditions.ensures.ok in
    move_all c.args.site.now c.args.prefix.now c.args.headers.now who s from to known gone c.in_ok-target.ensures.ok m
    (move_ready c.args.site.now c.args.prefix.now c.args.headers.now who s from to known gone c.in_ok-target.ensures.ok asker a checker b m c.ends_of.ensures.looks.who c.ends_of.ensures.looks.live
    checked.who checked.live free shape c.clear.ensures.acts.run c.in_ok-clear.ensures.cleared)
    (spec.caller c.clear.new.self) (spec.state g.R.Rng.stream c.relocate.new.self) (c.clear.ensures.acts.who ∙ checked.who ∙ c.ends_of.ensures.looks.who)
    c.done.result c.requires.reaches lets (c.done.ensures ∙ ap (λ b. cond b 204 201) there) c.in_ok-relocate.ensures.moved

pub returns-in_err-relocate-clause-acts : goal.returns-in_err-relocate-clause-acts
returns-in_err-relocate-clause-acts g c =
    acts_on (looks_act_thrice c.ends_of.ensures.looks c.check_move.ensures.looks c.check_conditions.ensures.looks) (acts_on c.clear.ensures.acts c.relocate.ensures.acts)

pub returns-clause-acts : goal.returns-clause-acts
returns-clause-acts g c =
    acts_on (looks_act_thrice c.ends_of.ensures.looks c.check_move.ensures.looks c.check_conditions.ensures.looks) (acts_on c.clear.ensures.acts c.relocate.ensures.acts)

pub returns-in_err-target-clause-acts : goal.returns-in_err-target-clause-acts
returns-in_err-target-clause-acts g c = looks_act c.ends_of.ensures.looks

pub returns-in-Err-clause-acts : goal.returns-in-Err-clause-acts
returns-in-Err-clause-acts g c = looks_act (looks_on c.ends_of.ensures.looks c.check_move.ensures.looks)

pub returns-in_err-check_conditions-clause-acts : goal.returns-in_err-check_conditions-clause-acts
returns-in_err-check_conditions-clause-acts g c = looks_act (looks_on (looks_on c.ends_of.ensures.looks c.check_move.ensures.looks) c.check_conditions.ensures.looks)

pub returns-in_err-say_place-clause-acts : goal.returns-in_err-say_place-clause-acts
returns-in_err-say_place-clause-acts g c = looks_act (looks_on (looks_on c.ends_of.ensures.looks c.check_move.ensures.looks) c.check_conditions.ensures.looks)

pub returns-in_err-target-clause-left : goal.returns-in_err-target-clause-left
returns-in_err-target-clause-left g c =
    let q = err_from_is_err_and c.from_residual.result c.from_residual.ensures.1 in
    rw (q.1, q.2) (move_left c.args.site.now c.args.prefix.now c.args.headers.now (spec.caller c.args.session.now) (spec.state g.R.Rng.stream c.args.session.now)
    (segments c.args.path.bytes) c.in_err-target.field-0.0 (spec.state g.R.Rng.stream c.ends_of.new.session) c.ends_of.ensures.looks.live)

pub returns-in-Err-clause-left : goal.returns-in-Err-clause-left
returns-in-Err-clause-left g c =
    let looks = looks_on c.ends_of.ensures.looks c.check_move.ensures.looks in
    move_left c.args.site.now c.args.prefix.now c.args.headers.now (spec.caller c.args.session.now) (spec.state g.R.Rng.stream c.args.session.now)
    (segments c.args.path.bytes) c.by_place-in-Err.result (spec.state g.R.Rng.stream c.check_move.new.session) looks.live
