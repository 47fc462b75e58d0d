use Rattle.std.proofs.Common.{refl, inr, map, string_bytes, sym, ap, ◌∙◌, subst}
use Rattle.http_header.specs.FieldValue.{IsFieldValue}
use Rattle.dav_path_core.specs.Segments.{segments}
use Rattle.dav_locks_core.specs.Lock.{Lock}
use Rattle.dav_locks_core.specs.Locks.{lock_conflicts}
use Rattle.dav_session_core.specs.Callers.{live}
use Rattle.dav_fields_core.specs.Fields.{in_brackets}
use Rattle.dav_methods_core.specs.Rooms.{wanted_of}
use Rattle.dav_session_core.specs.Sessions as spec
use Rattle.dav_methods_core.proofs.LockLemmas.{granted_now, no_conflict_told, short_of, untold_left}
use Rattle.dav_methods_core.proofs.LockRoomLemmas.{room_kept}
use Rattle.dav_methods_core.proofs.LockTokenLemmas.{is_held}
use Rattle.dav_guarded_core.specs.Requests.{Command}
use Rattle.dav_safe_methods_core.proofs.Acting.{asked_ran, ran_on}
use Rattle.dav_methods_core.proofs.methods.lock.grant.Goals as goal

pub finish-requires-clause-value : goal.finish-requires-clause-value
finish-requires-clause-value g c =
    let named = c.deref.ensures ∙ ap (λ (l : Lock). l.token) c.lock.view_is ∙ ap (λ (l : Lock). l.token) c.in_ok-lock.ensures.ok in
    subst (λ token. IsFieldValue (in_brackets token)) (sym named) (is_held (live (spec.caller c.args.session.now).now (spec.state g.R.Rng.stream c.args.session.now)).rng)

pub returns-in-Ok-clause-done : goal.returns-in-Ok-clause-done
returns-in-Ok-clause-done g c = (
  _,
  c.in-Ok.ensures.sent,
  (
    c.in_ok-lock.lock,
    granted_now (spec.state g.R.Rng.stream c.args.session.now) (spec.state g.R.Rng.stream c.granted.new.session) (spec.caller c.args.session.now)
        (spec.caller c.granted.new.session) c.args.path (wanted_of c.args.wanted) c.args.missing (map string_bytes c.args.above.now) c.in_ok-lock.lock c.granted.ensures.requests.who
        c.requires.ready c.in_ok-lock.ensures.ok c.in_ok-lock.ensures.left c.in_ok-lock.ensures.free c.deref.result.now (c.deref.ensures ∙ ap (λ (l : Lock). l.token) c.lock.view_is)
        c.args.prefix.now c.in-Ok.status _ (spec.state g.R.Rng.stream c.finish.new.session) c.in-Ok.ensures.ok refl
        c.in-Ok.ensures.made,
  ),
)

pub returns-in-Err-clause-err : goal.returns-in-Err-clause-err
returns-in-Err-clause-err g c =
    no_conflict_told (lock_conflicts (live (spec.caller c.args.session.now).now (spec.state g.R.Rng.stream c.args.session.now)).locks (segments c.args.path.bytes) c.args.wanted.shared c.args.wanted.deep)
    c.args.path c.in-Err.fault
    (short_of (spec.state g.R.Rng.stream c.args.session.now) (spec.state g.R.Rng.stream c.granted.new.session) (spec.caller c.args.session.now)
    (spec.caller c.granted.new.session) c.args.path (wanted_of c.args.wanted) c.args.missing (map string_bytes c.args.above.now) c.in_ok-lock.lock c.granted.ensures.requests.who
    c.requires.ready c.in_ok-lock.ensures.ok c.in_ok-lock.ensures.left c.in_ok-lock.ensures.free c.deref.result.now (c.deref.ensures ∙ ap (λ (l : Lock). l.token) c.lock.view_is)
    c.in-Err.fault (spec.state g.R.Rng.stream c.finish.new.session) c.in-Err.ensures.err)

pub returns-in-Err-clause-left : goal.returns-in-Err-clause-left
returns-in-Err-clause-left g c = inr (
  short_of (spec.state g.R.Rng.stream c.args.session.now) (spec.state g.R.Rng.stream c.granted.new.session) (spec.caller c.args.session.now)
      (spec.caller c.granted.new.session) c.args.path (wanted_of c.args.wanted) c.args.missing (map string_bytes c.args.above.now) c.in_ok-lock.lock c.granted.ensures.requests.who
      c.requires.ready c.in_ok-lock.ensures.ok c.in_ok-lock.ensures.left c.in_ok-lock.ensures.free c.deref.result.now (c.deref.ensures ∙ ap (λ (l : Lock). l.token) c.lock.view_is)
      c.in-Err.fault (spec.state g.R.Rng.stream c.finish.new.session) c.in-Err.ensures.err,
  untold_left (spec.state g.R.Rng.stream c.args.session.now) (spec.state g.R.Rng.stream c.granted.new.session) (spec.caller c.args.session.now)
      (spec.caller c.granted.new.session) c.args.path (wanted_of c.args.wanted) c.args.missing (map string_bytes c.args.above.now) c.in_ok-lock.lock c.granted.ensures.requests.who
      c.requires.ready c.in_ok-lock.ensures.ok c.in_ok-lock.ensures.left (spec.caller c.finish.new.session) (spec.state g.R.Rng.stream c.finish.new.session)
      (spec.state g.R.Rng.stream c.forget.new.session) _ c.finish.ensures.ran.who c.in-Err.ensures.refused (sym (ap (λ (l : Lock). l.token) c.lock.view_is)) c.forget.ensures.left,
)

pub returns-in-Ok-clause-ran : goal.returns-in-Ok-clause-ran
returns-in-Ok-clause-ran g c =
    ran_on (asked_ran c.granted.ensures.requests) c.finish.ensures.ran

pub returns-in-Err-clause-ran : goal.returns-in-Err-clause-ran
returns-in-Err-clause-ran g c =
    ran_on (asked_ran c.granted.ensures.requests) (ran_on c.finish.ensures.ran (asked_ran c.forget.ensures.asks))

pub forget-requires : goal.forget-requires
forget-requires g c =
    let command = Command.Unlock (segments c.args.path.bytes) c.in_ok-lock.lock.token in
    let there = room_kept c.granted.new.session c.finish.new.session c.finish.ensures.room c.finish.ensures.ran.who command c.in_ok-lock.ensures.room in
    record {
      room = subst (λ token. spec.HasRoomFor (Command.Unlock (segments c.args.path.bytes) token) c.finish.new.session) (sym (ap (λ (l : Lock). l.token) c.lock.view_is)) there;
    }

pub returns-in_err-lock-clause-ran : goal.returns-in_err-lock-clause-ran
returns-in_err-lock-clause-ran g c = asked_ran c.granted.ensures.requests
