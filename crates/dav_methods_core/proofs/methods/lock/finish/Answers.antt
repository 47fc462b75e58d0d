use Rattle.std.proofs.Common.{◌≡◌, ◌⊎◌, false, [], Ok, Err, string_bytes, ap}
use Rattle.std.proofs.lemmas.Result.{err_from_is_err_and}
use Rattle.dav_path_core.specs.PathText.{PathText}
use Rattle.dav_path_core.specs.Segments.{segments}
use Rattle.dav_guarded_core.specs.Requests.{Command, Refusal, Reply}
use Rattle.dav_guarded_core.specs.Step.{Serves}
use Rattle.dav_faults_core.specs.declared.faults.Fault.TheVariants as fault
use Rattle.dav_session_core.specs.Callers.{asking}
use Rattle.dav_session_core.specs.Granting.{also_naming}
use Rattle.dav_session_core.specs.StoreRefusals.{put_fault}
use Rattle.dav_session_core.specs.Sessions as spec
use Rattle.dav_methods_core.proofs.LockLemmas.{at_start, made_as, unmade_as}
use Rattle.dav_safe_methods_core.proofs.Acting.{acts_ran, looks_act, ran_on}
use Rattle.dav_session_core.proofs.Looking.{acts_none}
use Rattle.dav_locks_core.proofs.answers.LockListLemmas.{on_err}
use Rattle.dav_session_core.proofs.Asking.{live_as}
use Rattle.dav_methods_core.proofs.methods.lock.finish.Goals as goal

pub returns-in_err-make_under-clause-err : goal.returns-in_err-make_under-clause-err
returns-in_err-make_under-clause-err g c =
    let p = err_from_is_err_and c.from_residual-in_err-make_under.result c.from_residual-in_err-make_under.ensures.1 in
    let who = spec.caller c.args.session.now in
    let s = spec.state g.R.Rng.stream c.args.session.now in
    let m = spec.state g.R.Rng.stream c.locks_at.new.self in
    let after = spec.state g.R.Rng.stream c.make_under.new.self in
    let e = c.in_err-make_under.field-0.0 in
    rw (p.1, p.2) (unmade_as s who c.args.token.now (segments c.args.path.now.bytes) c.args.missing e after c.if-not-missing.false
    (at_start who (spec.caller c.locks_at.new.self) s m c.args.token.now (string_bytes c.in_ok-from_str.field-0) (segments c.args.path.now.bytes) (segments c.in_ok-copy_of-2.field-0.bytes)
    (λ t w token q. (e ≡ fault.InsufficientStorage) ⊎ ((r : Refusal) × (e ≡ put_fault false r) × Serves t (asking (also_naming w token) (Command.Put q [])) (Err r) after))
    c.locks_at.ensures.looks.who c.locks_at.ensures.looks.live c.in_ok-from_str.ensures.ok (ap (λ (path : PathText). segments path.bytes) c.in_ok-copy_of-2.ensures) c.in_err-make_under.ensures.err))

pub returns-clause-made : goal.returns-clause-made
returns-clause-made g c =
    let who = spec.caller c.args.session.now in
    let s = spec.state g.R.Rng.stream c.args.session.now in
    let m = spec.state g.R.Rng.stream c.locks_at.new.self in
    let after = spec.state g.R.Rng.stream c.make_under.new.self in
    made_as s who c.args.token.now (segments c.args.path.now.bytes) c.args.missing after c.if-not-missing.false
    (at_start who (spec.caller c.locks_at.new.self) s m c.args.token.now (string_bytes c.in_ok-from_str.field-0) (segments c.args.path.now.bytes) (segments c.in_ok-copy_of-2.field-0.bytes)
    (λ t w token q. (reply : Reply) × Serves t (asking (also_naming w token) (Command.Put q [])) (Ok reply) after)
    c.locks_at.ensures.looks.who c.locks_at.ensures.looks.live c.in_ok-from_str.ensures.ok (ap (λ (path : PathText). segments path.bytes) c.in_ok-copy_of-2.ensures) c.in_ok-make_under.ensures.ok)

pub returns-in_err-make_under-clause-ran : goal.returns-in_err-make_under-clause-ran
returns-in_err-make_under-clause-ran g c =
    ran_on (acts_ran (looks_act c.locks_at.ensures.looks)) c.make_under.ensures.ran

pub returns-clause-ran : goal.returns-clause-ran
returns-clause-ran g c =
    ran_on (acts_ran (looks_act c.locks_at.ensures.looks)) c.make_under.ensures.ran

pub returns-in_err-make_under-clause-room : goal.returns-in_err-make_under-clause-room
returns-in_err-make_under-clause-room g c = λ count bytes room. c.make_under.ensures.room count bytes (c.locks_at.ensures.room count bytes room)

pub returns-clause-room : goal.returns-clause-room
returns-clause-room g c = λ count bytes room. c.make_under.ensures.room count bytes (c.locks_at.ensures.room count bytes room)

pub returns-in_err-copy_of-clause-ran : goal.returns-in_err-copy_of-clause-ran
returns-in_err-copy_of-clause-ran g c = acts_ran (acts_none g.R.Rng.stream c.args.session.now)

pub returns-in_err-copy_of-clause-room : goal.returns-in_err-copy_of-clause-room
returns-in_err-copy_of-clause-room g c = λ count bytes room. room

pub returns-in_err-locks-clause-refused : goal.returns-in_err-locks-clause-refused
returns-in_err-locks-clause-refused g c = on_err c.from_residual-in_err-locks.result c.locks_at.ensures.looks.live

pub returns-in_err-locks-clause-ran : goal.returns-in_err-locks-clause-ran
returns-in_err-locks-clause-ran g c = acts_ran (looks_act c.locks_at.ensures.looks)

pub returns-in_err-locks-clause-room : goal.returns-in_err-locks-clause-room
returns-in_err-locks-clause-room g c = c.locks_at.ensures.room

pub returns-in_err-document-clause-refused : goal.returns-in_err-document-clause-refused
returns-in_err-document-clause-refused g c = on_err c.from_residual-in_err-document.result c.locks_at.ensures.looks.live

pub returns-in_err-document-clause-ran : goal.returns-in_err-document-clause-ran
returns-in_err-document-clause-ran g c = acts_ran (looks_act c.locks_at.ensures.looks)

pub returns-in_err-document-clause-room : goal.returns-in_err-document-clause-room
returns-in_err-document-clause-room g c = c.locks_at.ensures.room

pub returns-in_err-tell-clause-refused : goal.returns-in_err-tell-clause-refused
returns-in_err-tell-clause-refused g c = on_err c.from_residual-in_err-tell.result c.locks_at.ensures.looks.live

pub returns-in_err-tell-clause-ran : goal.returns-in_err-tell-clause-ran
returns-in_err-tell-clause-ran g c = acts_ran (looks_act c.locks_at.ensures.looks)

pub returns-in_err-tell-clause-room : goal.returns-in_err-tell-clause-room
returns-in_err-tell-clause-room g c = c.locks_at.ensures.room

pub returns-then-not-missing-clause-ran : goal.returns-then-not-missing-clause-ran
returns-then-not-missing-clause-ran g c = acts_ran (looks_act c.locks_at.ensures.looks)

pub returns-then-not-missing-clause-room : goal.returns-then-not-missing-clause-room
returns-then-not-missing-clause-room g c = c.locks_at.ensures.room

pub returns-in_err-copy_of-2-clause-refused : goal.returns-in_err-copy_of-2-clause-refused
returns-in_err-copy_of-2-clause-refused g c = on_err c.from_residual-in_err-copy_of-2.result c.locks_at.ensures.looks.live

pub returns-in_err-copy_of-2-clause-ran : goal.returns-in_err-copy_of-2-clause-ran
returns-in_err-copy_of-2-clause-ran g c = acts_ran (looks_act c.locks_at.ensures.looks)

pub returns-in_err-copy_of-2-clause-room : goal.returns-in_err-copy_of-2-clause-room
returns-in_err-copy_of-2-clause-room g c = c.locks_at.ensures.room

pub returns-in_err-from_str-clause-refused : goal.returns-in_err-from_str-clause-refused
returns-in_err-from_str-clause-refused g c = on_err c.from_residual-in_err-from_str.result c.locks_at.ensures.looks.live

pub returns-in_err-from_str-clause-ran : goal.returns-in_err-from_str-clause-ran
returns-in_err-from_str-clause-ran g c = acts_ran (looks_act c.locks_at.ensures.looks)

pub returns-in_err-from_str-clause-room : goal.returns-in_err-from_str-clause-room
returns-in_err-from_str-clause-room g c = c.locks_at.ensures.room

pub returns-in_err-make_under-clause-refused : goal.returns-in_err-make_under-clause-refused
returns-in_err-make_under-clause-refused g c =
    on_err c.from_residual-in_err-make_under.result (live_as (spec.caller c.args.session.now) (spec.caller c.locks_at.new.self) (spec.state g.R.Rng.stream c.args.session.now)
    (spec.state g.R.Rng.stream c.locks_at.new.self) (spec.state g.R.Rng.stream c.make_under.new.self) c.locks_at.ensures.looks.who c.locks_at.ensures.looks.live c.in_err-make_under.ensures.refused)
