use Rattle.std.proofs.Common.{Ok, ◌≡◌, ◌∙◌, inl, sym, ap, subst, is_some, if◌then◌else◌}
use Rattle.std.specs.Prelude.{option_map}
use Rattle.std.proofs.lemmas.Result.{err_from_is_err_and}
use Rattle.dav_path_core.specs.declared.util.DavMethod.TheVariants as method
use Rattle.dav_path_core.specs.Segments.{segments}
use Rattle.dav_files_core.specs.Meta.{meta_at, meta_of}
use Rattle.dav_files_core.specs.Resources.{Resource, at_path}
use Rattle.dav_guarded_core.specs.Requests.{Command}
use Rattle.dav_guarded_core.specs.Served.{reply_of, refusal_of}
use Rattle.dav_guarded_core.specs.Step.{State}
use Rattle.dav_session_core.specs.Ends.{known_at}
use Rattle.dav_session_core.specs.Sessions as spec
use Rattle.dav_session_core.specs.StoreRefusals.{put_fault}
use Rattle.dav_session_core.proofs.Looking.{acts_none, looks_none, looks_on}
use Rattle.dav_session_core.proofs.AskedLemmas.{behind_look}
use Rattle.dav_session_core.proofs.PutLemmas.{after_look, known_there}
use Rattle.dav_methods_core.specs.PutMethod.{CanPut, CantPut, FailsToPut}
use Rattle.dav_safe_methods_core.proofs.Acting.{acts_behind, looks_act}
use Rattle.dav_methods_core.proofs.CourseLemmas.{course_stays, stopped_after}
use Rattle.dav_methods_core.proofs.PutMethodLemmas.{can_put, free_way, lacks_place_at, locked, put_done, put_unmade}
use Rattle.dav_locks_core.proofs.answers.LockListLemmas.{on_err}
use Rattle.dav_methods_core.proofs.methods.put.put.Goals as goal

pub returns-in_err-check_locks-clause-err : goal.returns-in_err-check_locks-clause-err
returns-in_err-check_locks-clause-err g c =
    let q = err_from_is_err_and c.from_residual-in_err-check_locks.result c.from_residual-in_err-check_locks.ensures.1 in
    let who = spec.caller c.args.session.now in
    let s = spec.state g.R.Rng.stream c.args.session.now in
    let p = segments c.args.path.bytes in
    let known = option_map meta_of c.meta-known.result in
    let found : known ≡ known_at s.map p = c.meta-known.ensures.found ∙ ap (λ p. known_at s.map (segments p.bytes)) c.in_ok-copy_of.ensures in
    let there : c.is_some.result ≡ is_some (at_path s.map p) =
    c.is_some.ensures ∙ known_there meta_of (λ (r : Resource). meta_at r.node) c.meta-known.result (at_path s.map p) found in
    rw (q.1, q.2) (inl (locked who (spec.caller c.meta-known.new.self) s (spec.state g.R.Rng.stream c.meta-known.new.self) p c.args.bytes c.is_some.result
    c.in_err-check_locks.field-0.0 c.meta-known.ensures.looks.who c.meta-known.ensures.looks.live there c.in_err-check_locks.ensures.err))

pub returns-in_err-check_place-clause-err : goal.returns-in_err-check_place-clause-err
returns-in_err-check_place-clause-err g c =
    let q = err_from_is_err_and c.from_residual-in_err-check_place.result c.from_residual-in_err-check_place.ensures.1 in
    let who = spec.caller c.args.session.now in
    let s = spec.state g.R.Rng.stream c.args.session.now in
    let p = segments c.args.path.bytes in
    let known = option_map meta_of c.meta-known.result in
    let found : known ≡ known_at s.map p = c.meta-known.ensures.found ∙ ap (λ p. known_at s.map (segments p.bytes)) c.in_ok-copy_of.ensures in
    let there : c.is_some.result ≡ is_some (at_path s.map p) =
    c.is_some.ensures ∙ known_there meta_of (λ (r : Resource). meta_at r.node) c.meta-known.result (at_path s.map p) found in
    let free = free_way who (spec.caller c.meta-known.new.self) s (spec.state g.R.Rng.stream c.meta-known.new.self) p c.args.bytes c.is_some.result
    c.meta-known.ensures.looks.who c.meta-known.ensures.looks.live there c.in_ok-check_locks.ensures.ok in
    let locked = looks_on c.meta-known.ensures.looks c.check_locks.ensures.looks in
    let map = ap (λ (t : State). t.map) locked.live in
    rw (q.1, q.2) (inl (lacks_place_at who s p c.args.bytes known c.in_err-check_place.field-0.0 found free
    (spec.state g.R.Rng.stream c.check_locks.new.session) map c.in_err-check_place.ensures.err))

pub returns-in_err-check_conditions-clause-err : goal.returns-in_err-check_conditions-clause-err
returns-in_err-check_conditions-clause-err g c =
    let q = err_from_is_err_and c.from_residual-in_err-check_conditions.result c.from_residual-in_err-check_conditions.ensures.1 in
    let who = spec.caller c.args.session.now in
    let s = spec.state g.R.Rng.stream c.args.session.now in
    let p = segments c.args.path.bytes in
    let known = option_map meta_of c.meta-known.result in
    let found : known ≡ known_at s.map p = c.meta-known.ensures.found ∙ ap (λ p. known_at s.map (segments p.bytes)) c.in_ok-copy_of.ensures in
    let there : c.is_some.result ≡ is_some (at_path s.map p) =
    c.is_some.ensures ∙ known_there meta_of (λ (r : Resource). meta_at r.node) c.meta-known.result (at_path s.map p) found in
    let free = free_way who (spec.caller c.meta-known.new.self) s (spec.state g.R.Rng.stream c.meta-known.new.self) p c.args.bytes c.is_some.result
    c.meta-known.ensures.looks.who c.meta-known.ensures.looks.live there c.in_ok-check_locks.ensures.ok in
    let locked = looks_on c.meta-known.ensures.looks c.check_locks.ensures.looks in
    let map = ap (λ (t : State). t.map) locked.live in
    let placed = looks_on locked c.check_place.ensures.looks in
    rw (q.1, q.2) (stopped_after method.Put p c.args.headers.now who.now s (spec.state g.R.Rng.stream c.check_place.new.session) placed.live
    (CantPut s who p c.args.bytes) (CanPut s who p c.args.bytes) c.in_err-check_conditions.field-0.0 tt
    (can_put who s p c.args.bytes known found free (spec.state g.R.Rng.stream c.check_locks.new.session) map c.in_ok-check_place.ensures.ok) c.in_err-check_conditions.ensures.err)

pub returns-in-Ok-clause-done : goal.returns-in-Ok-clause-done
returns-in-Ok-clause-done g c =
    let who = spec.caller c.args.session.now in
    let s = spec.state g.R.Rng.stream c.args.session.now in
    let p = segments c.args.path.bytes in
    let known = option_map meta_of c.meta-known.result in
    let found : known ≡ known_at s.map p = c.meta-known.ensures.found ∙ ap (λ p. known_at s.map (segments p.bytes)) c.in_ok-copy_of.ensures in
    let at : is_some c.meta-known.result ≡ is_some (at_path s.map p) =
    known_there meta_of (λ (r : Resource). meta_at r.node) c.meta-known.result (at_path s.map p) found in
    let there : c.is_some.result ≡ is_some (at_path s.map p) = c.is_some.ensures ∙ at in
    let placed = looks_on (looks_on c.meta-known.ensures.looks c.check_locks.ensures.looks) c.check_place.ensures.looks in
    let looks = looks_on placed c.check_conditions.ensures.looks in
    record {
      status_is = c.done.ensures ∙ ap (λ b. if b then 204 else 201) at;
      course = course_stays method.Put p c.args.headers.now who.now s (spec.state g.R.Rng.stream c.check_place.new.session) _ placed.live
          c.in_ok-check_conditions.ensures.ok;
      free = free_way who (spec.caller c.meta-known.new.self) s (spec.state g.R.Rng.stream c.meta-known.new.self) p c.args.bytes c.is_some.result
          c.meta-known.ensures.looks.who c.meta-known.ensures.looks.live there c.in_ok-check_locks.ensures.ok;
      puts = put_done who s (spec.state g.R.Rng.stream c.change.new.self) p c.args.bytes (reply_of c.in-Ok.field-0)
          (after_look who (spec.caller c.check_conditions.new.session) s (spec.state g.R.Rng.stream c.check_conditions.new.session) (spec.state g.R.Rng.stream c.change.new.self)
          (Command.Put p c.args.bytes) (Ok (reply_of c.in-Ok.field-0)) looks.who looks.live c.in-Ok.ensures.asked);
    }

pub returns-clause-err : goal.returns-clause-err
returns-clause-err g c =
    let who = spec.caller c.args.session.now in
    let s = spec.state g.R.Rng.stream c.args.session.now in
    let p = segments c.args.path.bytes in
    let known = option_map meta_of c.meta-known.result in
    let found : known ≡ known_at s.map p = c.meta-known.ensures.found ∙ ap (λ p. known_at s.map (segments p.bytes)) c.in_ok-copy_of.ensures in
    let at : is_some c.meta-known.result ≡ is_some (at_path s.map p) =
    known_there meta_of (λ (r : Resource). meta_at r.node) c.meta-known.result (at_path s.map p) found in
    let looks = looks_on (looks_on (looks_on c.meta-known.ensures.looks c.check_locks.ensures.looks) c.check_place.ensures.looks) c.check_conditions.ensures.looks in
    let e = refusal_of c.in-Err.refusal in
    subst (FailsToPut s who p c.args.bytes c.args.headers.now) (sym (c.refused.ensures ∙ ap (λ b. put_fault b e) at))
    (inl (put_unmade who s (spec.state g.R.Rng.stream c.change.new.self) p c.args.bytes e
    (behind_look who (spec.caller c.check_conditions.new.session) s (spec.state g.R.Rng.stream c.check_conditions.new.session) (spec.state g.R.Rng.stream c.change.new.self)
    (Command.Put p c.args.bytes) e looks.who looks.live c.in-Err.ensures.asked)))

pub returns-in-Ok-clause-acts : goal.returns-in-Ok-clause-acts
returns-in-Ok-clause-acts g c =
    acts_behind (looks_on c.meta-known.ensures.looks c.check_locks.ensures.looks) c.check_place.ensures.looks c.check_conditions.ensures.looks c.change.ensures.acts

pub returns-clause-acts : goal.returns-clause-acts
returns-clause-acts g c =
    acts_behind (looks_on c.meta-known.ensures.looks c.check_locks.ensures.looks) c.check_place.ensures.looks c.check_conditions.ensures.looks c.change.ensures.acts

pub returns-in_err-copy_of-clause-refused : goal.returns-in_err-copy_of-clause-refused
returns-in_err-copy_of-clause-refused g c = on_err c.from_residual.result (looks_none g.R.Rng.stream c.args.session.now).live

pub returns-in_err-copy_of-clause-acts : goal.returns-in_err-copy_of-clause-acts
returns-in_err-copy_of-clause-acts g c = acts_none g.R.Rng.stream c.args.session.now

pub returns-in_err-check_locks-clause-refused : goal.returns-in_err-check_locks-clause-refused
returns-in_err-check_locks-clause-refused g c = on_err c.from_residual-in_err-check_locks.result (looks_on c.meta-known.ensures.looks c.check_locks.ensures.looks).live

pub returns-in_err-check_locks-clause-acts : goal.returns-in_err-check_locks-clause-acts
returns-in_err-check_locks-clause-acts g c = looks_act (looks_on c.meta-known.ensures.looks c.check_locks.ensures.looks)

pub returns-in_err-check_place-clause-refused : goal.returns-in_err-check_place-clause-refused
returns-in_err-check_place-clause-refused g c =
    on_err c.from_residual-in_err-check_place.result (looks_on (looks_on c.meta-known.ensures.looks c.check_locks.ensures.looks) c.check_place.ensures.looks).live

pub returns-in_err-check_place-clause-acts : goal.returns-in_err-check_place-clause-acts
returns-in_err-check_place-clause-acts g c = looks_act (looks_on (looks_on c.meta-known.ensures.looks c.check_locks.ensures.looks) c.check_place.ensures.looks)

pub returns-in_err-check_conditions-clause-refused : goal.returns-in_err-check_conditions-clause-refused
returns-in_err-check_conditions-clause-refused g c =
    on_err c.from_residual-in_err-check_conditions.result (looks_on (looks_on (looks_on c.meta-known.ensures.looks c.check_locks.ensures.looks) c.check_place.ensures.looks) c.check_conditions.ensures.looks).live

pub returns-in_err-check_conditions-clause-acts : goal.returns-in_err-check_conditions-clause-acts
returns-in_err-check_conditions-clause-acts g c =
    looks_act (looks_on (looks_on (looks_on c.meta-known.ensures.looks c.check_locks.ensures.looks) c.check_place.ensures.looks) c.check_conditions.ensures.looks)

pub returns-in_err-say_tag-clause-refused : goal.returns-in_err-say_tag-clause-refused
returns-in_err-say_tag-clause-refused g c =
    on_err c.from_residual-in_err-say_tag.result (looks_on (looks_on (looks_on c.meta-known.ensures.looks c.check_locks.ensures.looks) c.check_place.ensures.looks) c.check_conditions.ensures.looks).live

pub returns-in_err-say_tag-clause-acts : goal.returns-in_err-say_tag-clause-acts
returns-in_err-say_tag-clause-acts g c =
    looks_act (looks_on (looks_on (looks_on c.meta-known.ensures.looks c.check_locks.ensures.looks) c.check_place.ensures.looks) c.check_conditions.ensures.looks)

pub returns-clause-refused : goal.returns-clause-refused
returns-clause-refused g c =
    (looks_on (looks_on (looks_on (looks_on c.meta-known.ensures.looks c.check_locks.ensures.looks) c.check_place.ensures.looks) c.check_conditions.ensures.looks) c.in-Err.ensures.refused).live
