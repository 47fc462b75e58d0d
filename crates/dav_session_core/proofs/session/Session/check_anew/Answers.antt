use Rattle.std.proofs.Common.{map, option_map, string_bytes, sym, ap, ◌∙◌}
use Rattle.std.specs.Prelude.{option_copied}
use Rattle.dav_path_core.specs.Segments.{segments}
use Rattle.dav_locks_core.specs.Lock.{Lock}
use Rattle.dav_session_core.specs.Callers.{live}
use Rattle.dav_session_core.specs.Sessions as spec
use Rattle.dav_session_core.proofs.AnewLemmas.{anew_free, anew_refused}
use Rattle.dav_session_core.proofs.session.Session.check_anew.Goals as goal

pub returns-in-Some-clause-err : goal.returns-in-Some-clause-err
returns-in-Some-clause-err g c =
    let who = spec.caller c.args.self.now in (
      c.in-Some.lock.now,
      anew_refused who (spec.caller c.locks_at.new.self) (live who.now (spec.state g.R.Rng.stream c.args.self.now)) (segments c.args.path.now.bytes)
          (segments c.in_ok-parent.field-0.bytes) c.deref.result.now (map string_bytes c.tokens.result.now)
          (option_map string_bytes c.principal.result.now) (option_copied c.refusing.result) c.locks_at.ensures.looks.who
          c.tokens.ensures c.principal.ensures (c.deref.ensures.value ∙ c.in_ok-locks.ensures.ok) c.in_ok-parent.ensures.above c.refusing.ensures
          c.in-Some.lock.now (ap option_copied c.in-Some.is),
      ap (λ (l : Lock). l.path) (sym c.lock.view_is) ∙ sym c.in_ok-copy_of-in-Some.ensures,
    )

pub returns-clause-ok : goal.returns-clause-ok
returns-clause-ok g c =
    let who = spec.caller c.args.self.now in
    anew_free who (spec.caller c.locks_at.new.self) (live who.now (spec.state g.R.Rng.stream c.args.self.now)) (segments c.args.path.now.bytes)
    (segments c.in_ok-parent.field-0.bytes) c.deref.result.now (map string_bytes c.tokens.result.now)
    (option_map string_bytes c.principal.result.now) (option_copied c.refusing.result) c.locks_at.ensures.looks.who
    c.tokens.ensures c.principal.ensures (c.deref.ensures.value ∙ c.in_ok-locks.ensures.ok) c.in_ok-parent.ensures.above c.refusing.ensures
    (ap option_copied c.in-None.is)
