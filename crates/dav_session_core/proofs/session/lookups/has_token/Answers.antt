use Rattle.std.proofs.Common.{◌∙◌, ap}
use Rattle.std.specs.Prelude.{bytes_eq}
use Rattle.std.specs.List.{list_any}
use Rattle.dav_path_core.specs.Segments.{segments}
use Rattle.dav_locks_core.specs.Lock.{Lock}
use Rattle.dav_session_core.specs.Callers.{live}
use Rattle.dav_session_core.specs.Conditions.{has_token}
use Rattle.dav_session_core.specs.Sessions as spec
use Rattle.dav_locks_core.proofs.answers.CoveringTokens.{any_discovered}
use Rattle.dav_session_core.proofs.session.lookups.has_token.Goals as goal

pub returns-clause-ok : goal.returns-clause-ok
returns-clause-ok g c =
    let s = live (spec.caller c.args.session.now).now (spec.state g.R.Rng.stream c.args.session.now) in
    c.any_has.ensures
    ∙ ap (list_any (λ (l : Lock). bytes_eq l.token c.args.token.now)) (c.deref.ensures.value ∙ c.in_ok-locks.ensures.ok)
    ∙ any_discovered (λ (l : Lock). bytes_eq l.token c.args.token.now) s.locks (segments c.in_ok-copy_of.field-0.bytes)
    ∙ ap (λ path. has_token s (segments path.bytes) c.args.token.now) c.in_ok-copy_of.ensures
