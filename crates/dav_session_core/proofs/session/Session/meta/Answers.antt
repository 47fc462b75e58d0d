use Rattle.std.proofs.Common.{sym, ap, option_map}
use Rattle.dav_path_core.specs.Segments.{segments}
use Rattle.dav_files_core.specs.Meta.{meta_at}
use Rattle.dav_files_core.specs.Resources.{Resource}
use Rattle.dav_guarded_core.specs.Served.{refusal_of}
use Rattle.dav_session_core.specs.Sessions as spec
use Rattle.dav_session_core.proofs.Asking.{meta_refused}
use Rattle.dav_session_core.proofs.session.Session.meta.Goals as goal

pub returns-clause-found : goal.returns-clause-found
returns-clause-found g c = sym (ap (option_map (λ (r : Resource). meta_at r.node))
    (meta_refused (spec.caller c.args.self.now) (segments c.args.path.bytes) (spec.state g.R.Rng.stream c.args.self.now) (spec.state g.R.Rng.stream c.look.new.self)
    (refusal_of c.in-Err.field-0) c.in-Err.ensures.step))
