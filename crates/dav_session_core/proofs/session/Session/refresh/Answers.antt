use Rattle.std.proofs.Common.{string_bytes}
use Rattle.dav_path_core.specs.Segments.{segments}
use Rattle.dav_guarded_core.specs.Served.{reply_of}
use Rattle.dav_session_core.specs.Callers.{live}
use Rattle.dav_session_core.specs.Sessions as spec
use Rattle.dav_session_core.proofs.OwnLemmas.{all_are_own}
use Rattle.dav_session_core.proofs.RefreshLemmas.{refreshed_own}
use Rattle.dav_session_core.proofs.session.Session.refresh.Goals as goal

pub returns-in-Ok-clause-ok : goal.returns-in-Ok-clause-ok
returns-in-Ok-clause-ok g c =
    let who = spec.caller c.args.self.now in
    let s = spec.state g.R.Rng.stream c.args.self.now in
    let p = segments c.args.path.bytes in
    let token = string_bytes c.args.token in
    refreshed_own who (live who.now s) (spec.state g.R.Rng.stream c.ask.new.self) p token c.args.timeout (reply_of c.in-Ok.field-0)
    (all_are_own (live who.now s) who p token c.requires.own) c.in-Ok.ensures.asked
