use Rattle.std.proofs.Common.{map, sym, subst}
use Rattle.dav_path_core.specs.Segments.{segments}
use Rattle.dav_files_core.specs.Properties.{patch_update}
use Rattle.dav_guarded_core.specs.Served.{reply_of, refusal_of}
use Rattle.dav_session_core.specs.Callers.{live}
use Rattle.dav_session_core.specs.Patching.{KeepsProperties}
use Rattle.dav_session_core.specs.Sessions as spec
use Rattle.dav_session_core.proofs.AskedLemmas.{unpatched}
use Rattle.dav_session_core.proofs.PatchLemmas.{patched_there}
use Rattle.dav_session_core.proofs.session.Session.patch.Goals as goal

pub returns-in-Ok-clause-ok : goal.returns-in-Ok-clause-ok
returns-in-Ok-clause-ok g c =
    let who = spec.caller c.args.self.now in
    patched_there who (live who.now (spec.state g.R.Rng.stream c.args.self.now)) (spec.state g.R.Rng.stream c.ask.new.self) (segments c.args.path.bytes)
    (map patch_update c.args.patch.items) (reply_of c.in-Ok.field-0) c.in-Ok.ensures.asked

pub returns-clause-err : goal.returns-clause-err
returns-clause-err g c =
    let who = spec.caller c.args.self.now in
    let s = spec.state g.R.Rng.stream c.args.self.now in
    let p = segments c.args.path.bytes in
    subst (KeepsProperties (live who.now s) who p) (sym c.unpatched.ensures)
    (unpatched who s (spec.state g.R.Rng.stream c.ask.new.self) p (map patch_update c.args.patch.items) (refusal_of c.in-Err.refusal) c.in-Err.ensures.asked)
