use Rattle.std.proofs.Common.{◌∙◌, sym, ap}
use Rattle.std.specs.Prelude.{option_map}
use Rattle.dav_path_core.specs.Segments.{segments}
use Rattle.dav_files_core.specs.Meta.{meta_of}
use Rattle.dav_session_core.proofs.PutLemmas.{above_stands}
use Rattle.dav_methods_core.proofs.methods.changes.check_above.Goals as goal

pub returns-then-is_dir-clause-ok : goal.returns-then-is_dir-clause-ok
returns-then-is_dir-clause-ok g c =
    above_stands c.args.session.now.stores.stores.map (segments c.args.path.now.bytes) _ (meta_of c.in-Some.above) c.in_ok-parent_of.ensures.ok
    (sym (ap (option_map meta_of) c.in-Some.is) ∙ c.meta.ensures.found) (c.is_dir.ensures.0 c.if-is_dir.true)
