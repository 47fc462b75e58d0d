use Rattle.dav_files_core.specs.Private.PropertyMaps.{properties_of}
use Rattle.dav_files_core.proofs.properties.PatchLemmas.{set_at, gone_at}
use Rattle.dav_files_core.proofs.memfs.properties.patching.make_change.Goals as goal

pub returns-in-Ok : goal.returns-in-Ok
returns-in-Ok c = set_at (properties_of c.args.kept.now.entries) (properties_of c.put_in.new.map.entries) c.args.key c.args.change c.in-Some.prop c.in-Some.is c.in-Ok.ensures.ok

pub returns-in-None : goal.returns-in-None
returns-in-None c = gone_at (properties_of c.args.kept.now.entries) (properties_of c.take_out.new.map.entries) c.args.key c.args.change c.in-None.is c.take_out.ensures
