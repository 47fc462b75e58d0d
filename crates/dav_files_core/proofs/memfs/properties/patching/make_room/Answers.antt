use Rattle.dav_files_core.specs.Private.PropertyMaps.{properties_of}
use Rattle.dav_files_core.proofs.properties.PatchLemmas.{undone}
use Rattle.dav_files_core.proofs.memfs.properties.patching.make_room.Goals as goal

pub returns-in-Err-clause-err : goal.returns-in-Err-clause-err
returns-in-Err-clause-err c = (
  c.in-Err.ensures.err,
  undone (properties_of c.args.kept.now.entries) (properties_of c.add_empty.new.kept.entries) (properties_of c.take_all.new.kept.entries) c.args.keys.now c.requires c.in-Err.ensures.others c.take_all.ensures,
)
