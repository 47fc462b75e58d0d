use Rattle.dav_files_core.specs.Private.PropertyMaps.{properties_of}
use Rattle.dav_files_core.proofs.properties.PatchLemmas.{taken_next}
use Rattle.dav_files_core.proofs.memfs.properties.patching.take_all.Goals as goal

pub loop-key-preserved : goal.loop-key-preserved
loop-key-preserved c =
    taken_next c.args.keys.now c.loop-key.key-index c.key-item.result c.loop-key-test.true c.key-item.is
    (properties_of c.args.kept.now.entries) (properties_of c.loop-key.kept.entries) (properties_of c.take_out.new.map.entries) c.take_out.ensures c.loop-key.invariant
