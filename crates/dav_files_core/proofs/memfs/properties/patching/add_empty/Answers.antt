use Rattle.dav_files_core.specs.Private.PropertyMaps.{properties_of}
use Rattle.dav_files_core.specs.Properties.{property_of}
use Rattle.dav_files_core.proofs.properties.PatchLemmas.{others_stay, room_made}
use Rattle.dav_files_core.proofs.properties.PropertyMapLemmas.{same_key}
use Rattle.dav_files_core.proofs.memfs.properties.patching.add_empty.Goals as goal

pub loop-key-preserved : goal.loop-key-preserved
loop-key-preserved c =
    let keys = c.args.keys.now in
    let key = c.key-item.result in
    let before = properties_of c.loop-key.kept.entries in
    let after = properties_of c.put_in.new.map.entries in
    let copy = c.in_ok-clone.field-0 in
    record {
      others = others_stay keys c.loop-key.key-index key c.loop-key-test.true c.key-item.is (properties_of c.args.kept.now.entries) before after copy (same_key key copy c.in_ok-clone.ensures.cases) (property_of c.empty.result) c.in_ok-put_in.ensures.ok c.loop-key.invariant.others;
      room = room_made keys c.loop-key.key-index key c.loop-key-test.true c.key-item.is (properties_of c.args.kept.now.entries) before after copy (same_key key copy c.in_ok-clone.ensures.cases) (property_of c.empty.result) c.in_ok-put_in.ensures.ok c.loop-key.invariant.room;
    }
