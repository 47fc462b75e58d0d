use Rattle.std.proofs.Common.{option_map, ◌∙◌}
use Rattle.dav_files_core.specs.Private.PropertyChanges.{changes_of}
use Rattle.dav_files_core.specs.Private.PropertyMaps.{properties_of}
use Rattle.dav_files_core.specs.Properties.{property_of}
use Rattle.dav_files_core.proofs.properties.PatchLemmas.{one_less, room_left}
use Rattle.dav_files_core.proofs.memfs.properties.patching.make_changes.Goals as goal

pub loop-key-preserved : goal.loop-key-preserved
loop-key-preserved c =
    let before = changes_of c.loop-key.last.entries in
    let after = changes_of c.take_first.new.last.entries in
    let props = properties_of c.loop-key.kept.entries in
    let props' = properties_of c.make_change.new.kept.entries in
    let change = option_map property_of c.in-Some.change in
    record {
      left = λ q. one_less before after props props' c.in-Some.key change c.in-Some.ensures.0 c.in-Some.ensures.1 c.make_change.ensures q ∙ c.loop-key.invariant.left q;
      room = room_left before after props props' c.in-Some.key change c.in-Some.ensures.0 c.in-Some.ensures.1 c.make_change.ensures c.loop-key.invariant.room;
    }
