use Rattle.dav_files_core.specs.Properties.{property_of}
use Rattle.dav_files_core.proofs.properties.PropertyMapLemmas.{key_total, key_exact}
use Rattle.dav_files_core.proofs.properties.FinMapLemmas.{map_remove}
use Rattle.dav_files_core.proofs.memfs.properties.take_out.Goals as goal

pub returns : goal.returns
returns c = map_remove key_total key_exact property_of c.args.map.now.entries c.remove-old.new.self.entries c.args.key.now c.remove-old.ensures.updates.0
