use Rattle.std.proofs.Common.{option_map}
use Rattle.dav_files_core.specs.Properties.{property_of}
use Rattle.dav_files_core.proofs.properties.FinMapLemmas.{map_insert}
use Rattle.dav_files_core.proofs.properties.PropertyMapLemmas.{key_total, key_exact}
use Rattle.dav_files_core.proofs.memfs.properties.patching.note_last.Goals as goal

pub returns-clause-ok : goal.returns-clause-ok
returns-clause-ok c = map_insert key_total key_exact (option_map property_of) c.args.last.now.entries c.insert.new.self.entries c.args.key c.args.change c.in_ok-insert.ensures.updates.0
