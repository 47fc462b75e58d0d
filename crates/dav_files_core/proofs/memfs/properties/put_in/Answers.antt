use Rattle.dav_files_core.specs.Properties.{property_of}
use Rattle.dav_files_core.proofs.properties.FinMapLemmas.{map_insert}
use Rattle.dav_files_core.proofs.properties.PropertyMapLemmas.{key_total, key_exact, kept_nowhere}
use Rattle.dav_files_core.proofs.memfs.properties.put_in.Goals as goal

pub returns-in-Ok-clause-ok : goal.returns-in-Ok-clause-ok
returns-in-Ok-clause-ok c = map_insert key_total key_exact property_of c.args.map.now.entries c.insert.new.self.entries c.args.key c.args.prop c.in-Ok.ensures.updates.0

pub returns-clause-absent : goal.returns-clause-absent
returns-clause-absent c = kept_nowhere c.args.map.now.entries c.args.key c.in-Err.ensures.absent
