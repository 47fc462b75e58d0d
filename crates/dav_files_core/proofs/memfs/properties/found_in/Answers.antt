use Rattle.dav_files_core.proofs.properties.PropertyMapLemmas.{found_kept}
use Rattle.dav_files_core.proofs.memfs.properties.found_in.Goals as goal

pub returns : goal.returns
returns c = found_kept c.args.map.now.entries c.args.key.now c.get.result c.get.ensures.value
