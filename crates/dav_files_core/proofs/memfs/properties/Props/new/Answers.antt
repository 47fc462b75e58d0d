use Rattle.std.proofs.Common.{sym, subst}
use Rattle.dav_files_core.specs.Private.PropertyMaps.{AreKeyed, properties_of}
use Rattle.dav_files_core.proofs.properties.KeyedLemmas.{keyed_empty}
use Rattle.dav_files_core.proofs.memfs.properties.Props.new.Goals as goal

pub invariant_of-result : goal.invariant_of-result
invariant_of-result c = subst (λ es. AreKeyed (properties_of es)) (sym c.new.ensures.empty) keyed_empty
