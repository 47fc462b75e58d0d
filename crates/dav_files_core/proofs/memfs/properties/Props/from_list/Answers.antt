use Rattle.std.proofs.Common.{map, sym, ap, subst}
use Rattle.dav_files_core.specs.Private.PropertyMaps.{properties_of}
use Rattle.dav_files_core.proofs.properties.FromLemmas.{one_more}
use Rattle.dav_files_core.specs.Private.PropertyMaps.{AreKeyed}
use Rattle.dav_files_core.specs.Properties.{property_of}
use Rattle.dav_files_core.proofs.properties.KeyedLemmas.{keyed_from}
use Rattle.dav_files_core.proofs.memfs.properties.Props.from_list.Goals as goal

pub loop-prop-init : goal.loop-prop-init
loop-prop-init c = ap properties_of c.new-map.ensures.empty

pub loop-prop-preserved : goal.loop-prop-preserved
loop-prop-preserved c =
    one_more c.loop-prop.yielded c.in-Some.prop (properties_of c.loop-prop.map.entries) (properties_of c.put_in.new.map.entries) c.in_ok-key.key c.loop-prop.invariant c.in_ok-key.ensures c.in_ok-put_in.ensures.ok

pub invariant_of-result : goal.invariant_of-result
invariant_of-result c = subst AreKeyed (sym c.loop-prop.invariant) (keyed_from (map property_of c.loop-prop.yielded))
