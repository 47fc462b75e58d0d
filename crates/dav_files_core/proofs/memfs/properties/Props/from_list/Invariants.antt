use Rattle.std.proofs.Common.{◌≡◌, map}
use Rattle.dav_files_core.specs.Private.PropertyMaps.{properties_of}
use Rattle.dav_files_core.specs.Properties.{property_of}
use Rattle.dav_files_core.specs.Restoring.{properties_from}
use Rattle.dav_files_core.proofs.memfs.properties.Props.from_list.Given as goal

abbrev pub invariant-loop-prop : goal.invariant-loop-prop
invariant-loop-prop l = properties_of l.map.entries ≡ properties_from (map property_of l.yielded)
