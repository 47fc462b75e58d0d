use Rattle.std.proofs.Common.{◌≡◌, ◌++◌, drop, map}
use Rattle.std.specs.List.{flat_map}
use Rattle.std.specs.Option.{option_copied}
use Rattle.dav_files_core.specs.Properties.{patch_update}
use Rattle.dav_documents_core.specs.Elements.{element_nodes}
use Rattle.dav_documents_core.specs.PropertyUpdates.{update_of}
use Rattle.dav_documents_core.proofs.property_updates.push_updates.Given as goal

abbrev pub invariant-loop-property : goal.invariant-loop-property
invariant-loop-property l =
    map patch_update l.updates.items ++ flat_map (update_of l.set (option_copied l.lang)) (map element_nodes (drop l.property-index l.properties))
    ≡ map patch_update l.fn.updates.items ++ flat_map (update_of l.set (option_copied l.lang)) (map element_nodes l.properties)
