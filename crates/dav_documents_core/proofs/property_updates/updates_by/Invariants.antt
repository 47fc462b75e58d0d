use Rattle.std.proofs.Common.{◌≡◌, ◌++◌, drop, map, option_map}
use Rattle.std.specs.Option.{option_copied}
use Rattle.dav_files_core.specs.Properties.{patch_update}
use Rattle.dav_documents_core.specs.Elements.{element_nodes}
use Rattle.dav_documents_core.specs.PropertyUpdates.{updates_by}
use Rattle.dav_documents_core.proofs.property_updates.updates_by.Given as goal

abbrev pub invariant-loop-instruction : goal.invariant-loop-instruction
invariant-loop-instruction l =
    option_map (λ more. map patch_update l.updates.items ++ more) (updates_by (option_copied l.lang) (map element_nodes (drop l.instruction-index l.instructions)))
    ≡ updates_by (option_copied l.lang) (map element_nodes l.instructions)
