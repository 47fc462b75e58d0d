use Rattle.std.proofs.Common.{◌≡◌, map}
use Rattle.dav_files_core.specs.Properties.{property_of, shown_property}
use Rattle.dav_files_core.proofs.memfs.properties.Props.list.Given as goal

abbrev pub invariant-loop-prop : goal.invariant-loop-prop
invariant-loop-prop l = map property_of l.listed.items ≡ map (λ p. shown_property l.content (property_of p.now)) l.yielded
