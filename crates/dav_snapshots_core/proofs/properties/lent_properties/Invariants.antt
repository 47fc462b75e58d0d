use Rattle.std.proofs.Common.{◌≡◌, ◌++◌, map}
use Rattle.dav_files_core.specs.Properties.{property_of}
use Rattle.dav_snapshots_core.proofs.properties.lent_properties.Given as goal

abbrev pub invariant-adding : goal.invariant-adding
invariant-adding l = map (λ p. property_of p.now) l.lent.items ++ l.prop-iterator ≡ l.fn.props
