use Rattle.std.proofs.Common.{◌≡◌, ◌++◌, length, take, map}
use Rattle.std.specs.List.{flat_map, AllByRecursion}
use Rattle.dav_files_core.specs.Properties.{property_of}
use Rattle.dav_effects_core.specs.ByteForms.{number_text}
use Rattle.dav_effects_core.specs.RecordText.{stored_property_text}
use Rattle.dav_effects_core.specs.Records.{IsProperty}
use Rattle.dav_snapshots_core.proofs.properties.put_lent.Given as goal

abbrev pub invariant-putting : goal.invariant-putting
invariant-putting l = record {
  text : l.out.items ≡ l.fn.out.items ++ (number_text (length l.props) ++ flat_map stored_property_text (map (λ p. property_of p.now) (take l.prop-index l.props)));
  fits : AllByRecursion IsProperty (map (λ p. property_of p.now) (take l.prop-index l.props));
}
