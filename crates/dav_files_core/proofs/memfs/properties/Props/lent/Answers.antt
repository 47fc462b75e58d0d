use Rattle.std.proofs.Common.{map, ap, ◌∙◌, subst}
use Rattle.dav_files_core.specs.Private.PropertyMaps.{AreKeyed}
use Rattle.dav_files_core.specs.Properties.{property_of}
use Rattle.dav_files_core.specs.Restoring.{properties_from}
use Rattle.dav_files_core.proofs.properties.KeyedLemmas.{made_again}
use Rattle.dav_files_core.proofs.properties.PropertyMapLemmas.{kept_values}
use Rattle.dav_files_core.proofs.memfs.properties.Props.lent.Goals as goal

pub returns-clause-props : goal.returns-clause-props
returns-clause-props c =
    ap (map property_of) c.values.ensures.rest ∙ kept_values c.self.inside.map.entries c.args.self.now c.self.view_is c.values.ensures.ordered

pub returns-clause-whole : goal.returns-clause-whole
returns-clause-whole c =
    ap properties_from (ap (map property_of) c.values.ensures.rest ∙ kept_values c.self.inside.map.entries c.args.self.now c.self.view_is c.values.ensures.ordered)
    ∙ made_again c.args.self.now (subst AreKeyed c.self.view_is c.self.invariant)
