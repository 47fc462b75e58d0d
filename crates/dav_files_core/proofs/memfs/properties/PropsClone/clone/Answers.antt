use Rattle.std.proofs.Common.{sym, ap, ◌∙◌, subst}
use Rattle.std.specs.FinMap.{from_entries}
use Rattle.dav_files_core.specs.Properties.{property_of}
use Rattle.dav_files_core.specs.Resources.{key_cmp}
use Rattle.dav_files_core.proofs.properties.PropertyMapLemmas.{same_key}
use Rattle.dav_files_core.proofs.properties.FinMapLemmas.{seen_copy}
use Rattle.dav_files_core.specs.Private.PropertyMaps.{AreKeyed}
use Rattle.dav_files_core.proofs.memfs.properties.PropsClone.clone.Goals as goal

pub returns : goal.returns
returns c = record {
  cases = ap (from_entries {R = key_cmp}) (seen_copy key_cmp property_of _ same_key c.self.inside.map.entries c.in_ok-clone.field-0.entries c.in_ok-clone.ensures.cases) ∙ c.self.view_is;
}

pub invariant_of-result : goal.invariant_of-result
invariant_of-result c =
    subst AreKeyed
    (sym (ap (from_entries {R = key_cmp}) (seen_copy key_cmp property_of _ same_key c.self.inside.map.entries c.in_ok-clone.field-0.entries c.in_ok-clone.ensures.cases)))
    c.self.invariant
