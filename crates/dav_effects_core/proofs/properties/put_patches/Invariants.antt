use Rattle.std.proofs.Common.{◌≡◌, ◌++◌, length, take, map}
use Rattle.std.specs.List.{flat_map, AllByRecursion}
use Rattle.dav_files_core.specs.Properties.{patch_update}
use Rattle.dav_effects_core.specs.ByteForms.{number_text}
use Rattle.dav_effects_core.specs.RecordText.{patch_text}
use Rattle.dav_effects_core.specs.Records.{IsProperty}
use Rattle.dav_effects_core.proofs.properties.put_patches.Given as goal

abbrev pub invariant-putting : goal.invariant-putting
invariant-putting l = record {
  text : l.out.items ≡ l.fn.out.items ++ (number_text (length l.patches) ++ flat_map patch_text (map patch_update (take l.patch-index l.patches)));
  fits : AllByRecursion (λ e. IsProperty e.1) (map patch_update (take l.patch-index l.patches));
}
