use Rattle.std.proofs.Common.{◌≡◌, map}
use Rattle.dav_files_core.specs.Private.PropertyChanges.{AreMissing, ComesTo, changes_of}
use Rattle.dav_files_core.specs.Private.PropertyMaps.{properties_of}
use Rattle.dav_files_core.specs.Properties.{patch_answer, patch_update, patch_answers}
use Rattle.dav_files_core.proofs.memfs.properties.patching.read_patch.Given as goal

abbrev pub invariant-loop-set : goal.invariant-loop-set
invariant-loop-set l = record {
  answered : map patch_answer l.answers.items ≡ patch_answers (map patch_update l.yielded);
  comes_to : ComesTo (map patch_update l.yielded) (changes_of l.changes.last.entries);
  missing : AreMissing (properties_of l.kept.entries) (changes_of l.changes.last.entries) l.changes.missing.items;
}
