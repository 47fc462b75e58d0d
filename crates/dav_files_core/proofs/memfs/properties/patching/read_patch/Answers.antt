use Rattle.std.proofs.Common.{map, ap}
use Rattle.dav_files_core.specs.Private.PropertyChanges.{changes_of}
use Rattle.dav_files_core.specs.Private.PropertyMaps.{properties_of}
use Rattle.dav_files_core.specs.Properties.{patch_answer}
use Rattle.dav_files_core.proofs.properties.PatchLemmas.{none_comes, none_missing, answer_more, entry_more}
use Rattle.dav_files_core.proofs.memfs.properties.patching.read_patch.Goals as goal

pub loop-set-init : goal.loop-set-init
loop-set-init c = record {
  answered = ap (map patch_answer) c.new-answers.ensures.items;
  comes_to = none_comes c.new.result.entries c.new.ensures.empty;
  missing = none_missing (properties_of c.args.kept.now.entries) c.new.result.entries c.new-2.result.items c.new.ensures.empty c.new-2.ensures.items;
}

pub loop-set-preserved : goal.loop-set-preserved
loop-set-preserved c =
    record {
      answered = answer_more c.loop-set.yielded c.loop-set.answers.items c.push.new.self.items (c.in-Some.set, c.in-Some.prop) c.in_ok-without_xml.field-0 c.loop-set.invariant.answered c.in_ok-push.ensures.items c.in_ok-without_xml.ensures;
      comes_to = entry_more c.loop-set.yielded (changes_of c.loop-set.changes.last.entries) (changes_of c.note.new.self.last.entries) (c.in-Some.set, c.in-Some.prop) c.loop-set.invariant.comes_to c.in_ok-note.ensures.last;
      missing = c.in_ok-note.ensures.missing c.loop-set.invariant.missing;
    }
