use Rattle.dav_files_core.specs.Private.PropertyChanges.{changes_of}
use Rattle.dav_files_core.specs.Private.PropertyMaps.{properties_of}
use Rattle.dav_files_core.specs.Properties.{property_of}
use Rattle.dav_files_core.proofs.properties.PatchLemmas.{taken_more, set_more}
use Rattle.dav_files_core.proofs.memfs.properties.patching.Changes.note.Goals as goal

pub returns-then-not-set-clause-missing : goal.returns-then-not-set-clause-missing
returns-then-not-set-clause-missing c =
    taken_more (properties_of c.args.kept.now.entries) (changes_of c.args.self.now.last.entries) (changes_of c.note_last.new.last.entries) c.in_ok-key.key
    c.args.self.now.missing.items c.note_last.result c.note_last.ensures.ok

pub returns-clause-missing : goal.returns-clause-missing
returns-clause-missing c =
    set_more (properties_of c.args.kept.now.entries) (changes_of c.args.self.now.last.entries) (changes_of c.note_last-2.new.last.entries) c.in_ok-key.key
    c.args.self.now.missing.items c.note_missing.new.missing.items (property_of c.args.prop) c.in_ok-note_missing.ensures.ok c.note_last-2.result c.note_last-2.ensures.ok
