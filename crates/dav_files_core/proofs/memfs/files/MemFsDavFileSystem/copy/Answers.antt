use Rattle.std.proofs.Common.{refl}
use Rattle.dav_path_core.specs.Segments.{segments}
use Rattle.dav_files_core.proofs.changes.SettingLemmas.{no_folder}
use Rattle.dav_files_core.proofs.walks.LeadLemmas.{entry_number, entry_file}
use Rattle.dav_files_core.proofs.memfs.files.MemFsDavFileSystem.copy.Goals as goal

pub node_at-requires : goal.node_at-requires
node_at-requires c = entry_number c.args.self.now (segments c.args.to.now.bytes) c.in_ok-target.target c.in-Entry.id c.in-Entry.is c.in_ok-target.ensures.found

pub replace-requires-clause-known : goal.replace-requires-clause-known
replace-requires-clause-known c = entry_number c.args.self.now (segments c.args.to.now.bytes) c.in_ok-target.target c.in-Entry.id c.in-Entry.is c.in_ok-target.ensures.found

pub replace-requires-clause-still : goal.replace-requires-clause-still
replace-requires-clause-still c = λ p r here number folder.
    absurd (no_folder c.args.self.now c.in_ok-target.ensures.shape c.in-Entry.id
    (entry_file c.args.self.now (segments c.args.to.now.bytes) c.in_ok-target.target c.in-Entry.id c.in-Entry.is c.in_ok-target.ensures.found
    c.node_at.result.now c.node_at.ensures (c.if-not-is_file.ensures.0 refl))
    p r here number folder)
