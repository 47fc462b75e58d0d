use Rattle.dav_path_core.specs.Segments.{segments}
use Rattle.dav_files_core.proofs.walks.LeadLemmas.{entry_number}
use Rattle.dav_files_core.proofs.memfs.MemFs.restore.Goals as goal

pub restore_root-requires-clause-known : goal.restore_root-requires-clause-known
restore_root-requires-clause-known c = entry_number c.args.self.now (segments c.args.path.now.bytes) c.in_ok-id.field-0 c.in-Entry.id c.in-Entry.is c.in_ok-id.ensures.found
