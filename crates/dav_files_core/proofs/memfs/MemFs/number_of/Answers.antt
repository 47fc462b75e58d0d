use Rattle.dav_path_core.specs.Segments.{segments}
use Rattle.dav_files_core.proofs.walks.LeadLemmas.{entry_number}
use Rattle.dav_files_core.proofs.memfs.MemFs.number_of.Goals as goal

pub returns-in-Entry-clause-number : goal.returns-in-Entry-clause-number
returns-in-Entry-clause-number c = entry_number c.args.self.now (segments c.args.path.now.bytes) c.in_ok-id.field-0 c.in-Entry.id c.in-Entry.is c.in_ok-id.ensures.found
