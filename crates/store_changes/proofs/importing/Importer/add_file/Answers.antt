use Rattle.store_changes.proofs.KeptImportLemmas.{adds_then}
use Rattle.store_changes.proofs.importing.Importer.add_file.Goals as goal

pub returns-in-Err-2-clause-goes_on : goal.returns-in-Err-2-clause-goes_on
returns-in-Err-2-clause-goes_on g c = adds_then c.refuse-in-Err-2.result c.args.self.now.added c.add.new.self.added c.refuse-in-Err-2.new.self.added c.in_ok-add.ensures.goes_on c.refuse-in-Err-2.ensures.added
