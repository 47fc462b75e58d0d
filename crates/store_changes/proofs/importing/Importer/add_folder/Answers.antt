use Rattle.store_changes.proofs.KeptImportLemmas.{adds_then}
use Rattle.store_changes.proofs.importing.Importer.add_folder.Goals as goal

pub returns-in-Err-clause-goes_on : goal.returns-in-Err-clause-goes_on
returns-in-Err-clause-goes_on g c = adds_then c.refuse.result c.args.self.now.added c.add.new.self.added c.refuse.new.self.added c.in_ok-add.ensures.goes_on c.refuse.ensures.added

pub returns-in-Ok-clause-goes_on : goal.returns-in-Ok-clause-goes_on
returns-in-Ok-clause-goes_on g c = adds_then c.enter.result c.args.self.now.added c.add.new.self.added c.enter.new.self.added c.in_ok-add.ensures.goes_on c.enter.ensures
