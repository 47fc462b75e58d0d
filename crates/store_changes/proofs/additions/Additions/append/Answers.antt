use Rattle.store_changes.proofs.KeptImportLemmas.{keeps_appended}
use Rattle.store_changes.proofs.additions.Additions.append.Goals as goal

pub returns-clause-keeps : goal.returns-clause-keeps
returns-clause-keeps g c =
    keeps_appended g.D.Disk.seen g.D.Disk.may_leave g.D.Disk.is_clean c.args.journal.now c.append.new.self c.args.self.now c.new.result 0 c.in_ok-append.ensures.acknowledged c.new.ensures
