use Rattle.store_changes.proofs.KeptImportLemmas.{keeps_all}
use Rattle.store_changes.proofs.additions.Additions.finish.Goals as goal

pub returns-clause-imported : goal.returns-clause-imported
returns-clause-imported g c =
    let empty = c.in_ok-append.ensures.empty in (
      empty,
      λ records base from i. keeps_all g.D.Disk.seen g.D.Disk.may_leave g.D.Disk.is_clean c.append.new.journal records base from c.append.new.self (c.in_ok-append.ensures.keeps records base from i) empty,
    )
