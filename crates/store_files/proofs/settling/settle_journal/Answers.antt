use Rattle.store_files.proofs.settling.settle_journal.Goals as goal

pub returns-then-opened-from-clause-none : goal.returns-then-opened-from-clause-none
returns-then-opened-from-clause-none g c = λ is. (c.in_ok-opened.opened.stores, c.in_ok-opened.opened.last.0, c.in_ok-opened.ensures.stands, c.if-opened-from.true)

pub returns-clause-settled : goal.returns-clause-settled
returns-clause-settled g c = (c.in_ok-opened.opened.stores, c.in_ok-opened.opened.last.0, c.in_ok-opened.ensures.stands, c.in_ok-made.ensures.settled)
