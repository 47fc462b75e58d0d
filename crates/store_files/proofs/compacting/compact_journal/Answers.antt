use Rattle.std.proofs.lemmas.Result.{IfOk-weaker}
use Rattle.store_files.proofs.compacting.compact_journal.Goals as goal

pub returns-clause-kept : goal.returns-clause-kept
returns-clause-kept g c = IfOk-weaker c.compact_opened.result _ _ (λ made on_disk. (c.in_ok-opened.opened.stores, c.in_ok-opened.opened.last.0, c.in_ok-opened.ensures.stands, on_disk)) c.compact_opened.ensures.kept
