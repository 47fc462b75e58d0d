use Rattle.std.proofs.lemmas.Result.{IfOk-weaker}
use Rattle.store_files.proofs.settling.settle_opened.Goals as goal

pub returns-clause-settled : goal.returns-clause-settled
returns-clause-settled g c = λ paths. IfOk-weaker c.compact_opened.result _ _ (λ made on_disk. record {
  stores = c.in_ok-back.back.stores;
  now = c.in_ok-back.back.last.0;
  back = c.in_ok-back.ensures.back paths;
  loaded = λ clean. on_disk clean (c.in_ok-back.ensures.paths paths);
}) c.compact_opened.ensures.kept
