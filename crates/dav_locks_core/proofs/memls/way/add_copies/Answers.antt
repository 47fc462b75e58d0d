use Rattle.std.proofs.Common.{◌≡◌, ◌||◌, true, sym, ap, ◌∙◌}
use Rattle.std.proofs.lemmas.Bool.{or_left, or_right}
use Rattle.dav_locks_core.proofs.answers.LockListLemmas.{on_err}
use Rattle.dav_locks_core.proofs.answers.DiscoverLemmas.{some_kept}
use Rattle.dav_locks_core.proofs.memls.way.add_copies.Goals.{then-at_path-via-then-at_path, then-at_path-via-else-at_path+then-lock}
use Rattle.dav_locks_core.proofs.memls.way.add_copies.Goals as goal

pub returns-in_err-copy_of-clause-refused : goal.returns-in_err-copy_of-clause-refused
returns-in_err-copy_of-clause-refused c =
    let passes : (c.args.at_path || c.loop-lock-item.result.1.deep) ≡ true = elim c.then-at_path.branch [
      | then-at_path-via-then-at_path w ↦ or_left c.args.at_path c.loop-lock-item.result.1.deep w.if-at_path.true
      | then-at_path-via-else-at_path+then-lock w ↦ or_right c.args.at_path c.loop-lock-item.result.1.deep (ap (λ l. l.deep) (sym c.lock.view_is) ∙ w.if-lock.true)
    ] in
    on_err c.from_residual.result
    (some_kept c.args.granted.now (λ l. c.args.at_path || l.deep) c.loop-lock.lock-index c.loop-lock-item.result c.loop-lock-test.true c.loop-lock-item.is passes)

pub returns-in_err-push-clause-refused : goal.returns-in_err-push-clause-refused
returns-in_err-push-clause-refused c =
    let passes : (c.args.at_path || c.loop-lock-item.result.1.deep) ≡ true = elim c.then-at_path.branch [
      | then-at_path-via-then-at_path w ↦ or_left c.args.at_path c.loop-lock-item.result.1.deep w.if-at_path.true
      | then-at_path-via-else-at_path+then-lock w ↦ or_right c.args.at_path c.loop-lock-item.result.1.deep (ap (λ l. l.deep) (sym c.lock.view_is) ∙ w.if-lock.true)
    ] in
    on_err c.from_residual-in_err-push.result
    (some_kept c.args.granted.now (λ l. c.args.at_path || l.deep) c.loop-lock.lock-index c.loop-lock-item.result c.loop-lock-test.true c.loop-lock-item.is passes)
