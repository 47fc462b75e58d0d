use Rattle.std.proofs.Common.{◌++◌, [], map, sym, arith}
use Rattle.dav_effects_core.proofs.AllOf.{all_more}
use Rattle.dav_snapshots_core.specs.SnapshotText.{locks_text}
use Rattle.dav_snapshots_core.specs.WrittenSnapshots.{IsSnapshotLock}
use Rattle.dav_snapshots_core.proofs.PutLemmas.{locks_done, locks_more}
use Rattle.dav_snapshots_core.proofs.writing.put_each_lock.Goals as goal

pub putting-preserved : goal.putting-preserved
putting-preserved c =
    let locks = c.args.locks.now in
    let i = c.putting.lock-index in
    let x = c.lock-item.result in
    record {
      text = locks_more c.putting.out.items c.put_next_lock.new.out.items c.putting.before.items c.put_next_lock.new.before.items (c.args.out.now.items ++ locks_text [] (map (λ l. l.now) locks)) locks i x
          c.putting-test.true c.lock-item.is c.in_ok-put_next_lock.ensures.text c.in_ok-put_next_lock.ensures.before c.putting.invariant.text;
      fits = all_more (λ l. l.now) IsSnapshotLock locks i x c.putting-test.true (sym c.lock-item.is) c.putting.invariant.fits c.in_ok-put_next_lock.ensures.fits;
    }

pub returns-clause-text : goal.returns-clause-text
returns-clause-text c = locks_done c.putting.out.items c.putting.before.items (c.args.out.now.items ++ locks_text [] (map (λ l. l.now) c.args.locks.now)) c.args.locks.now c.putting.lock-index (omega arith) c.putting.invariant.text
