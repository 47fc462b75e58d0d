use Rattle.std.proofs.Common.{◌++◌, [], map, sym, subst, arith}
use Rattle.std.proofs.Common.{take, drop, ◌+◌}
use Rattle.dav_effects_core.proofs.AllOf.{all_more}
use Rattle.dav_snapshots_core.specs.Private.MetPaths.{AllMet}
use Rattle.dav_snapshots_core.specs.SnapshotText.{entries_text}
use Rattle.dav_snapshots_core.specs.Snapshots.{snapshot_entry}
use Rattle.dav_snapshots_core.specs.WrittenSnapshots.{IsSnapshotEntry}
use Rattle.dav_snapshots_core.proofs.MetLemmas.{is_met, met_more}
use Rattle.dav_snapshots_core.proofs.PutLemmas.{entries_more, entries_done, split_at, take_next}
use Rattle.dav_snapshots_core.proofs.walks.put_each.Goals as goal

pub put_stored-requires : goal.put_stored-requires
put_stored-requires c =
    let all = c.args.all.now in
    let i = c.putting.stored-index in
    let x = c.stored-item.result in
    is_met all (take i all) (drop (i + 1) all) x c.requires (split_at all i x c.putting-test.true c.stored-item.is) c.putting.met c.putting.invariant.met

pub putting-preserved : goal.putting-preserved
putting-preserved c =
    let all = c.args.all.now in
    let i = c.putting.stored-index in
    let x = c.stored-item.result in
    record {
      text = entries_more c.putting.out.items c.put_stored.new.out.items c.putting.before.items c.put_stored.new.before.items (c.args.out.now.items ++ entries_text [] (map snapshot_entry all)) all i x
          c.putting-test.true c.stored-item.is c.in_ok-put_stored.ensures.text c.in_ok-put_stored.ensures.before c.putting.invariant.text;
      met = subst (AllMet c.put_stored.new.met) (sym (take_next all i x c.putting-test.true c.stored-item.is))
          (met_more all (take i all) (drop (i + 1) all) x c.requires (split_at all i x c.putting-test.true c.stored-item.is) c.putting.met c.put_stored.new.met c.putting.invariant.met c.in_ok-put_stored.ensures.met);
      fits = all_more snapshot_entry IsSnapshotEntry all i x c.putting-test.true (sym c.stored-item.is) c.putting.invariant.fits c.in_ok-put_stored.ensures.fits;
    }

pub returns-clause-text : goal.returns-clause-text
returns-clause-text c = entries_done c.putting.out.items c.putting.before.items (c.args.out.now.items ++ entries_text [] (map snapshot_entry c.args.all.now)) c.args.all.now c.putting.stored-index (omega arith) c.putting.invariant.text
