use Rattle.std.proofs.Common.{◌+◌, map, take, drop, sym, subst, ◌∙◌}
use Rattle.dav_files_core.specs.Restoring.{restore_all}
use Rattle.dav_snapshots_core.specs.Private.LateMoments.{placed_back}
use Rattle.dav_snapshots_core.specs.Private.MetPaths.{AllMet}
use Rattle.dav_snapshots_core.proofs.MetLemmas.{is_met, met_more}
use Rattle.dav_snapshots_core.proofs.PutLemmas.{split_at, take_next}
use Rattle.dav_snapshots_core.proofs.SetBackLemmas.{goes_on}
use Rattle.dav_snapshots_core.proofs.setting_back.restore_each.Goals as goal

pub restore_one-requires-clause-met : goal.restore_one-requires-clause-met
restore_one-requires-clause-met c =
    let all = c.args.all.now in
    let i = c.restoring.stored-index in
    let x = c.stored-item.result in
    is_met all (take i all) (drop (i + 1) all) x c.requires.walk (split_at all i x c.restoring-test.true c.stored-item.is) c.restoring.met c.restoring.invariant.met

pub restoring-preserved : goal.restoring-preserved
restoring-preserved c =
    let all = c.args.all.now in
    let i = c.restoring.stored-index in
    let x = c.stored-item.result in
    let place = placed_back c.args.from c.args.late.now in
    record {
      rest = goes_on place all i c.restoring.back.map (restore_all c.args.back.now.map (map place all)) c.restoring.invariant.rest x c.restore_one.new.back.map
          c.restoring-test.true c.stored-item.is c.in_ok-restore_one.ensures.restored;
      met = subst (AllMet c.restore_one.new.met) (sym (take_next all i x c.restoring-test.true c.stored-item.is))
          (met_more all (take i all) (drop (i + 1) all) x c.requires.walk (split_at all i x c.restoring-test.true c.stored-item.is) c.restoring.met c.restore_one.new.met c.restoring.invariant.met c.in_ok-restore_one.ensures.met);
      locks = c.restore_one.ensures.locks ∙ c.restoring.invariant.locks;
    }
