use Rattle.std.proofs.Common.{◌≡◌, drop, map, take}
use Rattle.dav_files_core.specs.Restoring.{restore_all}
use Rattle.dav_snapshots_core.specs.Private.LateMoments.{placed_back}
use Rattle.dav_snapshots_core.specs.Private.MetPaths.{AllMet}
use Rattle.dav_snapshots_core.proofs.setting_back.restore_each.Given as goal

-- what is restored behind what was, makes the whole
abbrev pub invariant-restoring : goal.invariant-restoring
invariant-restoring l = record {
  rest : restore_all l.back.map (map (placed_back l.from l.late) (drop l.stored-index l.all)) ≡ restore_all l.fn.back.map (map (placed_back l.from l.late) l.all);
  met : AllMet l.met (take l.stored-index l.all);
  locks : l.back.locks ≡ l.fn.back.locks;
}
