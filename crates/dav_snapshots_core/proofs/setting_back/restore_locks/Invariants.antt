use Rattle.std.proofs.Common.{◌≡◌, map, take}
use Rattle.dav_snapshots_core.specs.SetBack.{lock_set_back}
use Rattle.dav_snapshots_core.proofs.setting_back.restore_locks.Given as goal

abbrev pub invariant-restoring : goal.invariant-restoring
invariant-restoring l = record {
  locks : l.back.locks ≡ map (lock_set_back l.from) (map (λ x. x.now) (take l.lock-index l.locks));
  map : l.back.map ≡ l.fn.back.map;
}
