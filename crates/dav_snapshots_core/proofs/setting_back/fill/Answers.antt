use Rattle.std.proofs.Common.{◌∙◌, map, sym, ap, arith}
use Rattle.dav_files_core.specs.Restoring.{restore_all}
use Rattle.dav_guarded_core.specs.Stores.{Stores}
use Rattle.dav_snapshots_core.specs.Private.LateMoments.{placed_back}
use Rattle.dav_snapshots_core.proofs.setting_back.fill.Goals as goal

pub returns-clause-map : goal.returns-clause-map
returns-clause-map c = record {
  made = c.restore_each.new.back.map;
  restored = ap (λ (s : Stores). restore_all s.map (map (placed_back c.args.from c.args.late.now) c.args.all.now)) (sym c.requires.new) ∙ c.in_ok-restore_each.ensures.restored;
  numbered = c.restore_locks.ensures.map ∙ c.raise_next_number.ensures.raised;
  fits = omega (arith, c.ranges.next.fits);
}
