use Rattle.std.proofs.Common.{◌≡◌, ◌++◌, ◌∷◌, [], map}
use Rattle.std.proofs.lemmas.Result.{err_from_is_err_and}
use Rattle.std.proofs.lemmas.List.{map_push}
use Rattle.dav_effects_core.specs.ByteForms.{times_at}
use Rattle.dav_files_core.specs.Properties.{patch_update}
use Rattle.dav_effects_core.specs.RecordReading.{patch_at}
use Rattle.dav_effects_core.proofs.Loops.{goes_on, fails, is_done}
use Rattle.dav_effects_core.proofs.properties.so_many_patches.Goals as goal

pub returns-in_err-patch : goal.returns-in_err-patch
returns-in_err-patch c =
    let p = err_from_is_err_and c.from_residual.result c.from_residual.ensures.1 in
    rw (p.1, p.2) (fails patch_at c.in_err-patch.field-0.0 (map patch_update c.reading.patches.items) c.args.count c.reading.counter c.reading.rest.now (times_at patch_at c.args.count c.args.bytes.now) c.reading-test.true c.in_err-patch.ensures c.reading.invariant)

pub reading-preserved : goal.reading-preserved
reading-preserved c =
    let patch = c.in_ok-patch.patch in
    let e : map patch_update c.push.new.self.items ≡ map patch_update c.reading.patches.items ++ patch_update patch ∷ [] = rw c.in_ok-push.ensures.items (map_push _ c.reading.patches.items patch) in
    rw e (goes_on patch_at (map patch_update c.reading.patches.items) c.args.count c.reading.counter c.reading.rest.now (patch_update patch) c.in_ok-patch.behind.now (times_at patch_at c.args.count c.args.bytes.now) c.reading-test.true c.in_ok-patch.ensures c.reading.invariant)

pub returns : goal.returns
returns c = is_done patch_at (map patch_update c.reading.patches.items) c.args.count c.reading.counter c.reading.rest.now (times_at patch_at c.args.count c.args.bytes.now) c.reading-test.false c.reading.invariant
