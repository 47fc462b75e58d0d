use Rattle.std.proofs.Common.{◌≡◌, ◌∷◌, filter, take}
use Rattle.std.specs.Prelude.{nat_le}
use Rattle.std.specs.List.{flat_map}
use Rattle.dav_snapshots_core.specs.Private.LateMoments.{moments_at}
use Rattle.dav_snapshots_core.proofs.late.all_late.Given as goal

abbrev pub invariant-adding : goal.invariant-adding
invariant-adding l = l.moments.items ≡ filter (λ a. nat_le l.from a) (l.last ∷ flat_map moments_at (take l.stored-index l.all))
