use Rattle.std.proofs.Common.{◌∷◌, List, ℕ, subst}
use Rattle.std.specs.List.{flat_map}
use Rattle.dav_snapshots_core.specs.Private.LateMoments.{AreInOrder, moments_at}
use Rattle.dav_snapshots_core.proofs.LateLemmas.{late_of_all}
use Rattle.dav_snapshots_core.proofs.late.late_moments.Goals as goal

pub returns : goal.returns
returns c = late_of_all c.args.from (c.args.last ∷ flat_map moments_at c.args.all.now) c.in_order.result.items
    (subst (λ (l : List ℕ). AreInOrder l c.in_order.result.items) c.in_ok-moments.ensures c.in_order.ensures)
