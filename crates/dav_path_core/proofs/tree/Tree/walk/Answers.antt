use Rattle.std.proofs.Common.{Some, sym, subst}
use Rattle.dav_path_core.specs.Keyed.{here}
use Rattle.dav_path_core.specs.Walking.{IsTreeWalk, numbers_from}
use Rattle.dav_path_core.proofs.walks.ListedLemmas.{walk_of_all}
use Rattle.dav_path_core.proofs.tree.Tree.walk.Goals as goal

pub invariant_of-result : goal.invariant_of-result
invariant_of-result g c = (c.node_count.ensures.shape.tree.root.0, here)

pub returns : goal.returns
returns g c =
    let t = c.args.self.now in
    subst (λ n. IsTreeWalk t.keyed (numbers_from t n (Some 1))) (sym c.node_count.ensures.count) (walk_of_all t c.node_count.ensures.shape)
