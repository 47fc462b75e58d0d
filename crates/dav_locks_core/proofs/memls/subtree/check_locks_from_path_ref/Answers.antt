use Rattle.std.proofs.Common.{ℕ, IfErr, true, refl, sym, subst}
use Rattle.std.proofs.lemmas.Result.{err_from_is_err_and}
use Rattle.dav_path_core.specs.Segments.{segments}
use Rattle.dav_locks_core.specs.Private.SubtreeWalks.{ShowsBelow}
use Rattle.dav_locks_core.proofs.walks.SubtreeLemmas.{way_known}
use Rattle.dav_locks_core.proofs.memls.subtree.check_locks_from_path_ref.Goals as goal

pub find_below-requires : goal.find_below-requires
find_below-requires g c = way_known c.args.tree.now.keyed 1 c.in-Some.top (segments c.args.path.now) c.requires.shape.root.0 (sym c.in-Some.ensures)

pub returns-in_err-copy_at-in-Some-find_below-clause-shown : goal.returns-in_err-copy_at-in-Some-find_below-clause-shown
returns-in_err-copy_at-in-Some-find_below-clause-shown g c =
    let p = err_from_is_err_and c.from_residual.result c.from_residual.ensures.1 in
    let test = g.T.LockTest.test c.args.test.now true in
    subst (λ r. IfErr r (λ e. ShowsBelow test c.args.tree.now.keyed (segments c.args.path.now) e)) (sym p.1)
    (subst (λ e. ShowsBelow test c.args.tree.now.keyed (segments c.args.path.now) e) (sym p.2)
    (c.in-Some.top, (c.in-Some-find_below.node, c.in-Some-find_below.place), sym c.in-Some.ensures, c.in-Some-find_below.ensures, refl))

pub returns-in_ok-copy_at-in-Some-find_below-clause-shown : goal.returns-in_ok-copy_at-in-Some-find_below-clause-shown
returns-in_ok-copy_at-in-Some-find_below-clause-shown g c =
    let f : ℕ × ℕ = (c.in-Some-find_below.node, c.in-Some-find_below.place) in
    (c.in-Some.top, f, sym c.in-Some.ensures, c.in-Some-find_below.ensures, (f, refl, c.in_ok-copy_at-in-Some-find_below.ensures))
