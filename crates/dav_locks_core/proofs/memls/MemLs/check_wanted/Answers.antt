use Rattle.std.proofs.Common.{◌≡◌, [], true, IfErr, sym, ◌∙◌, subst}
use Rattle.std.proofs.lemmas.Bool.{true≢false}
use Rattle.std.proofs.lemmas.Result.{err_from_is_err_and}
use Rattle.dav_path_core.specs.Segments.{segments}
use Rattle.dav_locks_core.specs.Calls.{Shows}
use Rattle.dav_locks_core.specs.Locks.{lock_conflicts}
use Rattle.dav_locks_core.specs.Private.SubtreeWalks.{NoneBelow}
use Rattle.dav_locks_core.specs.Private.WayTests.{refuses_wanted}
use Rattle.dav_locks_core.proofs.answers.LockListLemmas.{lock_free, lock_shown, lock_shown_below, shows_weaker}
use Rattle.dav_locks_core.proofs.memls.MemLs.check_wanted.Goals.{then-deep+in_ok-check_locks_from_path, else-deep}
use Rattle.dav_locks_core.proofs.memls.MemLs.check_wanted.Goals as goal

pub returns-in_err-check_locks_to_path-clause-shown : goal.returns-in_err-check_locks_to_path-clause-shown
returns-in_err-check_locks_to_path-clause-shown c =
    let conflicts = lock_conflicts c.args.self.now (segments c.args.path.now.bytes) c.args.shared c.args.deep in
    let p = err_from_is_err_and c.from_residual.result c.from_residual.ensures.1 in
    let shown = lock_shown c.self.inside.tree.keyed c.self.inside.next c.self.invariant.kept.tree.list (segments c.args.path.now.bytes) c.args.shared c.args.deep c.in_err-check_locks_to_path.field-0.0 c.in_err-check_locks_to_path.ensures.shown in
    subst (λ r. IfErr r (λ e. Shows conflicts e)) (sym p.1)
    (subst (λ e. Shows conflicts e) (sym p.2)
    (subst (λ locks. Shows (lock_conflicts locks (segments c.args.path.now.bytes) c.args.shared c.args.deep) c.in_err-check_locks_to_path.field-0.0) c.self.view_is (shows_weaker _ _ shown)))

pub returns-in_err-check_locks_from_path-clause-shown : goal.returns-in_err-check_locks_from_path-clause-shown
returns-in_err-check_locks_from_path-clause-shown c =
    let conflicts = lock_conflicts c.args.self.now (segments c.args.path.now.bytes) c.args.shared c.args.deep in
    let p = err_from_is_err_and c.from_residual-in_err-check_locks_from_path.result c.from_residual-in_err-check_locks_from_path.ensures.1 in
    let shown = lock_shown_below c.self.inside.tree.keyed c.self.inside.next c.self.invariant.kept.tree.list (segments c.args.path.now.bytes) c.args.shared c.args.deep c.in_err-check_locks_from_path.field-0.0 c.if-deep.true c.in_err-check_locks_from_path.ensures.shown in
    subst (λ r. IfErr r (λ e. Shows conflicts e)) (sym p.1)
    (subst (λ e. Shows conflicts e) (sym p.2)
    (subst (λ locks. Shows (lock_conflicts locks (segments c.args.path.now.bytes) c.args.shared c.args.deep) c.in_err-check_locks_from_path.field-0.0) c.self.view_is (shows_weaker _ _ shown)))

pub returns-clause-free : goal.returns-clause-free
returns-clause-free c =
    let below : c.args.deep ≡ true → NoneBelow (refuses_wanted c.args.shared true) c.self.inside.tree.keyed (segments c.args.path.now.bytes) =
    elim c.if-deep.branch [
      | then-deep+in_ok-check_locks_from_path w ↦ λ e. w.in_ok-check_locks_from_path.ensures.free
      | else-deep w ↦ λ e. absurd (true≢false (sym e ∙ w.if-deep.false))
    ] in
    subst (λ locks. lock_conflicts locks (segments c.args.path.now.bytes) c.args.shared c.args.deep ≡ []) c.self.view_is
    (lock_free c.self.inside.tree.keyed c.self.inside.next c.self.invariant.kept.tree.list (segments c.args.path.now.bytes) c.args.shared c.args.deep c.in_ok-check_locks_to_path.ensures.free below)
