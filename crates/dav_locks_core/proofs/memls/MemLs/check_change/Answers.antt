use Rattle.std.proofs.Common.{◌≡◌, [], true, false, IfErr, is_some, not, ap, sym, ◌∙◌, subst}
use Rattle.std.proofs.lemmas.Bool.{true≢false}
use Rattle.std.proofs.lemmas.Result.{err_from_is_err_and}
use Rattle.dav_path_core.specs.Segments.{segments}
use Rattle.dav_path_core.proofs.trees.Trees.{none_from_is_some}
use Rattle.dav_locks_core.specs.Calls.{lock_caller, ShowsOnly}
use Rattle.dav_locks_core.specs.Locks.{LockCaller, check_conflicts}
use Rattle.dav_locks_core.specs.Private.LockTree.{lock_list, lookup_lock}
use Rattle.dav_locks_core.specs.Private.SubtreeWalks.{NoneBelow}
use Rattle.dav_locks_core.specs.Private.WayTests.{is_covering_held, is_covering_unheld}
use Rattle.dav_locks_core.proofs.laws.CheckLemmas.{holds_exclusive, holds_below}
use Rattle.dav_locks_core.proofs.answers.LockListLemmas.{check_free, check_held, check_shown, check_deep_free, check_shown_below}
use Rattle.dav_locks_core.proofs.memls.MemLs.check_change.Goals.{then-is_none+in_ok-check_locks_to_path_ref, else-is_none, then-deep+in_ok-check_locks_from_path_ref, else-deep}
use Rattle.dav_locks_core.proofs.memls.MemLs.check_change.Goals as goal

pub returns-in_err-check_locks_to_path_ref-clause-shown : goal.returns-in_err-check_locks_to_path_ref-clause-shown
returns-in_err-check_locks_to_path_ref-clause-shown c =
    let who : LockCaller = lock_caller c.args.principal c.args.ignore_principal c.args.tokens.now in
    let p = segments c.args.path.now in
    let t = c.self.inside.tree.keyed in
    let error = err_from_is_err_and c.from_residual.result c.from_residual.ensures.1 in
    let none = none_from_is_some (lookup_lock (is_covering_held who) t 1 p) (subst (λ o. is_some o ≡ false) c.lookup_lock_ref.ensures (c.is_none.ensures ∙ ap not c.if-is_none.true)) in
    let shown = check_shown t c.self.inside.next c.self.invariant.kept.tree.list p who c.args.deep none c.in_err-check_locks_to_path_ref.field-0.0 c.in_err-check_locks_to_path_ref.ensures.shown in
    subst (λ r. IfErr r (λ e. ShowsOnly (check_conflicts c.args.self.now p c.args.deep who) e)) (sym error.1)
    (subst (λ e. ShowsOnly (check_conflicts c.args.self.now p c.args.deep who) e) (sym error.2)
    (subst (λ locks. ShowsOnly (check_conflicts locks p c.args.deep who) c.in_err-check_locks_to_path_ref.field-0.0) c.self.view_is shown))

pub returns-in_err-check_locks_from_path_ref-clause-shown : goal.returns-in_err-check_locks_from_path_ref-clause-shown
returns-in_err-check_locks_from_path_ref-clause-shown c =
    let who : LockCaller = lock_caller c.args.principal c.args.ignore_principal c.args.tokens.now in
    let p = segments c.args.path.now in
    let t = c.self.inside.tree.keyed in
    let error = err_from_is_err_and c.from_residual-in_err-check_locks_from_path_ref.result c.from_residual-in_err-check_locks_from_path_ref.ensures.1 in
    let shown = check_shown_below t c.self.inside.next c.self.invariant.kept.tree.list p who c.args.deep c.in_err-check_locks_from_path_ref.field-0.0 c.if-deep.true c.in_err-check_locks_from_path_ref.ensures.shown in
    subst (λ r. IfErr r (λ e. ShowsOnly (check_conflicts c.args.self.now p c.args.deep who) e)) (sym error.1)
    (subst (λ e. ShowsOnly (check_conflicts c.args.self.now p c.args.deep who) e) (sym error.2)
    (subst (λ locks. ShowsOnly (check_conflicts locks p c.args.deep who) c.in_err-check_locks_from_path_ref.field-0.0) c.self.view_is shown))

-- what a check that passes has found
passes : (c : goal.Joined-deep) → check_conflicts c.args.self.now (segments c.args.path.now) c.args.deep (lock_caller c.args.principal c.args.ignore_principal c.args.tokens.now) ≡ []
passes c =
    let who : LockCaller = lock_caller c.args.principal c.args.ignore_principal c.args.tokens.now in
    let p = segments c.args.path.now in
    let t = c.self.inside.tree.keyed in
    let covered : check_conflicts (lock_list t) p false who ≡ [] = elim c.if-is_none.branch [
      | then-is_none+in_ok-check_locks_to_path_ref w ↦ check_free t c.self.inside.next c.self.invariant.kept.tree.list p who w.in_ok-check_locks_to_path_ref.ensures.free
      | else-is_none w ↦
          check_held t c.self.inside.next c.self.invariant.kept.tree.list p who (subst (λ o. is_some o ≡ true) c.lookup_lock_ref.ensures (c.is_none.ensures ∙ ap not w.if-is_none.false))
    ] in
    let below : c.args.deep ≡ true → NoneBelow (is_covering_unheld who true) t p = elim c.if-deep.branch [
      | then-deep+in_ok-check_locks_from_path_ref w ↦ λ e. w.in_ok-check_locks_from_path_ref.ensures.free
      | else-deep w ↦ λ e. absurd (true≢false (sym e ∙ w.if-deep.false))
    ] in
    subst (λ locks. check_conflicts locks p c.args.deep who ≡ []) c.self.view_is (check_deep_free t c.self.inside.next c.self.invariant.kept.tree.list p who c.args.deep covered below)

pub returns-clause-passes : goal.returns-clause-passes
returns-clause-passes c = passes c

pub returns-clause-held : goal.returns-clause-held
returns-clause-held c =
    holds_exclusive c.args.self.now (segments c.args.path.now) c.args.deep (lock_caller c.args.principal c.args.ignore_principal c.args.tokens.now) (passes c)

pub returns-clause-held_below : goal.returns-clause-held_below
returns-clause-held_below c =
    holds_below c.args.self.now (segments c.args.path.now) c.args.deep (lock_caller c.args.principal c.args.ignore_principal c.args.tokens.now) (passes c)
