use Rattle.std.proofs.Common.{◌≡◌, ◌++◌, ◌∷◌, [], not, OnErr, ap, ◌∙◌, subst}
use Rattle.std.proofs.lemmas.Result.{IfOk-weaker}
use Rattle.dav_path_core.specs.Segments.{segments}
use Rattle.dav_locks_core.specs.Locks.{is_at_or_below, without_below}
use Rattle.dav_locks_core.specs.Stale.{is_stale, without_stale}
use Rattle.dav_path_core.proofs.lists.PlaceLemmas.{filter-again}
use Rattle.uses.proofs.locking.take_over.Given.{Over}
use Rattle.uses.proofs.locking.take_over.Goals as goal

-- what `delete` leaves has no lock whose end has come
left : (g : Over) (c : goal.After-lock g) → without_stale c.args.now.0 (g.L.DavLockSystem.locks c.delete.new.self) ≡ without_below (segments c.args.path.now.bytes) (without_stale c.args.now.0 (g.L.DavLockSystem.locks c.args.locks.now))
left g c =
    ap (without_stale c.args.now.0) c.delete.ensures.left
    ∙ filter-again (λ l. not (is_stale c.args.now.0 l)) (λ l. not (is_at_or_below l (segments c.args.path.now.bytes))) (g.L.DavLockSystem.locks c.args.locks.now)

pub returns-clause-taken : goal.returns-clause-taken
returns-clause-taken g c = IfOk-weaker c.lock.result _ _ (λ lock is. is ∙ ap (λ locks. locks ++ lock ∷ []) (left g c)) c.lock.ensures.added

pub returns-clause-refused : goal.returns-clause-refused
returns-clause-refused g c = subst (λ locks. OnErr c.lock.result (g.L.DavLockSystem.locks c.lock.new.self ≡ locks)) (left g c) c.lock.ensures.left
