use Rattle.std.proofs.Common.{◌≡◌, false, sym, subst}
use Rattle.std.proofs.lemmas.Result.{err_from_is_err_and}
use Rattle.dav_path_core.specs.Segments.{segments}
use Rattle.dav_locks_core.specs.Calls.{ShowsOnly, lock_caller}
use Rattle.dav_locks_core.specs.Locks.{check_conflicts}
use Rattle.dav_locks_core.specs.Stale.{without_stale}
use Rattle.dav_guarded_core.specs.Checks.{caller_of}
use Rattle.dav_guarded_core.specs.Served.{request_of}
use Rattle.dav_guarded_core.specs.Stores.{Stores}
use Rattle.dav_guarded_core.proofs.Serving.{refused_path}
use Rattle.dav_guarded_core.proofs.guarded.Guarded.check_path_ref.Goals as goal

pub returns-in_err-check_ref-clause-err : goal.returns-in_err-check_ref-clause-err
returns-in_err-check_ref-clause-err c =
    let p = err_from_is_err_and c.from_residual.result c.from_residual.ensures.1 in
    let fresh : without_stale c.args.request.now.now.0 c.self.inside.locks ≡ c.self.inside.locks = subst (λ (g : Stores). without_stale c.args.request.now.now.0 g.locks ≡ g.locks) (sym c.self.view_is) c.requires.fresh in
    let shown = subst (λ locks. ShowsOnly (check_conflicts locks (segments c.args.path.now) c.args.deep (lock_caller c.text_of-principal.result false c.deref.result.now)) c.in_err-check_ref.field-0.0) fresh c.in_err-check_ref.ensures.shown in
    rw p.1 (refused_path c.args.self.now.locks (caller_of (request_of c.args.request.now)) (segments c.args.path.now) c.args.deep c.in_err-check_ref.field-0.0 p.0 p.2
    (rw (← c.self.view_is, ← c.text_of-principal.ensures, ← c.deref.ensures.value) shown))
