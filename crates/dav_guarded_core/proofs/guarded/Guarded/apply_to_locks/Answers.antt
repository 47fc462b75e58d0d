use Rattle.std.proofs.Common.{◌≡◌, refl, sym, ◌∙◌, subst}
use Rattle.std.specs.Prelude.{option_map, string_bytes}
use Rattle.std.proofs.lemmas.Result.{err_from_is_err_and}
use Rattle.dav_path_core.specs.Segments.{segments}
use Rattle.dav_locks_core.specs.Calls.{Shows}
use Rattle.dav_locks_core.specs.Locks.{lock_conflicts}
use Rattle.dav_locks_core.specs.Stale.{without_stale}
use Rattle.dav_guarded_core.specs.Stores.{Stores}
use Rattle.dav_guarded_core.proofs.Serving.{refused_lock}
use Rattle.dav_guarded_core.proofs.guarded.Guarded.apply_to_locks.Goals as goal

pub returns-in_err-lock-in-Lock-clause-step : goal.returns-in_err-lock-in-Lock-clause-step
returns-in_err-lock-in-Lock-clause-step g c =
    let p = err_from_is_err_and c.from_residual.result c.from_residual.ensures.1 in
    let now = c.args.request.now.now.0 in
    let fresh : without_stale now c.self.inside.locks ≡ c.self.inside.locks = subst (λ (g : Stores). without_stale now g.locks ≡ g.locks) (sym c.self.view_is) c.requires.fresh in
    let shown = subst (λ locks. Shows (lock_conflicts locks (segments c.in-Lock.path.bytes) c.in-Lock.shared c.in-Lock.deep) c.in_err-lock-in-Lock.field-0.0) fresh c.in_err-lock-in-Lock.ensures.shown in
    rw p.1 (refused_lock _ _ _ c.in-Lock.path (option_map string_bytes c.in-Lock.owner) c.in-Lock.timeout c.in-Lock.shared c.in-Lock.deep c.in_err-lock-in-Lock.field-0.0 p.0 p.2 (rw c.in-Lock.is refl)
    (rw (← c.self.view_is) shown)
    (record {
      map_is = rw (← c.self.view_is) refl;
      locks_are = rw (← c.self.view_is) (c.in_err-lock-in-Lock.ensures.left ∙ fresh);
      rng_is = c.in_err-lock-in-Lock.ensures.undrawn;
    }))
