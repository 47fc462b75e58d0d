use Rattle.std.proofs.Common.{rules, ◌≡◌, ◌≤◌, ◌∷◌, List, ℕ, map, ap, sym, subst, ◌∙◌}
use Rattle.std.specs.List.{flat_map}
use Rattle.std.proofs.lemmas.Result.{err_from_is_err_and}
use Rattle.dav_files_core.specs.Walks.{IsMapWalk, Stored}
use Rattle.dav_snapshots_core.specs.Private.LateMoments.{AreLateOf, AscendFrom, moments_at}
use Rattle.dav_snapshots_core.specs.SetBack.{lock_set_back, moment_set_back}
use Rattle.dav_snapshots_core.proofs.LateLemmas.{ascend_from}
use Rattle.dav_snapshots_core.proofs.SetBackLemmas.{is_set_back, only_memory, paths_back}
use Rattle.dav_snapshots_core.proofs.setting_back.set_back.Goals as goal

pub fill-requires-clause-walk : goal.fill-requires-clause-walk
fill-requires-clause-walk c =
    let same : c.deref-2.result.now ≡ c.walk.result = search rules in
    record {
      map = c.args.stores.now.map;
      shape = c.walk.ensures.shape;
      walked = subst (IsMapWalk c.args.stores.now.map) (sym same) c.walk.ensures.walk;
    }

pub fill-requires-clause-late : goal.fill-requires-clause-late
fill-requires-clause-late c =
    let same : c.deref-4.result.now ≡ c.in_ok-late.late.items = search rules in
    subst (AscendFrom c.args.from.0) (sym same) (ascend_from c.args.from.0 (c.args.last.0 ∷ flat_map moments_at c.deref.result.now) c.in_ok-late.late.items c.in_ok-late.ensures)

pub returns-in_err-fill-clause-err : goal.returns-in_err-fill-clause-err
returns-in_err-fill-clause-err c = λ paths.
    let walk : c.deref-2.result.now ≡ c.walk.result = search rules in
    let fits : c.next_number-next.result ≤ 18446744073709551615 = search rules in
    let p = err_from_is_err_and c.from_residual-in_err-fill.result c.from_residual-in_err-fill.ensures.1 in
    let walked = subst (IsMapWalk c.args.stores.now.map) (sym walk) c.walk.ensures.walk in
    rw (p.1, p.2) (only_memory c.args.from.0 c.args.last.0 c.next_number-next.result c.args.stores.now c.deref-2.result.now c.deref-4.result.now c.walk.ensures.shape walked paths c.next_number-next.ensures
    fits c.in_err-fill.field-0.0 c.in_err-fill.ensures.err)

pub moment_set_back-requires : goal.moment_set_back-requires
moment_set_back-requires c =
    let same : c.deref-5.result.now ≡ c.in_ok-late.late.items = search rules in
    subst (AscendFrom c.args.from.0) (sym same) (ascend_from c.args.from.0 (c.args.last.0 ∷ flat_map moments_at c.deref.result.now) c.in_ok-late.late.items c.in_ok-late.ensures)

pub returns-clause-back : goal.returns-clause-back
returns-clause-back c = λ paths.
    let walk : c.deref-2.result.now ≡ c.walk.result = search rules in
    let first : c.deref.result.now ≡ c.deref-2.result.now = search rules in
    let late : c.deref-4.result.now ≡ c.in_ok-late.late.items = search rules in
    let again : c.deref-5.result.now ≡ c.deref-4.result.now = search rules in
    let locks : map (λ l. l.now) c.deref-3.result.now ≡ c.args.stores.now.locks = search rules in
    let walked = subst (IsMapWalk c.args.stores.now.map) (sym walk) c.walk.ensures.walk in
    let of = subst (AreLateOf c.args.from.0 (c.args.last.0 ∷ flat_map moments_at c.deref-2.result.now)) (sym late)
    (subst (λ (ss : List Stored). AreLateOf c.args.from.0 (c.args.last.0 ∷ flat_map moments_at ss) c.in_ok-late.late.items) first c.in_ok-late.ensures) in
    is_set_back c.args.from.0 c.args.last.0 c.next_number-next.result c.args.stores.now c.deref-2.result.now c.deref-4.result.now c.walk.ensures.shape walked paths c.next_number-next.ensures
    c.fill.new.back c.moment_set_back.result of c.in_ok-fill.ensures.map (c.in_ok-fill.ensures.locks ∙ ap (map (lock_set_back c.args.from.0)) locks)
    (c.moment_set_back.ensures ∙ ap (λ (l : List ℕ). moment_set_back c.args.from.0 l c.args.last.0) again)

pub returns-clause-paths : goal.returns-clause-paths
returns-clause-paths c = λ paths. paths_back c.args.from.0 c.args.last.0 c.moment_set_back.result c.args.stores.now c.fill.new.back paths (returns-clause-back c paths)
