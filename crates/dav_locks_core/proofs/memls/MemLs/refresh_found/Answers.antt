use Rattle.std.proofs.Common.{◌≡◌, Some, None, IsSome, IfErr, set, get_or, ap, sym, ◌∙◌, subst}
use Rattle.std.proofs.lemmas.Result.{err_from_is_err_and}
use Rattle.dav_path_core.specs.Segments.{segments}
use Rattle.dav_locks_core.specs.Calls.{RefusesRefresh}
use Rattle.dav_locks_core.specs.Locks.{found_token, refreshed_lock}
use Rattle.dav_locks_core.specs.Private.LockTree.{locks_at, lock_list}
use Rattle.dav_locks_core.proofs.answers.LockListLemmas.{place_within, some_granted, seen-refresh, kept-refresh, none_found, some_found}
use Rattle.dav_path_core.specs.Keyed.{with_item}
use Rattle.dav_locks_core.specs.Private.NotedEnds.{noted_node, IsKeyOf, Renotes}
use Rattle.dav_locks_core.proofs.answers.LockListLemmas.{Refreshes, IsKeptAs}
use Rattle.dav_locks_core.proofs.ends.EndLemmas.{was_alone, was_noted, ends-same, ends-refresh}
use Rattle.dav_locks_core.proofs.trees.PruningLemmas.{SameLocks-refl}
use Rattle.dav_locks_core.proofs.memls.MemLs.refresh_found.Goals.{After-refresh_lock}
use Rattle.dav_locks_core.proofs.memls.MemLs.refresh_found.Goals as goal

pub returns-in-None-clause-refused : goal.returns-in-None-clause-refused
returns-in-None-clause-refused c =
    let none = none_found c.self.inside.tree.keyed c.self.inside.next (segments c.args.path.now.bytes) c.args.token.now c.self.invariant.kept.tree.list (sym c.in-None.ensures) in
    subst (λ locks. found_token locks (segments c.args.path.now.bytes) c.args.token.now ≡ None) c.self.view_is none

pub refreshed_copy-requires : goal.refreshed_copy-requires
refreshed_copy-requires c =
    place_within c.self.inside.tree.keyed c.self.inside.next c.in-Some.node c.in-Some.place (segments c.args.path.now.bytes) c.args.token.now c.self.invariant.kept.tree.list (sym c.in-Some.ensures)

pub end_at-number-requires : goal.end_at-number-requires
end_at-number-requires c =
    place_within c.self.inside.tree.keyed c.self.inside.next c.in-Some.node c.in-Some.place (segments c.args.path.now.bytes) c.args.token.now c.self.invariant.kept.tree.list (sym c.in-Some.ensures)

pub refresh_lock-requires : goal.refresh_lock-requires
refresh_lock-requires c =
    place_within c.self.inside.tree.keyed c.self.inside.next c.in-Some.node c.in-Some.place (segments c.args.path.now.bytes) c.args.token.now c.self.invariant.kept.tree.list (sym c.in-Some.ensures)

pub returns-in_err-lock-in-Some-clause-refused : goal.returns-in_err-lock-in-Some-clause-refused
returns-in_err-lock-in-Some-clause-refused c =
    let p = err_from_is_err_and c.from_residual.result c.from_residual.ensures.1 in
    let place = found_token c.args.self.now (segments c.args.path.now.bytes) c.args.token.now in
    let some = some_found c.self.inside.tree.keyed c.self.inside.next c.in-Some.node c.in-Some.place (segments c.args.path.now.bytes) c.args.token.now c.self.invariant.kept.tree.list (sym c.in-Some.ensures) in
    subst (λ r. IfErr r (λ e. RefusesRefresh place e)) (sym p.1)
    (subst (λ e. RefusesRefresh place e) (sym p.2)
    (subst (λ locks. IsSome (found_token locks (segments c.args.path.now.bytes) c.args.token.now)) c.self.view_is some))

pub renote-requires-clause-stands : goal.renote-requires-clause-stands
renote-requires-clause-stands c =
    ap (noted_node c.self.inside.ends None) (c.end_at-number.ensures.number some_granted)
    ∙ was_alone c.self.inside.tree.keyed c.self.inside.next c.self.invariant.kept.tree c.self.inside.ends c.self.invariant.kept.are_ends c.self.inside.tree.keyed c.self.inside.ends c.in-Some.node c.in-Some.place some_granted (place_within c.self.inside.tree.keyed c.self.inside.next c.in-Some.node c.in-Some.place (segments c.args.path.now.bytes) c.args.token.now c.self.invariant.kept.tree.list (sym c.in-Some.ensures))

pub renote-requires-clause-only : goal.renote-requires-clause-only
renote-requires-clause-only c = λ k n h.
    subst (λ end. IsKeyOf end k) (sym (c.end_at-number.ensures.end some_granted))
    (was_noted c.self.inside.tree.keyed c.self.inside.next c.self.invariant.kept.tree c.self.inside.ends c.self.invariant.kept.are_ends c.self.inside.tree.keyed c.self.inside.ends c.in-Some.node c.in-Some.place some_granted (place_within c.self.inside.tree.keyed c.self.inside.next c.in-Some.node c.in-Some.place (segments c.args.path.now.bytes) c.args.token.now c.self.invariant.kept.tree.list (sym c.in-Some.ensures)) k n
    (ap (noted_node c.self.inside.ends k) (sym (c.end_at-number.ensures.number some_granted)) ∙ h))

pub returns-in_err-renote-in-Some-clause-refused : goal.returns-in_err-renote-in-Some-clause-refused
returns-in_err-renote-in-Some-clause-refused c =
    let p = err_from_is_err_and c.from_residual-in_err-renote-in-Some.result c.from_residual-in_err-renote-in-Some.ensures.1 in
    let place = found_token c.args.self.now (segments c.args.path.now.bytes) c.args.token.now in
    let some = some_found c.self.inside.tree.keyed c.self.inside.next c.in-Some.node c.in-Some.place (segments c.args.path.now.bytes) c.args.token.now c.self.invariant.kept.tree.list (sym c.in-Some.ensures) in
    subst (λ r. IfErr r (λ e. RefusesRefresh place e)) (sym p.1)
    (subst (λ e. RefusesRefresh place e) (sym p.2)
    (subst (λ locks. IsSome (found_token locks (segments c.args.path.now.bytes) c.args.token.now)) c.self.view_is some))

pub invariant_of-self : goal.invariant_of-self
invariant_of-self c = record {
  kept = record {
    tree = c.self.invariant.kept.tree;
    are_ends = ends-same c.self.inside.tree.keyed c.self.inside.next c.self.invariant.kept.tree c.self.inside.ends c.self.invariant.kept.are_ends c.self.inside.tree.keyed c.renote.new.ends (SameLocks-refl c.self.inside.tree.keyed c.self.invariant.kept.tree.list.represents.tree) c.in_err-renote-in-Some.ensures.left;
  };
  indexed = c.self.invariant.indexed;
}

-- the lock is written as it is answered
written : (c : After-refresh_lock) → c.refresh_lock.new.tree.keyed ≡ with_item c.self.inside.tree.keyed c.in-Some.node (set (locks_at c.self.inside.tree.keyed c.in-Some.node) c.in-Some.place ((get_or (locks_at c.self.inside.tree.keyed c.in-Some.node) c.in-Some.place some_granted).0, c.in_ok-lock-in-Some.lock))
written c =
    c.refresh_lock.ensures.set some_granted
    ∙ ap (λ l. with_item c.self.inside.tree.keyed c.in-Some.node (set (locks_at c.self.inside.tree.keyed c.in-Some.node) c.in-Some.place ((get_or (locks_at c.self.inside.tree.keyed c.in-Some.node) c.in-Some.place some_granted).0, l))) (sym (c.in_ok-lock-in-Some.ensures some_granted))

refreshes : (c : After-refresh_lock) → Refreshes c.self.inside.tree.keyed c.refresh_lock.new.tree.keyed c.self.inside.next (segments c.args.path.now.bytes) c.args.token.now c.args.now.0 c.args.timeout c.in_ok-lock-in-Some.lock
refreshes c =
    seen-refresh c.self.inside.tree.keyed c.refresh_lock.new.tree.keyed c.self.inside.next c.in-Some.node c.in-Some.place (segments c.args.path.now.bytes) c.args.token.now c.args.now.0 c.args.timeout c.in_ok-lock-in-Some.lock c.self.invariant.kept.tree (sym c.in-Some.ensures) (c.in_ok-lock-in-Some.ensures some_granted) (written c)

refreshed_list : (c : After-refresh_lock) → IsKeptAs c.refresh_lock.new.tree.keyed c.self.inside.next (set (lock_list c.self.inside.tree.keyed) (refreshes c).at c.in_ok-lock-in-Some.lock)
refreshed_list c = kept-refresh c.self.inside.tree.keyed c.refresh_lock.new.tree.keyed c.self.inside.next (segments c.args.path.now.bytes) c.args.token.now c.args.now.0 c.args.timeout c.in_ok-lock-in-Some.lock (refreshes c)

pub invariant_of-self-in-Some : goal.invariant_of-self-in-Some
invariant_of-self-in-Some c =
    let l = c.in_ok-lock-in-Some.lock in
    let noted = subst (λ end. Renotes c.self.inside.ends c.renote.new.ends c.end_at-number.result.0 (IsKeyOf end) c.in-Some.node) (ap (λ l. l.timeout_at) c.lock.view_is) c.in_ok-renote-in-Some.ensures.noted in
    record {
      kept = record {
        tree = (refreshed_list c).keeps;
        are_ends = ends-refresh c.self.inside.tree.keyed c.self.inside.next c.self.invariant.kept.tree c.self.inside.ends c.self.invariant.kept.are_ends c.refresh_lock.new.tree.keyed c.renote.new.ends c.in-Some.node c.in-Some.place some_granted (place_within c.self.inside.tree.keyed c.self.inside.next c.in-Some.node c.in-Some.place (segments c.args.path.now.bytes) c.args.token.now c.self.invariant.kept.tree.list (sym c.in-Some.ensures)) l (written c)
            (subst (λ g. Renotes c.self.inside.ends c.renote.new.ends g (IsKeyOf l.timeout_at) c.in-Some.node) (c.end_at-number.ensures.number some_granted) noted);
      };
      indexed = c.refresh_lock.ensures.indexed c.self.inside.index c.self.invariant.indexed;
    }

pub returns-in_ok-renote-in-Some-clause-done : goal.returns-in_ok-renote-in-Some-clause-done
returns-in_ok-renote-in-Some-clause-done c =
    let r = refreshes c in (
      r.at,
      subst (λ locks. found_token locks (segments c.args.path.now.bytes) c.args.token.now ≡ Some r.at) c.self.view_is r.is_found,
      r.is ∙ ap (λ locks. refreshed_lock c.args.now.0 c.args.timeout (get_or locks r.at c.in_ok-lock-in-Some.lock)) c.self.view_is,
      r.after.seen ∙ ap (λ locks. set locks r.at c.in_ok-lock-in-Some.lock) c.self.view_is,
    )

pub returns-in_ok-renote-in-Some-clause-exclusive : goal.returns-in_ok-renote-in-Some-clause-exclusive
returns-in_ok-renote-in-Some-clause-exclusive c = (refreshed_list c).keeps.list.exclusive
