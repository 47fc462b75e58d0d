-- What a map has after a move.
use Rattle.std.proofs.Common.{◌≡◌, inl, inr, cond, List, [], ◌∷◌, ◌++◌, Option, Some, None, refl, sym, ap, ◌∙◌, append-nil}
use Rattle.std.specs.Prelude.{option_and_then, option_map, filter_map}
use Rattle.std.specs.List.{cons_option}
use Rattle.std.specs.Ordering.{eq_by_cmp}
use Rattle.std.specs.FinMap.{entries, find, get-entries, get-from_entries, same_map}
use Rattle.dav_path_core.specs.Fronts.{Path, path_cmp, behind}
use Rattle.dav_path_core.proofs.lists.FinMaps.{none_some, one_some, dec, test_false, get_left}
use Rattle.dav_path_core.proofs.lists.Orders.{path_total, path_exact, eq_by_cmp_same}
use Rattle.dav_files_core.specs.Moved.{path_after, moved_entry, moved_map}
use Rattle.dav_files_core.specs.Outcomes.{without}
use Rattle.dav_files_core.specs.Resources.{Resource, ResourceMap, at_path}
use Rattle.dav_path_core.proofs.paths.FrontLemmas.{behind_append}
use Rattle.dav_files_core.proofs.paths.FrontLemmas.{after_from, after_other, after_gone, after_back}

nothing : (o : Option Path) → ◌≡◌ {A = Option Resource} None (option_and_then (λ p. find path_cmp p []) o)
nothing None = refl
nothing (Some p) = refl

passed : (e : Path × Resource) (es : List (Path × Resource)) (o : Option Path) → ¬ (o ≡ Some e.0)
    → option_and_then (λ p. find path_cmp p es) o ≡ option_and_then (λ p. find path_cmp p (e ∷ es)) o
passed e es None ne = refl
passed e es (Some p) ne = ap (λ b. cond b (Some e.1) (find path_cmp p es)) (sym (test_false path_total path_exact p e.0 (λ same. ne (ap Some same))))

find-moved : (from to : Path) (es : List (Path × Resource)) (q : Path)
    → find path_cmp q (filter_map (moved_entry from to) es) ≡ option_and_then (λ p. find path_cmp p es) (path_after to from q)
find-moved from to [] q = nothing (path_after to from q)
find-moved from to (e ∷ es) q =
    by (path_after from to e.0) refl (find-moved from to es q)
  where
    rest : List (Path × Resource)
    rest = filter_map (moved_entry from to) es

    by : (o : Option Path) → path_after from to e.0 ≡ o → find path_cmp q (filter_map (moved_entry from to) es) ≡ option_and_then (λ p. find path_cmp p es) (path_after to from q)
        → find path_cmp q (filter_map (moved_entry from to) (e ∷ es)) ≡ option_and_then (λ p. find path_cmp p (e ∷ es)) (path_after to from q)
    by None h ih =
        ap (λ (o : Option Path). find path_cmp q (cons_option (option_map (λ (p : Path). (p, e.1)) o) rest)) h ∙ ih
        ∙ passed e es (path_after to from q) (λ back. none_some (path_after from to e.0) q h (after_back to from q e.0 back))
    by (Some p) h ih =
        ap (λ (o : Option Path). find path_cmp q (cons_option (option_map (λ (p : Path). (p, e.1)) o) rest)) h ∙ elim (dec path_total path_exact q p) [
          | inl same ↦
              ap (λ b. cond b (Some e.1) (find path_cmp q rest)) (ap (eq_by_cmp path_cmp q) (sym same) ∙ eq_by_cmp_same path_total q)
              ∙ sym (ap (option_and_then (λ p. find path_cmp p (e ∷ es))) (after_back from to e.0 q (h ∙ ap Some (sym same)))
              ∙ ap (λ b. cond b (Some e.1) (find path_cmp e.0 es)) (eq_by_cmp_same path_total e.0))
          | inr other ↦
              ap (λ b. cond b (Some e.1) (find path_cmp q rest)) (test_false path_total path_exact q p other) ∙ ih
              ∙ passed e es (path_after to from q) (λ back. other (one_some (path_after from to e.0) q p (after_back to from q e.0 back) h))
        ]

pub get-moved : (m : ResourceMap) (from to q : Path) → at_path (moved_map m from to) q ≡ option_and_then (at_path m) (path_after to from q)
get-moved m from to q =
    get-from_entries path_total (filter_map (moved_entry from to) (entries m.entries)) q ∙ find-moved from to (entries m.entries) q ∙ back (path_after to from q)
  where
    back : (o : Option Path) → option_and_then (λ p. find path_cmp p (entries m.entries)) o ≡ option_and_then (at_path m) o
    back None = refl
    back (Some p) = sym (get-entries m.entries p)

-- behind the target is what was behind the source
pub moved_to : (m : ResourceMap) (from to s : Path) → at_path (moved_map m from to) (to ++ s) ≡ at_path m (from ++ s)
moved_to m from to s = get-moved m from to (to ++ s) ∙ ap (option_and_then (at_path m)) (after_from to from s)

-- nothing is at or below the source
pub moved_from : (m : ResourceMap) (from to s : Path) → behind to (from ++ s) ≡ None → at_path (moved_map m from to) (from ++ s) ≡ None
moved_from m from to s h = get-moved m from to (from ++ s) ∙ ap (option_and_then (at_path m)) (after_gone to from (from ++ s) s h (behind_append from s))

-- and every other path has what it had
pub moved_other : (m : ResourceMap) (from to p : Path) → behind from p ≡ None → behind to p ≡ None → at_path (moved_map m from to) p ≡ at_path m p
moved_other m from to p f t = get-moved m from to p ∙ ap (option_and_then (at_path m)) (after_other to from p t f)

-- what stood at the target plays no part
pub moved-without : (m : ResourceMap) (from to : Path) → behind from to ≡ None → moved_map (without m to) from to ≡ moved_map m from to
moved-without m from to h =
    let same = same_map path_total path_exact (moved_map (without m to) from to).entries (moved_map m from to).entries
    (λ q. get-moved (without m to) from to q ∙ by q (path_after to from q) refl ∙ sym (get-moved m from to q)) in
    λ i. record { entries = same i; next = m.next }
  where
    by : (q : Path) (o : Option Path) → path_after to from q ≡ o → option_and_then (at_path (without m to)) o ≡ option_and_then (at_path m) o
    by q None e = refl
    by q (Some b) e =
        let gone = after_gone from to to [] h (ap (behind to) (sym (append-nil to)) ∙ behind_append to []) in
        get_left path_total path_exact m.entries to b (λ at_target. none_some (path_after from to to) q gone (ap (path_after from to) (sym at_target) ∙ after_back to from q b e))
