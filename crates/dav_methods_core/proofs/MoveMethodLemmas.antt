-- That a source can be moved once its target is cleared.
use Rattle.std.proofs.Common.{◌≡◌, inl, inr, Bool, true, false, not, ◌&&◌, List, [], ◌∷◌, ◌++◌, refl, sym, ap, ◌∙◌, subst}
use Rattle.std.specs.Prelude.{IsSome, option_map}
use Rattle.std.proofs.lemmas.Bool.{cases_Bool}
use Rattle.std.proofs.lemmas.List.Elements.{filter_agree}
use Rattle.dav_path_core.specs.Fronts.{Path, is_front, parent}
use Rattle.dav_path_core.proofs.lists.FinMaps.{none_some}
use Rattle.dav_path_core.proofs.lists.MemberLemmas.{In, append_none}
use Rattle.dav_path_core.proofs.lists.PlaceLemmas.{filter-filter}
use Rattle.dav_path_core.proofs.paths.FrontLemmas.{is_front-refl}
use Rattle.dav_files_core.specs.Following.{dated_entry}
use Rattle.dav_files_core.specs.Resources.{IsResourceMap, at_path}
use Rattle.dav_locks_core.specs.Lock.{Lock}
use Rattle.dav_locks_core.specs.Locks.{LockCaller as LocksCaller, check_conflicts, is_at_or_below, refuses_change, without_below}
use Rattle.dav_guarded_core.specs.Step.{State}
use Rattle.dav_session_core.specs.Callers.{Caller, as_caller}
use Rattle.dav_session_core.specs.Clearing.{IsCleared, refusing_anew}
use Rattle.dav_methods_core.specs.TransferEnds.{EndsFit}
use Rattle.dav_session_core.specs.Ends.{GoesFrom, is_related}
use Rattle.dav_session_core.specs.Moving.{CanMove, refusing_move}
use Rattle.dav_session_core.specs.Removing.{IsRemoved, refusing_removal}
use Rattle.dav_session_core.proofs.PutLemmas.{both_none}
use Rattle.dav_session_core.proofs.RemovalCheckLemmas.{removal_split}
use Rattle.dav_session_core.proofs.RemovalLemmas.{free_stays, removal_stays}
use Rattle.dav_session_core.proofs.MoveLemmas.{out_to, own_above, source_apart, removal_of, target_in}

-- with no lock at the path or below it a deep check finds what a check of the path alone does
deep_anew : (p : Path) (locks : List Lock) (who : LocksCaller) → check_conflicts (without_below p locks) p true who ≡ check_conflicts (without_below p locks) p false who
deep_anew p locks who =
    filter-filter (refuses_change (without_below p locks) p true who) (λ l. not (is_at_or_below l p)) locks ∙ filter_agree _ _ same locks
    ∙ sym (filter-filter (refuses_change (without_below p locks) p false who) (λ l. not (is_at_or_below l p)) locks)
  where
    same : (l : Lock) → (not (is_at_or_below l p) && refuses_change (without_below p locks) p true who l) ≡ (not (is_at_or_below l p) && refuses_change (without_below p locks) p false who l)
    same l = elim (cases_Bool (is_at_or_below l p)) [
      | inl below ↦ rw (below) refl
      | inr out ↦ rw (out) refl
    ]

both_ends : (s : State) (who : Caller) (from to : Path) → refusing_removal s who (from ∷ []) ≡ [] → refusing_removal s who (to ∷ []) ≡ []
    → refusing_removal s who (from ∷ to ∷ []) ≡ []
both_ends s who from to source target = removal_split s who from (to ∷ []) ∙ ap (λ ls. ls ++ refusing_removal s who (to ∷ [])) source ∙ target

-- a folder that stood at the target is gone
module _ (s mid : State) (who : Caller) (from to : Path) (replaces : Bool) (fit : EndsFit s.map from to replaces) (apart : is_related false from to ≡ false) (shape : IsResourceMap mid.map)
    (removed : IsRemoved who.now to s mid) (source : refusing_removal s who (from ∷ []) ≡ []) (target : refusing_removal s who (to ∷ []) ≡ []) (anew : refusing_anew s who to ≡ []) where
  source_free : refusing_removal mid who (from ∷ []) ≡ []
  source_free = subst (λ locks. refusing_removal (record mid { locks = locks }) who (from ∷ []) ≡ []) (sym removed.locks)
      (removal_stays to s.locks (as_caller who) (from ∷ []) out source)
    where
      out : (q : Path) → In q (from ∷ []) → is_front to q ≡ false
      out q (inl same) = ap (is_front to) (sym same) ∙ out_to from to apart
      out q (inr none) = absurd none

  target_free : refusing_removal mid who (to ∷ []) ≡ []
  target_free =
      let above = append_none (check_conflicts s.locks (parent to) false (as_caller who)) [] (append_none (check_conflicts s.locks to true (as_caller who)) _ target).1 in
      subst (λ locks. refusing_removal (record mid { locks = locks }) who (to ∷ []) ≡ []) (sym removed.locks)
      (both_none (check_conflicts (without_below to s.locks) to true (as_caller who)) (check_conflicts (without_below to s.locks) (parent to) false (as_caller who))
      (deep_anew to s.locks (as_caller who) ∙ anew) (free_stays to s.locks (parent to) false (as_caller who) (own_above from to apart) above.0))

  can_move_there : CanMove mid who from to
  can_move_there = record {
    shape = shape;
    stands = subst (λ o. IsSome o) (sym (removed.others from (out_to from to apart) (source_apart from to apart))) fit.stands;
    apart = apart;
    above = (dated_entry who.now fit.above.0, removed.above ∙ ap (option_map (dated_entry who.now)) fit.above.1, fit.above.2);
    no_folder = λ folder. none_some (at_path mid.map to) folder.0 (removed.gone to (is_front-refl to)) folder.1;
    free = both_ends mid who from to source_free target_free;
  }

pub can_move_then : (s mid : State) (who : Caller) (from to : Path) (replaces : Bool) (gone : List Path) → EndsFit s.map from to replaces → is_related false from to ≡ false
    → IsResourceMap mid.map → GoesFrom s.map to gone → refusing_move s who from to gone ≡ [] → IsCleared who.now to s mid → CanMove mid who from to
can_move_then s mid who from to replaces [] fit apart shape (inl goes) free cleared = absurd (target_in s.map to [] goes.0 goes.1)
can_move_then s mid who from to replaces (q ∷ gone) fit apart shape (inl goes) free (inl cleared) =
    let parts = append_none (refusing_removal s who (from ∷ [])) (refusing_removal s who (q ∷ gone) ++ refusing_anew s who to) free in
    let rest = append_none (refusing_removal s who (q ∷ gone)) (refusing_anew s who to) parts.1 in
    can_move_there s mid who from to replaces fit apart shape cleared.1 parts.0 (removal_of s who (q ∷ gone) to (target_in s.map to (q ∷ gone) goes.0 goes.1) rest.0) rest.1
can_move_then s mid who from to replaces (q ∷ gone) fit apart shape (inl goes) free (inr same) = absurd (same.0 goes.0)
can_move_then s mid who from to replaces gone fit apart shape (inr none) free (inl cleared) = absurd (none.0 cleared.0)
can_move_then s mid who from to replaces gone fit apart shape (inr none) free (inr same) =
    subst (λ t. CanMove t who from to) (sym same.1) (record {
      shape = subst (λ (t : State). IsResourceMap t.map) same.1 shape;
      stands = fit.stands;
      apart = apart;
      above = fit.above;
      no_folder = none.0;
      free = both_ends s who from to parts.0 parts.1;
    })
  where
    parts : (refusing_removal s who (from ∷ []) ≡ []) × (refusing_removal s who (to ∷ []) ≡ [])
    parts = append_none (refusing_removal s who (from ∷ [])) (refusing_removal s who (to ∷ [])) (subst (λ xs. refusing_move s who from to xs ≡ []) none.1 free)
