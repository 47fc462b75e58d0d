-- That all is ready to be copied once the target is cleared.
use Rattle.std.proofs.Common.{◌≡◌, inl, inr, ℕ, Bool, true, false, cond, List, [], ◌∷◌, ◌++◌, map, Option, Some, None, is_some, refl, sym, ap, ◌∙◌, subst}
use Rattle.std.specs.Prelude.{option_map}
use Rattle.std.proofs.lemmas.Bool.{true≢false}
use Rattle.dav_path_core.specs.Fronts.{Path, is_front, parent}
use Rattle.dav_path_core.proofs.lists.FinMaps.{dec, none_some}
use Rattle.dav_path_core.proofs.lists.MemberLemmas.{append_none}
use Rattle.dav_path_core.proofs.lists.Orders.{path_exact, path_total}
use Rattle.dav_path_core.proofs.paths.FrontLemmas.{is_front-refl}
use Rattle.dav_files_core.specs.Following.{dated_entry}
use Rattle.dav_files_core.specs.Resources.{IsResourceMap, Resource, at_path}
use Rattle.dav_locks_core.specs.Lock.{Lock}
use Rattle.dav_locks_core.specs.Locks.{check_conflicts, without_below}
use Rattle.dav_guarded_core.specs.Checks.{has, member, refusing, shallow, target}
use Rattle.dav_guarded_core.specs.Step.{State}
use Rattle.dav_session_core.specs.Callers.{Caller, as_caller}
use Rattle.dav_session_core.specs.Clearing.{IsCleared, refusing_anew, refusing_clearing}
use Rattle.dav_session_core.specs.Copying.{AreCopied, IsReady, is_copied, refusing_copies}
use Rattle.dav_methods_core.specs.CopyMethod.{refusing_copy}
use Rattle.dav_methods_core.specs.TransferEnds.{EndsFit}
use Rattle.dav_session_core.specs.Ends.{GoesFrom}
use Rattle.dav_session_core.specs.Removing.{IsRemoved, refusing_removal}
use Rattle.dav_session_core.proofs.CopyingLemmas.{out_of_target}
use Rattle.dav_session_core.proofs.MoveLemmas.{removal_of, target_in}
use Rattle.dav_files_core.proofs.paths.RemovedMaps.{above_out}
use Rattle.dav_session_core.proofs.RemovalLemmas.{free_stays}
use Rattle.dav_locks_core.proofs.laws.CoveredBelow.{anew_below}

-- what stands elsewhere stands after a folder has gone
elsewhere_stands : (now : ℕ) (to q : Path) (s mid : State) → IsRemoved now to s mid → is_front to q ≡ false → is_some (at_path mid.map q) ≡ is_some (at_path s.map q)
elsewhere_stands now to q s mid h out = elim (dec path_total path_exact q (parent to)) [
  | inl above ↦ ap (λ x. is_some (at_path mid.map x)) above ∙ ap is_some h.above ∙ still (at_path s.map (parent to)) ∙ ap (λ x. is_some (at_path s.map x)) (sym above)
  | inr other ↦ ap is_some (h.others q out other)
]
  where
    still : (o : Option Resource) → is_some (option_map (dated_entry now) o) ≡ is_some o
    still None = refl
    still (Some r) = refl

module _ (who : Caller) (deep : Bool) (from to : Path) (s mid : State) (replaces : Bool) (rests : List Path) (apart : is_front to from ≡ false) (fit : EndsFit s.map from to replaces)
    (are : AreCopied deep from to s.map rests) (shape : IsResourceMap mid.map) where
  -- the same are copied
  still_copied : IsRemoved who.now to s mid → AreCopied deep from to mid.map rests
  still_copied h = record {
    members = λ rest. (
      (λ c. let one = (are.members rest).0 c in (one.0, stands rest one.0 ∙ one.1)),
      (λ one. (are.members rest).1 (one.0, sym (stands rest one.0) ∙ one.1)),
    );
    sorted = are.sorted;
  }
    where
      stands : (rest : Path) → is_copied deep from to rest ≡ true → is_some (at_path mid.map (from ++ rest)) ≡ is_some (at_path s.map (from ++ rest))
      stands rest copied = elsewhere_stands who.now to (from ++ rest) s mid h (out_of_target deep from to apart rest copied)

  -- a list of checks below the target
  below_free : (locks : List Lock) → check_conflicts (without_below to locks) to false (as_caller who) ≡ [] → (rests : List Path)
      → refusing (without_below to locks) (as_caller who) (map (λ rest. shallow (to ++ rest)) rests) ≡ []
  below_free locks free [] = refl
  below_free locks free (rest ∷ rests) =
      ap (λ xs. xs ++ refusing (without_below to locks) (as_caller who) (map (λ rest. shallow (to ++ rest)) rests)) (anew_below to rest (as_caller who) locks ∙ free) ∙ below_free locks free rests

  gone_ready : IsRemoved who.now to s mid → refusing_removal s who (to ∷ []) ≡ [] → refusing_anew s who to ≡ [] → IsReady mid who deep from to rests
  gone_ready h removal anew = record {
    shape = shape;
    apart = apart;
    stands = elsewhere_stands who.now to from s mid h apart ∙ fit.stands;
    above = (dated_entry who.now fit.above.0, h.above ∙ ap (option_map (dated_entry who.now)) fit.above.1, fit.above.2);
    no_folder = λ folder. none_some (at_path mid.map to) folder.0 nothing folder.1;
    are = still_copied h;
    free = subst (λ locks. refusing locks (as_caller who) (target mid.map to ++ map (λ rest. shallow (to ++ rest)) rests) ≡ []) (sym h.locks)
        (by (has mid.map to) (ap is_some nothing));
  }
    where
      nothing : at_path mid.map to ≡ None
      nothing = h.gone to (is_front-refl to)

      left : List Lock
      left = without_below to s.locks

      above_free : check_conflicts left (parent to) false (as_caller who) ≡ []
      above_free =
          let parts = append_none (check_conflicts s.locks to true (as_caller who)) (check_conflicts s.locks (parent to) false (as_caller who) ++ []) removal in
          let above = append_none (check_conflicts s.locks (parent to) false (as_caller who)) [] parts.1 in
          free_stays to s.locks (parent to) false (as_caller who) (above_out to (λ none. true≢false (ap (λ t. is_front t from) (sym none) ∙ apart))) above.0

      by : (b : Bool) → b ≡ false
          → refusing left (as_caller who) (cond b (shallow to ∷ []) (member to false) ++ map (λ rest. shallow (to ++ rest)) rests) ≡ []
      by true is = absurd (true≢false is)
      by false is = rw (anew, above_free) (below_free s.locks anew rests)

  pub copy_ready : (gone : List Path) → GoesFrom s.map to gone → refusing_copy s who to gone rests ≡ [] → IsCleared who.now to s mid → IsReady mid who deep from to rests
  copy_ready [] (inl goes) free (inl cleared) = absurd (target_in s.map to [] goes.0 goes.1)
  copy_ready (q ∷ gone) (inl goes) free (inl cleared) =
      let parts = append_none (refusing_removal s who (q ∷ gone) ++ refusing_anew s who to) (refusing_copies s who to rests) free in
      let both = append_none (refusing_removal s who (q ∷ gone)) (refusing_anew s who to) parts.0 in
      gone_ready cleared.1 (removal_of s who (q ∷ gone) to (target_in s.map to (q ∷ gone) goes.0 goes.1) both.0) both.1
  copy_ready gone (inl goes) free (inr same) = absurd (same.0 goes.0)
  copy_ready gone (inr none) free (inl cleared) = absurd (none.0 cleared.0)
  copy_ready gone (inr none) free (inr same) =
      let parts = append_none (refusing_clearing s who to gone) (refusing_copies s who to rests) free in
      subst (λ t. IsReady t who deep from to rests) (sym same.1) (record {
        shape = subst (λ (t : State). IsResourceMap t.map) same.1 shape;
        apart = apart;
        stands = fit.stands;
        above = fit.above;
        no_folder = none.0;
        are = are;
        free = parts.1;
      })
