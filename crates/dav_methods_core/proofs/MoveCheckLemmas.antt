-- What is asked before a MOVE, and what its requests leave one after another.
use Rattle.std.proofs.Common.{◌≡◌, ◌≢◌, ◌⊎◌, inl, inr, ℕ, true, false, cond, eqb, eqb-true, List, [], ◌∷◌, ◌++◌, length, map, Option, is_some, Result, Ok, Err, refl, sym, ap, ◌∙◌, subst}
use Rattle.std.specs.Prelude.{IfErr, OnOk}
use Rattle.std.proofs.lemmas.Bool.{true≢false}
use Rattle.std.proofs.lemmas.List.Elements.{Contains-append_left, Contains-append_right}
use Rattle.http_header.specs.FieldValue.{FieldValue}
use Rattle.http_header.specs.HeaderMap.{Entries}
use Rattle.dav_path_core.specs.declared.util.DavMethod.TheVariants as method
use Rattle.dav_path_core.specs.Fronts.{Path, parent}
use Rattle.dav_path_core.specs.PathText.{PathText}
use Rattle.dav_path_core.specs.Segments.{segments}
use Rattle.dav_files_core.specs.Meta.{Meta}
use Rattle.dav_files_core.specs.Resources.{IsResourceMap, at_path}
use Rattle.dav_locks_core.specs.Lock.{Lock}
use Rattle.dav_guarded_core.specs.Step.{State}
use Rattle.dav_fields_core.specs.Bases.{Site}
use Rattle.dav_faults_core.specs.declared.faults.Fault.{Fault}
use Rattle.dav_faults_core.specs.declared.faults.Fault.TheVariants as fault
use Rattle.dav_session_core.specs.Callers.{Caller, RunBy, SameLive, live}
use Rattle.dav_session_core.specs.Clearing.{IsCleared, refusing_clearing}
use Rattle.dav_methods_core.specs.Reaching.{ReachesDown}
use Rattle.dav_methods_core.specs.TransferEnds.{FailsAtEnds, AreEnds}
use Rattle.dav_session_core.specs.Ends.{GoesFrom, HasFolder}
use Rattle.dav_session_core.specs.LocksInTheWay.{IsRefusedBy, by_place}
use Rattle.dav_session_core.specs.Moving.{CanMove, IsMoved, refusing_move, refusing_place}
use Rattle.dav_methods_core.specs.ChangeConditions.{change_course}
use Rattle.dav_methods_core.specs.MoveMethod.{CantMove, FailsToMove, IsMovable, MoveLeaves, Moves, StartsToMove}
use Rattle.dav_methods_core.specs.MoveMethod.CantMove.{memory, depth, ends, locked}
use Rattle.dav_session_core.specs.Removing.{refusing_removal}
use Rattle.dav_session_core.proofs.Asking.{live_as}
use Rattle.dav_session_core.proofs.CallerLaws.{asks_of, asks_shape}
use Rattle.dav_session_core.proofs.MakeLemmas.{nothing_in}
use Rattle.dav_methods_core.proofs.MoveMethodLemmas.{can_move_then}
use Rattle.dav_session_core.proofs.MoveLemmas.{clearing_free, source_no_root, stands_in, target_no_root}
use Rattle.dav_session_core.proofs.PutLemmas.{more_refused}

-- ---- the checks of a MOVE

-- the second check, of the place: by what goes from there
pub place_bare : (s : State) (who : Caller) (to : Path) (gone : List Path) → gone ≡ [] → refusing_removal s who (to ∷ []) ≡ refusing_place s who to gone
place_bare s who to gone none = ap (refusing_place s who to) (sym none)

pub place_cleared : (s : State) (who : Caller) (to : Path) (gone : List Path) → gone ≢ [] → refusing_clearing s who to gone ≡ refusing_place s who to gone
place_cleared s who to [] some = absurd (some refl)
place_cleared s who to (q ∷ gone) some = refl

-- in the words of the code
pub none_goes : {A : Type 0} (view : A → Path) (xs : List A) → eqb (length xs) 0 ≡ true → map view xs ≡ []
none_goes view xs h = ap (map view) (nothing_in xs (eqb-true (length xs) 0 h))

pub some_goes : {A : Type 0} (view : A → Path) (xs : List A) → eqb (length xs) 0 ≡ false → map view xs ≢ []
some_goes view [] h = λ none. true≢false h
some_goes view (x ∷ xs) h = λ none. cc

-- what refuses the first check refuses the move
pub source_fails : (s : State) (who : Caller) (from to : Path) (gone : List Path) (e : Fault) → IsRefusedBy (refusing_removal s who (from ∷ [])) e
    → IsRefusedBy (refusing_move s who from to gone) e
source_fails s who from to gone e h =
    let first = refusing_removal s who (from ∷ []) in
    more_refused first (refusing_move s who from to gone) e (Contains-append_left first (refusing_place s who to gone)) h

-- so does what refuses the second, which the same caller asks
module _ (who asker : Caller) (s mid : State) (from to : Path) (gone : List Path) (locks_of : State → Caller → List Lock) (same : asker ≡ who) (still : SameLive who.now s mid)
    (is : locks_of (live who.now s) who ≡ refusing_place (live who.now s) who to gone) where
  asked : locks_of (live asker.now mid) asker ≡ refusing_place (live who.now s) who to gone
  asked = ap (λ (w : Caller). locks_of (live w.now mid) w) same ∙ ap (λ t. locks_of t who) still ∙ is

  pub place_fails : {A : Type 0} (result : Result A Fault) → IfErr result (λ e. IsRefusedBy (locks_of (live asker.now mid) asker) e)
      → IfErr result (λ e. IsRefusedBy (refusing_move (live who.now s) who from to gone) e)
  place_fails (Ok x) h = tt
  place_fails (Err e) h =
      let place = refusing_place (live who.now s) who to gone in
      more_refused place (refusing_move (live who.now s) who from to gone) e (Contains-append_right (refusing_removal (live who.now s) who (from ∷ [])) place)
      (subst (λ ls. IsRefusedBy ls e) asked h)

  pub place_passes : {A : Type 0} (result : Result A Fault) → refusing_removal (live who.now s) who (from ∷ []) ≡ [] → OnOk result (locks_of (live asker.now mid) asker ≡ [])
      → OnOk result (refusing_move (live who.now s) who from to gone ≡ [])
  place_passes (Ok x) first h = ap (λ ls. ls ++ refusing_place (live who.now s) who to gone) first ∙ sym asked ∙ h
  place_passes (Err e) first h = tt

-- ---- a MOVE that is refused

module _ (site : Site) (prefix : List ℕ) (headers : Entries FieldValue) (who : Caller) (s : State) (from : Path) where
  abbrev Fails : Fault → Type 0
  Fails e = CantMove site prefix headers (live who.now s) who from e

  pub move_halted : (e : Fault) → (e ≡ fault.InsufficientStorage) ⊎ ((e ≡ fault.BadRequest) × ¬ ReachesDown s.map from headers)
      → CantMove site prefix headers (live who.now s) who from e
  move_halted e (inl short) = subst Fails (sym short) memory
  move_halted e (inr h) = subst Fails (sym h.0) (depth h.1)

  pub move_lost : (e : Fault) → e ≡ fault.InsufficientStorage → FailsToMove site prefix headers (live who.now s) who from e
  move_lost e is = inl (subst Fails (sym is) memory)

  -- what is refused before anything is changed leaves all as it was
  pub move_left : (e : Fault) (s' : State) → SameLive who.now s s' → MoveLeaves site prefix headers s who from e s'
  move_left fault.InsufficientStorage s' h = inl h
  move_left _ s' h = h

  pub move_unfit : (e : Fault) → ReachesDown s.map from headers → FailsAtEnds site prefix headers s.map from false e → CantMove site prefix headers (live who.now s) who from e
  move_unfit e reaches h = ends e reaches h

  -- what is left behind questions is what is left of the start
  left_before : (mid : State) (e : Fault) (s' : State) → SameLive who.now s mid → MoveLeaves site prefix headers mid who from e s' → MoveLeaves site prefix headers s who from e s'
  left_before mid fault.InsufficientStorage s' same (inl h) = inl (h ∙ same)
  left_before mid fault.InsufficientStorage s' same (inr h) = inr (subst (λ t. StartsToMove site prefix headers t who from s') same h)
  left_before mid _ s' same h = h ∙ same

  pub leaves_before : {A : Type 0} (asker : Caller) (mid s' : State) → asker ≡ who → SameLive who.now s mid → (result : Result A Fault)
      → IfErr result (λ e. MoveLeaves site prefix headers mid asker from e s') → IfErr result (λ e. MoveLeaves site prefix headers s who from e s')
  leaves_before asker mid s' same still (Ok x) h = tt
  leaves_before asker mid s' same still (Err e) h =
      left_before mid e s' still (subst (λ (w : Caller). MoveLeaves site prefix headers mid w from e s') same h)

  module _ (to : PathText) (known : Option Meta) (gone : List Path) (are : AreEnds site prefix headers s.map from false to known gone) where
    abbrev target : Path
    target = segments to.bytes

    pub move_locked : (asker : Caller) (mid : State) (e : Fault) → ReachesDown s.map from headers → asker ≡ who → SameLive who.now s mid
        → IsRefusedBy (refusing_move (live asker.now mid) asker from (segments to.bytes) gone) e
        → CantMove site prefix headers (live who.now s) who from (by_place from (by_place (segments to.bytes) e))
    move_locked asker mid e reaches same still h = told e
        (subst (λ t. IsRefusedBy (refusing_move t who from target gone) e) still (subst (λ (w : Caller). IsRefusedBy (refusing_move (live w.now mid) w from target gone) e) same h))
      where
        told : (e : Fault) → IsRefusedBy (refusing_move (live who.now s) who from target gone) e → Fails (by_place from (by_place target e))
        told fault.InsufficientStorage k = memory
        told (fault.Locked path) k = locked to are.replaces gone path reaches are.leads are.fit are.goes k
        told _ k = absurd k

    -- ---- a MOVE that nothing refuses

    -- once its target is cleared
    pub record ReadyToMove (m : State) : Type 0 where
      pub free : refusing_move (live who.now s) who from (segments to.bytes) gone ≡ []
      pub cleared : IsCleared who.now (segments to.bytes) (live who.now s) (live who.now m)
      pub can : CanMove (live who.now m) who from (segments to.bytes)
      pub stood_in : HasFolder s.map (parent from)

    module _ (asker : Caller) (a : State) (checker : Caller) (b m : State) (same : asker ≡ who) (still : SameLive who.now s a) (same' : checker ≡ asker) (still' : SameLive asker.now a b) where
      free_so : refusing_move (live asker.now a) asker from target gone ≡ [] → refusing_move (live who.now s) who from target gone ≡ []
      free_so free = sym (ap (λ (w : Caller). refusing_move (live w.now a) w from target gone) same ∙ ap (λ t. refusing_move t who from target gone) still) ∙ free

      -- nothing refuses it but conditions
      pub movable : ReachesDown s.map from headers → refusing_move (live asker.now a) asker from (segments to.bytes) gone ≡ []
          → IsMovable site prefix headers (live who.now s) who from
      movable reaches free = record {
        reaches = reaches;
        to = to;
        replaces = are.replaces;
        leads = are.leads;
        fit = are.fit;
        gone = gone;
        goes = are.goes;
        free = free_so free;
      }

      cleared_so : refusing_move (live who.now s) who from target gone ≡ [] → ((p : Path) → GoesFrom b.map p gone → refusing_clearing (live checker.now b) checker p gone ≡ [] → p ≢ []
          → IsCleared checker.now p (live checker.now b) (live checker.now m)) → IsCleared who.now target (live who.now s) (live who.now m)
      cleared_so free h =
          let by = subst (λ (w : Caller). (p : Path) → GoesFrom b.map p gone → refusing_clearing (live w.now b) w p gone ≡ [] → p ≢ []
          → IsCleared w.now p (live w.now b) (live w.now m)) (same' ∙ same) h in
          let so_far = live_as who asker s a b same still still' in
          subst (λ t. IsCleared who.now target t (live who.now m)) so_far
          (by target (subst (λ (t : State). GoesFrom t.map target gone) (sym so_far) are.goes)
          (subst (λ t. refusing_clearing t who target gone ≡ []) (sym so_far) (clearing_free (live who.now s) who from target gone free)) (target_no_root from target are.leads.apart))

      pub move_ready : refusing_move (live asker.now a) asker from (segments to.bytes) gone ≡ [] → IsResourceMap b.map → RunBy checker b m
          → ((p : Path) → GoesFrom b.map p gone → refusing_clearing (live checker.now b) checker p gone ≡ [] → p ≢ []
          → IsCleared checker.now p (live checker.now b) (live checker.now m)) → ReadyToMove m
      move_ready free shape run h =
          let free' = free_so free in
          let cleared = cleared_so free' h in
          record {
            free = free';
            cleared = cleared;
            can = can_move_then (live who.now s) (live who.now m) who from target are.replaces gone are.fit are.leads.apart
                (asks_shape checker b m (asks_of checker b m run) shape) are.goes free' cleared;
            stood_in = stands_in s.map from (subst (λ (t : State). IsResourceMap t.map) (live_as who asker s a b same still still') shape) are.fit.stands
                (source_no_root from target are.leads.apart);
          }

    module _ (m : State) (ready : ReadyToMove m) (mover : Caller) (s' : State) (same : mover ≡ who) where
      -- by what the same caller asked
      pub move_all : (status : ℕ) → ReachesDown s.map from headers → change_course method.Move s.map from headers ≡ Ok tt → status ≡ cond (is_some (at_path s.map (segments to.bytes))) 204 201
          → (CanMove (live mover.now m) mover from (segments to.bytes) → IsMoved mover.now from (segments to.bytes) (live mover.now m) s')
          → Moves site prefix headers (live who.now s) who from status s'
      move_all status reaches lets status_is h = record {
        reaches = reaches;
        to = to;
        replaces = are.replaces;
        leads = are.leads;
        fit = are.fit;
        stood_in = ready.stood_in;
        status_is = status_is;
        gone = gone;
        goes = are.goes;
        free = ready.free;
        mid = live who.now m;
        cleared = ready.cleared;
        moved = subst (λ (w : Caller). CanMove (live w.now m) w from target → IsMoved w.now from target (live w.now m) s') same h ready.can;
        course = lets;
      }

      -- it is refused for memory alone
      pub move_short : (e : Fault) → (CanMove (live mover.now m) mover from (segments to.bytes) → e ≡ fault.InsufficientStorage) → e ≡ fault.InsufficientStorage
      move_short e h = subst (λ (w : Caller). CanMove (live w.now m) w from target → e ≡ fault.InsufficientStorage) same h ready.can

      -- it began, and then lacked memory
      pub move_begun : (e : Fault) → ReachesDown s.map from headers → change_course method.Move s.map from headers ≡ Ok tt → e ≡ fault.InsufficientStorage → SameLive mover.now m s' → MoveLeaves site prefix headers s who from e s'
      move_begun e reaches lets is still = subst (λ e. MoveLeaves site prefix headers s who from e s') (sym is) (inr (record {
        movable = record {
          reaches = reaches;
          to = to;
          replaces = are.replaces;
          leads = are.leads;
          fit = are.fit;
          gone = gone;
          goes = are.goes;
          free = ready.free;
        };
        course = lets;
        cleared = subst (λ t. IsCleared who.now target (live who.now s) t) (sym (subst (λ (w : Caller). SameLive w.now m s') same still)) ready.cleared;
      }))
