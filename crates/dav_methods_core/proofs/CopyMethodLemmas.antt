-- How a COPY is planned and refused, and what its requests leave one after another.
use Rattle.std.proofs.Common.{◌≡◌, ◌≢◌, ◌⊎◌, inl, inr, ℕ, Bool, true, false, cond, List, [], ◌∷◌, ◌++◌, map, Option, Some, None, Ok, is_some, refl, sym, ap, ◌∙◌, subst}
use Rattle.std.proofs.lemmas.Bool.{or_parts, true≢false}
use Rattle.http_header.specs.FieldValue.{FieldValue}
use Rattle.http_header.specs.HeaderMap.{Entries}
use Rattle.dav_path_core.specs.declared.util.DavMethod.TheVariants as method
use Rattle.dav_path_core.specs.Fronts.{Path, is_front}
use Rattle.dav_path_core.proofs.lists.MemberLemmas.{append_none}
use Rattle.dav_path_core.specs.PathText.{PathText}
use Rattle.dav_path_core.specs.Segments.{segments}
use Rattle.dav_files_core.specs.Meta.{Meta}
use Rattle.dav_files_core.specs.Resources.{IsResourceMap, at_path}
use Rattle.dav_locks_core.specs.Lock.{Lock}
use Rattle.dav_guarded_core.specs.Checks.{Check, has, refusing, shallow, target}
use Rattle.dav_guarded_core.specs.Step.{State}
use Rattle.dav_fields_core.specs.Bases.{Site}
use Rattle.dav_faults_core.specs.declared.faults.Fault.{Fault}
use Rattle.dav_faults_core.specs.declared.faults.Fault.TheVariants as fault
use Rattle.dav_session_core.specs.Callers.{Caller, RunBy, SameLive, as_caller, live}
use Rattle.dav_session_core.specs.Clearing.{IsCleared, refusing_clearing}
use Rattle.dav_session_core.specs.Copying.{AreCopied, IsCopied, IsPartlyCopied, IsReady, copies_made, source_and_target, refusing_copies}
use Rattle.dav_methods_core.specs.CopyMethod.{CantCopy, Copies, CopyLeaves, FailsToCopy, refusing_copy}
use Rattle.dav_methods_core.specs.ChangeConditions.{change_course}
use Rattle.dav_methods_core.specs.Reaching.{reach_from}
use Rattle.dav_methods_core.specs.TransferEnds.{FailsAtEnds, AreEnds, ArePlaces, LacksPlaces, copies_of}
use Rattle.dav_methods_core.specs.CopyMethod.{IsPlanned}
use Rattle.dav_session_core.specs.Ends.{GoesFrom}
use Rattle.dav_session_core.specs.LocksInTheWay.{IsRefusedBy, by_place}
use Rattle.dav_session_core.specs.Subtrees.{HasOddName}
use Rattle.dav_methods_core.specs.Placing.{target_by}
use Rattle.dav_session_core.proofs.CallerLaws.{asks_of, asks_shape}
use Rattle.dav_methods_core.proofs.CopyPlanLemmas.{are_copied, pairs_are, places_plain, rests_of}
use Rattle.dav_methods_core.proofs.CopyReadyLemmas.{copy_ready}

-- ---- the locks that are asked for

-- the check of each copy, by the place that it is written to
pub checks_are : {A : Type 0} (view : A → Path × Path) (from to : Path) (xs : List A) (rests : List Path) → map view xs ≡ map (source_and_target from to) rests
    → map (λ x. shallow (view x).1) xs ≡ map (λ rest. shallow (to ++ rest)) rests
checks_are view from to [] [] h = refl
checks_are view from to [] (r ∷ rests) h = absurd (cc)
checks_are view from to (x ∷ xs) [] h = absurd (cc)
checks_are view from to (x ∷ xs) (r ∷ rests) h =
    let one : view x ≡ source_and_target from to r = cc in
    let others : map view xs ≡ map (source_and_target from to) rests = cc in
    ap (λ (pair : Path × Path). shallow pair.1 ∷ map (λ x. shallow (view x).1) xs) one ∙ ap (λ ks. shallow (to ++ r) ∷ ks) (checks_are view from to xs rests others)

-- the locks that refuse to clear a place, or one of some checks
abbrev pub asked_of : Path → List Path → List Check → State → Caller → List Lock
asked_of to gone ks s who = refusing_clearing s who to gone ++ refusing s.locks (as_caller who) ks

pub asked_are : (who : Caller) (s : State) (to : Path) (gone rests : List Path) (there : Bool) (ks : List Check) → there ≡ has s.map to
    → ks ≡ map (λ rest. shallow (to ++ rest)) rests → asked_of to gone (target_by there to ++ ks) s who ≡ refusing_copy s who to gone rests
asked_are who s to gone rests there ks is are =
    ap (λ b. asked_of to gone (target_by b to ++ ks) s who) is ∙ ap (λ js. asked_of to gone (target s.map to ++ js) s who) are

module _ (site : Site) (prefix : List ℕ) (headers : Entries FieldValue) (who : Caller) (start : State) (from : Path) where
  abbrev Fails : Fault → Type 0
  Fails e = CantCopy site prefix headers (live who.now start) who from e

  -- ---- a COPY that is refused

  pub copy_halted : (e : Fault) → (e ≡ fault.InsufficientStorage) ⊎ ((e ≡ fault.BadRequest) × (reach_from start.map from headers ≡ None))
      → CantCopy site prefix headers (live who.now start) who from e
  copy_halted e (inl short) = subst Fails (sym short) CantCopy.memory
  copy_halted e (inr h) = subst Fails (sym h.0) (CantCopy.depth h.1)

  pub plan_lost : (e : Fault) → e ≡ fault.InsufficientStorage → CantCopy site prefix headers (live who.now start) who from e
  plan_lost e is = subst Fails (sym is) CantCopy.memory

  pub copy_lost : (e : Fault) → e ≡ fault.InsufficientStorage → FailsToCopy site prefix headers (live who.now start) who from e
  copy_lost e is = inl (plan_lost e is)

  -- what is refused before anything is changed leaves all as it was
  pub copy_left : (e : Fault) (s' : State) → SameLive who.now start s' → CopyLeaves site prefix headers start who from e s'
  copy_left fault.InsufficientStorage s' h = inl h
  copy_left _ s' h = h

  module _ (deep : Bool) (reaches : reach_from start.map from headers ≡ Some deep) where
    pub copy_unfit : (e : Fault) → FailsAtEnds site prefix headers start.map from true e → CantCopy site prefix headers (live who.now start) who from e
    copy_unfit e h = CantCopy.ends deep e reaches h

    module _ (to : PathText) (known : Option Meta) (gone : List Path) (are : AreEnds site prefix headers start.map from true to known gone) where
      abbrev aim : Path
      aim = segments to.bytes

      apart : is_front aim from ≡ false
      apart = (or_parts (is_front aim from) false are.leads.apart).0

      -- the places of the source aren't found
      pub copy_unwalked : (e : Fault) → LacksPlaces start.map deep from e → CantCopy site prefix headers (live who.now start) who from e
      copy_unwalked fault.InsufficientStorage h = CantCopy.memory
      copy_unwalked fault.NotFound h = absurd (true≢false (sym are.fit.stands ∙ ap is_some h))
      copy_unwalked fault.BadRequest h = CantCopy.odd to are.replaces (reaches ∙ ap Some h.0) are.leads are.fit h.1
      copy_unwalked _ h = absurd h

      module _ (places : List Path) (found : ArePlaces start.map deep from places) where
        plain : deep ≡ true → ¬ HasOddName start.map from
        plain = places_plain start.map from places deep found

        all : AreCopied deep from aim start.map (rests_of from aim places)
        all = are_copied from aim start.map deep places found are.fit.stands apart

        -- a lock refuses it
        pub copy_locked : (e : Fault) → IsRefusedBy (refusing_copy (live who.now start) who aim gone (rests_of from aim places)) e
            → CantCopy site prefix headers (live who.now start) who from (by_place aim e)
        copy_locked fault.InsufficientStorage h = CantCopy.memory
        copy_locked (fault.Locked path) h = CantCopy.locked deep to are.replaces gone (rests_of from aim places) path reaches are.leads are.fit are.goes plain all h
        copy_locked _ h = absurd h

        -- nothing refuses it
        pub copy_planned : IsResourceMap start.map → refusing_copy (live who.now start) who aim gone (rests_of from aim places) ≡ []
            → IsPlanned site prefix headers (live who.now start) who from known gone (copies_of from aim places)
        copy_planned shape free = record {
          shape = shape;
          deep = deep;
          reaches = reaches;
          to = to;
          replaces = are.replaces;
          leads = are.leads;
          fit = are.fit;
          known_is = are.known_is;
          goes = are.goes;
          plain = plain;
          rests = rests_of from aim places;
          are = all;
          free = free;
          pairs_are = pairs_are from aim places;
        }

  -- ---- a COPY that nothing refuses

  module _ (known : Option Meta) (gone : List Path) (pairs : List (Path × Path)) (plan : IsPlanned site prefix headers (live who.now start) who from known gone pairs)
      (asker : Caller) (b m : State) (same : asker ≡ who) (still : SameLive who.now start b) (run : RunBy asker b m)
      (clears : (p : Path) → GoesFrom b.map p gone → refusing_clearing (live asker.now b) asker p gone ≡ [] → p ≢ []
      → IsCleared asker.now p (live asker.now b) (live asker.now m)) where
    abbrev to : Path
    to = segments plan.to.bytes

    out : is_front to from ≡ false
    out = (or_parts (is_front to from) false plan.leads.apart).0

    no_root : to ≢ []
    no_root none = true≢false (ap (λ t. is_front t from) (sym none) ∙ out)

    -- the target is cleared
    cleared : IsCleared who.now to (live who.now start) (live who.now m)
    cleared =
        let by = subst (λ (w : Caller). (p : Path) → GoesFrom b.map p gone → refusing_clearing (live w.now b) w p gone ≡ [] → p ≢ []
        → IsCleared w.now p (live w.now b) (live w.now m)) same clears in
        let free = (append_none (refusing_clearing (live who.now start) who to gone) (refusing_copies (live who.now start) who to plan.rests) plan.free).0 in
        subst (λ t. IsCleared who.now to t (live who.now m)) still
        (by to (subst (λ (t : State). GoesFrom t.map to gone) (sym still) plan.goes) (subst (λ t. refusing_clearing t who to gone ≡ []) (sym still) free) no_root)

    -- so all is ready
    ready : IsReady (live who.now m) who plan.deep from to plan.rests
    ready = copy_ready who plan.deep from to (live who.now start) (live who.now m) plan.replaces plan.rests out plan.fit plan.are
        (asks_shape asker b m (asks_of asker b m run) (subst (λ (t : State). IsResourceMap t.map) (sym still) plan.shape)) gone plan.goes plan.free cleared

    module _ (copier : Caller) (s' : State) (same' : copier ≡ who) where
      -- what is said of all that is ready
      abbrev pub OfReady : (State → Caller → Bool → Path → Path → Type 0) → Type 0
      OfReady P = (deep : Bool) (from to : Path) (rests : List Path) → IsReady (live copier.now m) copier deep from to rests → pairs ≡ map (source_and_target from to) rests
          → P m copier deep from to

      of_ready : (P : State → Caller → Bool → Path → Path → Type 0) → OfReady P → P m who plan.deep from to
      of_ready P h = subst (λ (w : Caller). IsReady (live w.now m) w plan.deep from to plan.rests → P m w plan.deep from to) same' (λ r. h plan.deep from to plan.rests r plan.pairs_are) ready

      pub copy_all : (status : ℕ) → status ≡ cond (is_some (at_path start.map to)) 204 201 → change_course method.Copy start.map from headers ≡ Ok tt
          → OfReady (λ m w deep from to. IsCopied w.now deep from to (live w.now m) (live w.now s')) → copies_made copier.now pairs m.map ≡ Ok (tt, s'.map) → Copies site prefix headers (live who.now start) who from status s'
      copy_all status is lets h made = record {
        deep = plan.deep;
        reaches = plan.reaches;
        to = plan.to;
        replaces = plan.replaces;
        leads = plan.leads;
        fit = plan.fit;
        status_is = is;
        gone = gone;
        goes = plan.goes;
        plain = plan.plain;
        rests = plan.rests;
        are = plan.are;
        free = plan.free;
        mid = live who.now m;
        cleared = cleared;
        copied = of_ready (λ m w deep from to. IsCopied w.now deep from to (live w.now m) (live w.now s')) h;
        made = subst (λ xs. copies_made who.now xs m.map ≡ Ok (tt, s'.map)) plan.pairs_are
            (subst (λ (w : Caller). copies_made w.now pairs m.map ≡ Ok (tt, s'.map)) same' made);
        course = lets;
      }

      pub copy_short : (e : Fault) → OfReady (λ m w deep from to. e ≡ fault.InsufficientStorage) → e ≡ fault.InsufficientStorage
      copy_short e h = of_ready (λ m w deep from to. e ≡ fault.InsufficientStorage) h

      -- it began, and then lacked memory
      pub copy_begun : (e : Fault) → e ≡ fault.InsufficientStorage → change_course method.Copy start.map from headers ≡ Ok tt → OfReady (λ m w deep from to. IsPartlyCopied w.now deep from to (live w.now m) (live w.now s'))
          → CopyLeaves site prefix headers start who from e s'
      copy_begun e is lets h = subst (λ e. CopyLeaves site prefix headers start who from e s') (sym is) (inr (record {
        deep = plan.deep;
        reaches = plan.reaches;
        to = plan.to;
        replaces = plan.replaces;
        leads = plan.leads;
        fit = plan.fit;
        gone = gone;
        goes = plan.goes;
        plain = plan.plain;
        rests = plan.rests;
        are = plan.are;
        free = plan.free;
        course = lets;
        mid = live who.now m;
        cleared = cleared;
        copied = of_ready (λ m w deep from to. IsPartlyCopied w.now deep from to (live w.now m) (live w.now s')) h;
      }))
