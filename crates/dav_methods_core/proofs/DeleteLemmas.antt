-- How a DELETE is refused where a lock stands in its way.
use Rattle.std.proofs.Common.{◌≡◌, ◌≢◌, ◌⊎◌, inl, inr, Bool, true, false, cond, List, [], refl, sym, subst}
use Rattle.std.specs.Prelude.{IsSome}
use Rattle.dav_files_core.specs.Resources.{at_path}
use Rattle.dav_session_core.specs.Questions.{FailsToWalk}
use Rattle.http_header.specs.FieldValue.{FieldValue}
use Rattle.http_header.specs.HeaderMap.{Entries}
use Rattle.dav_path_core.specs.Fronts.{Path}
use Rattle.dav_path_core.specs.PathText.{PathText}
use Rattle.dav_guarded_core.specs.Step.{State}
use Rattle.dav_faults_core.specs.declared.faults.Fault.{Fault}
use Rattle.dav_faults_core.specs.declared.faults.Fault.TheVariants as fault
use Rattle.dav_session_core.specs.Callers.{Caller, SameLive, live}
use Rattle.dav_methods_core.specs.Reaching.{ReachesDown}
use Rattle.dav_session_core.specs.LocksInTheWay.{IsRefusedBy, by_place, is_lock_below}
use Rattle.dav_methods_core.specs.DeleteMethod.{CanRemove, CantRemove, IsLockedIn}
use Rattle.dav_session_core.specs.Removing.{refusing_removal}
use Rattle.dav_session_core.specs.Subtrees.{IsSubtreeWalk}

pub removal_fails : (headers : Entries FieldValue) (who asker : Caller) (s mid : State) (p : Path) (all : List Path) (e : Fault) → ReachesDown s.map p headers → p ≢ []
    → IsSubtreeWalk s.map p all → asker ≡ who → SameLive who.now s mid → IsRefusedBy (refusing_removal (live asker.now mid) asker all) e
    → CantRemove headers (live who.now s) who p (by_place p e)
removal_fails headers who asker s mid p all e reaches no_root walk same still h = told e here
  where
    here : IsRefusedBy (refusing_removal (live who.now s) who all) e
    here = subst (λ (t : State). IsRefusedBy (refusing_removal t who all) e) still
        (subst (λ (w : Caller). IsRefusedBy (refusing_removal (live w.now mid) w all) e) same h)

    by_test : (path : PathText) (b : Bool) → is_lock_below p path ≡ b → IsLockedIn (live who.now s) who p path
        → CantRemove headers (live who.now s) who p (cond b (fault.MemberLocked path) (fault.Locked path))
    by_test path true is k = (reaches, no_root, k, is)
    by_test path false is k = (reaches, no_root, k, is)

    told : (e : Fault) → IsRefusedBy (refusing_removal (live who.now s) who all) e → CantRemove headers (live who.now s) who p (by_place p e)
    told fault.InsufficientStorage k = tt
    told (fault.Locked path) k = by_test path (is_lock_below p path) refl (record { places = all; walk = walk; refused = k })
    told _ k = absurd k

-- it doesn't reach all that stands there
pub removal_halted : (headers : Entries FieldValue) (who : Caller) (s : State) (p : Path) (e : Fault)
    → (e ≡ fault.InsufficientStorage) ⊎ ((e ≡ fault.BadRequest) × ¬ ReachesDown s.map p headers) → CantRemove headers (live who.now s) who p e
removal_halted headers who s p e (inl short) = subst (CantRemove headers (live who.now s) who p) (sym short) tt
removal_halted headers who s p e (inr h) = subst (CantRemove headers (live who.now s) who p) (sym h.0) (inl h.1)

-- the places of what stands there aren't found
pub removal_unwalked : (headers : Entries FieldValue) (who : Caller) (s : State) (p : Path) (e : Fault) → ReachesDown s.map p headers → p ≢ []
    → FailsToWalk s.map p e → CantRemove headers (live who.now s) who p e
removal_unwalked headers who s p e reaches no_root (inl short) = subst (CantRemove headers (live who.now s) who p) (sym short) tt
removal_unwalked headers who s p e reaches no_root (inr (inl h)) = subst (CantRemove headers (live who.now s) who p) (sym h.0) (reaches, no_root, h.1)
removal_unwalked headers who s p e reaches no_root (inr (inr h)) = subst (CantRemove headers (live who.now s) who p) (sym h.0) (inr (reaches, no_root, h.1))

-- nothing refuses it but conditions
pub can_remove : (headers : Entries FieldValue) (who asker : Caller) (s mid : State) (p : Path) (all : List Path) → ReachesDown s.map p headers → p ≢ []
    → IsSome (at_path s.map p) → IsSubtreeWalk s.map p all → asker ≡ who → SameLive who.now s mid → refusing_removal (live asker.now mid) asker all ≡ []
    → CanRemove headers (live who.now s) who p all
can_remove headers who asker s mid p all reaches no_root stood walk same still h = record {
  reaches = reaches;
  no_root = no_root;
  stood = stood;
  walk = walk;
  free = subst (λ (t : State). refusing_removal t who all ≡ []) still
      (subst (λ (w : Caller). refusing_removal (live w.now mid) w all ≡ []) same h);
}
