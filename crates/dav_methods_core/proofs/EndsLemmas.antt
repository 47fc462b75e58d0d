-- Where a COPY or a MOVE leads, and why it is refused at its ends, by what its parts say.
use Rattle.std.proofs.Common.{◌≡◌, ◌⊎◌, inl, inr, ℕ, Bool, true, false, List, Option, None, is_some, sym, ◌∙◌, subst}
use Rattle.std.specs.Prelude.{IsSome}
use Rattle.std.proofs.lemmas.Bool.{true≢false}
use Rattle.http_header.specs.FieldValue.{FieldValue}
use Rattle.http_header.specs.HeaderMap.{Entries}
use Rattle.dav_path_core.specs.Fronts.{Path}
use Rattle.dav_path_core.specs.PathText.{PathText}
use Rattle.dav_path_core.specs.Segments.{segments}
use Rattle.dav_files_core.specs.Resources.{ResourceMap, at_path}
use Rattle.dav_fields_core.specs.Bases.{Site}
use Rattle.dav_faults_core.specs.declared.faults.Fault.{Fault}
use Rattle.dav_faults_core.specs.declared.faults.Fault.TheVariants as fault
use Rattle.dav_fields_core.specs.TransferDestinations.{overwrites}
use Rattle.dav_methods_core.specs.TransferEnds.{EndsFit, FailsAtEnds, LeadsOn, FailsToFit, FailsToLead}
use Rattle.dav_session_core.specs.Subtrees.{HasOddName}

-- what isn't known of the target isn't in the way
pub may_stand : {A : Type 0} (known : Option A) (m : ResourceMap) (to : Path) (replaces : Bool) → is_some known ≡ is_some (at_path m to) → is_some known ≡ false
    → IsSome (at_path m to) → replaces ≡ true
may_stand known m to replaces same none there = absurd (true≢false (sym there ∙ sym same ∙ none))

module _ (site : Site) (prefix : List ℕ) (headers : Entries FieldValue) (from : Path) (within : Bool) where
  pub lead_unread : (e : Fault) → (e ≡ fault.BadRequest) × (overwrites headers ≡ None) → FailsToLead site prefix headers from within e
  lead_unread e h = subst (FailsToLead site prefix headers from within) (sym h.0) (FailsToLead.unread h.1)

  module _ (m : ResourceMap) where
    pub fails_lead : (e : Fault) → FailsToLead site prefix headers from within e → FailsAtEnds site prefix headers m from within e
    fails_lead _ (FailsToLead.unread h) = FailsAtEnds.unread h
    fails_lead _ (FailsToLead.nowhere replaces e h k) = FailsAtEnds.nowhere replaces e h k
    fails_lead _ (FailsToLead.related replaces to h k i) = FailsAtEnds.related replaces to h k i

    module _ (to : PathText) (replaces : Bool) (leads : LeadsOn site prefix headers from within to replaces) where
      pub fails_fit : (e : Fault) → FailsToFit m from (segments to.bytes) replaces e → FailsAtEnds site prefix headers m from within e
      fails_fit fault.InsufficientStorage h = FailsAtEnds.memory
      fails_fit fault.NotFound h = FailsAtEnds.missing to replaces leads h
      fails_fit fault.PreconditionFailed h = FailsAtEnds.kept to (subst (LeadsOn site prefix headers from within to) h.2 leads) h.0 h.1
      fails_fit fault.Conflict h = FailsAtEnds.nowhere_to_stand to replaces leads h.0 h.1 h.2
      fails_fit _ h = absurd h

      pub fails_odd : EndsFit m from (segments to.bytes) replaces → (m' : ResourceMap) → m' ≡ m → (e : Fault)
          → (e ≡ fault.InsufficientStorage) ⊎ ((e ≡ fault.BadRequest) × HasOddName m' (segments to.bytes)) → FailsAtEnds site prefix headers m from within e
      fails_odd fit m' still e (inl short) = subst (FailsAtEnds site prefix headers m from within) (sym short) FailsAtEnds.memory
      fails_odd fit m' still e (inr odd) =
          subst (FailsAtEnds site prefix headers m from within) (sym odd.0)
          (FailsAtEnds.odd to replaces leads fit (subst (λ n. HasOddName n (segments to.bytes)) still odd.1))
