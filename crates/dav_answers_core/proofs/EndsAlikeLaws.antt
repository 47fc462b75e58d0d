-- The ends of a COPY or a MOVE are one pair, and are refused in one way.
use Rattle.std.proofs.Common.{◌≡◌, ◌⊎◌, inl, inr, ℕ, Bool, true, false, cond, List, Some, None, is_some, refl, sym, ap, ◌∙◌, subst}
use Rattle.std.specs.Prelude.{IsSome}
use Rattle.std.proofs.lemmas.Bool.{false≢true, true≢false}
use Rattle.http_header.specs.FieldValue.{FieldValue}
use Rattle.http_header.specs.HeaderMap.{Entries}
use Rattle.dav_path_core.specs.Fronts.{Path, parent}
use Rattle.dav_path_core.specs.PathText.{PathText}
use Rattle.dav_path_core.specs.Segments.{segments}
use Rattle.dav_path_core.proofs.lists.FinMaps.{none_some, one_some}
use Rattle.dav_files_core.specs.Resources.{ResourceMap, at_path}
use Rattle.dav_guarded_core.specs.Step.{State}
use Rattle.dav_faults_core.specs.declared.faults.Fault.{Fault}
use Rattle.dav_faults_core.specs.declared.faults.Fault.TheVariants as fault
use Rattle.dav_fields_core.specs.Bases.{Site}
use Rattle.dav_fields_core.specs.TransferDestinations.{IsDestination, overwrites}
use Rattle.dav_fields_core.proofs.OneDestinationLaws.{destination_or_not, nowhere_alike, one_destination}
use Rattle.dav_session_core.specs.Clearing.{IsCleared}
use Rattle.dav_session_core.specs.Ends.{GoesFrom, HasFolder, is_related}
use Rattle.dav_session_core.specs.LocksInTheWay.{by_place, is_lock_below}
use Rattle.dav_session_core.specs.Subtrees.{HasOddName}
use Rattle.dav_session_core.proofs.SubtreeLemmas.{walks_are_equal}
use Rattle.dav_methods_core.specs.SameFaults.{AreAlike, shows_refusing_lock}
use Rattle.dav_methods_core.specs.TransferEnds.{EndsFit, FailsAtEnds, FailsToLead, LeadsOn}
use Rattle.dav_answers_core.proofs.DeleteAlikeLaws.{one_removal}
use Rattle.dav_answers_core.proofs.SameFaultLemmas.{IsShort, equal_alike}
use Rattle.dav_answers_core.proofs.StageLemmas.{IsStage, stage_alike, stage_past}

-- ---- what goes from a target

pub one_goes : (m : ResourceMap) (to : Path) (gone others : List Path) → GoesFrom m to gone
    → GoesFrom m to others → gone ≡ others
one_goes m to gone others (inl h) (inl k) = walks_are_equal m to gone others h.1 k.1
one_goes m to gone others (inl h) (inr k) = absurd (k.0 h.0)
one_goes m to gone others (inr h) (inl k) = absurd (h.0 k.0)
one_goes m to gone others (inr h) (inr k) = h.1 ∙ sym k.1

pub one_clearing : (now : ℕ) (to : Path) (s mid other : State) → IsCleared now to s mid
    → IsCleared now to s other → mid ≡ other
one_clearing now to s mid other (inl h) (inl k) = one_removal now to s mid other h.1 k.1
one_clearing now to s mid other (inl h) (inr k) = absurd (k.0 h.0)
one_clearing now to s mid other (inr h) (inl k) = absurd (h.0 k.0)
one_clearing now to s mid other (inr h) (inr k) = h.1 ∙ sym k.1

-- ---- locks that are told

pub told_by_place : (p : Path) (e : Fault) → shows_refusing_lock e ≡ Some true
    → shows_refusing_lock (by_place p e) ≡ Some true
told_by_place p (fault.Locked path) h = by (is_lock_below p path)
  where
    by : (b : Bool)
        → shows_refusing_lock (cond b (fault.MemberLocked path) (fault.Locked path)) ≡ Some true
    by true = refl
    by false = refl
told_by_place p _ h = h

pub locks_alike : (e f : Fault) → shows_refusing_lock e ≡ Some true
    → shows_refusing_lock f ≡ Some true → AreAlike e f
locks_alike e f h k = inr (inr (inr (ap is_some h, h ∙ sym k)))

module _ (site : Site) (prefix : List ℕ) (headers : Entries FieldValue) (from : Path)
    (within : Bool) where
  abbrev Leads : PathText → Bool → Type 0
  Leads to replaces = LeadsOn site prefix headers from within to replaces

  abbrev Unled : Fault → Type 0
  Unled e = FailsToLead site prefix headers from within e

  pub one_target : (to other : PathText) (replaces also : Bool)
      → LeadsOn site prefix headers from within to replaces
      → LeadsOn site prefix headers from within other also → (to ≡ other) × (replaces ≡ also)
  one_target to other replaces also h k = (
    one_destination site prefix headers to other h.leads k.leads,
    one_some (overwrites headers) replaces also h.overwrites_is k.overwrites_is,
  )

  -- ---- where it leads

  related_apart : {A : Type 0} (to other : PathText) → IsDestination site prefix headers to
      → IsDestination site prefix headers other → is_related within from (segments to.bytes) ≡ true
      → is_related within from (segments other.bytes) ≡ false → A
  related_apart to other h k related apart =
      absurd (true≢false (sym related
      ∙ ap (λ (p : PathText). is_related within from (segments p.bytes))
      (one_destination site prefix headers to other h k) ∙ apart))

  told_alike : (e f : Fault)
      → (e ≡ fault.InsufficientStorage) ⊎ ((f ≡ fault.InsufficientStorage) ⊎ (e ≡ f))
      → AreAlike e f
  told_alike e f (inl h) = inl h
  told_alike e f (inr (inl h)) = inr (inl h)
  told_alike e f (inr (inr h)) = equal_alike e f h

  lead_alike : (e f : Fault) → Unled e → Unled f → AreAlike e f
  lead_alike _ _ (FailsToLead.unread h) (FailsToLead.unread k) = equal_alike _ _ refl
  lead_alike _ _ (FailsToLead.unread h) (FailsToLead.nowhere also f k leads) =
      none_some (overwrites headers) also h k
  lead_alike _ _ (FailsToLead.unread h) (FailsToLead.related also to k leads is) =
      none_some (overwrites headers) also h k
  lead_alike _ _ (FailsToLead.nowhere replaces e h none) (FailsToLead.unread k) =
      none_some (overwrites headers) replaces k h
  lead_alike _ _ (FailsToLead.nowhere replaces e h none) (FailsToLead.nowhere also f k lost) =
      told_alike e f (nowhere_alike site prefix headers e f none lost)
  lead_alike _ _ (FailsToLead.nowhere replaces e h none) (FailsToLead.related also to k leads is) =
      inl (destination_or_not site prefix headers to e leads none)
  lead_alike _ _ (FailsToLead.related replaces to h leads is) (FailsToLead.unread k) =
      none_some (overwrites headers) replaces k h
  lead_alike _ _ (FailsToLead.related replaces to h leads is) (FailsToLead.nowhere also f k none) =
      inr (inl (destination_or_not site prefix headers to f leads none))
  lead_alike _ _ (FailsToLead.related replaces to h leads is)
      (FailsToLead.related also other k leads' is') = equal_alike _ _ refl

  led_or_not : (to : PathText) (replaces : Bool) → Leads to replaces → (e : Fault) → Unled e
      → IsShort e
  led_or_not to replaces h _ (FailsToLead.unread none) =
      none_some (overwrites headers) replaces none h.overwrites_is
  led_or_not to replaces h _ (FailsToLead.nowhere also e k none) =
      destination_or_not site prefix headers to e h.leads none
  led_or_not to replaces h _ (FailsToLead.related also other k leads is) =
      related_apart other to leads h.leads is h.apart

  -- ---- all refusals in their order: of its depth, of its ends, of a name, and of locks

  module _ (m : ResourceMap) (Reaches : Type 0) (Odd : PathText → Type 0)
      (Kept : PathText → Fault → Type 0) where
    abbrev aim : PathText → Path
    aim to = segments to.bytes

    abbrev Named : PathText → Fault → Type 0
    Named to = IsStage fault.BadRequest (Odd to) (¬ Odd to) (Kept to)

    abbrev Above : PathText → Fault → Type 0
    Above to =
        IsStage fault.Conflict (¬ HasFolder m (parent (aim to))) (HasFolder m (parent (aim to)))
        (Named to)

    abbrev Holds : PathText → Bool → Type 0
    Holds to replaces = IsSome (at_path m (aim to)) × (replaces ≡ false)

    abbrev May : PathText → Bool → Type 0
    May to replaces = IsSome (at_path m (aim to)) → replaces ≡ true

    abbrev Free : PathText → Bool → Fault → Type 0
    Free to replaces =
        IsStage fault.PreconditionFailed (Holds to replaces) (May to replaces) (Above to)

    abbrev Fit : PathText → Bool → Fault → Type 0
    Fit to replaces =
        IsStage fault.NotFound (at_path m from ≡ None) (IsSome (at_path m from)) (Free to replaces)

    pub record IsLed (e : Fault) : Type 0 where
      to : PathText
      replaces : Bool
      leads : Leads to replaces
      fits : Fit to replaces e

    abbrev AtEnds : Fault → Type 0
    AtEnds e = Unled e ⊎ IsLed e

    abbrev pub Why : Fault → Type 0
    Why e = IsShort e ⊎ IsStage fault.BadRequest (¬ Reaches) Reaches AtEnds e

    -- ---- each refusal has its place

    pub at_depth : ¬ Reaches → Why fault.BadRequest
    at_depth short = inr (inl (refl, short))

    led : Reaches → (to : PathText) (replaces : Bool) → Leads to replaces → (e : Fault)
        → Fit to replaces e → Why e
    led reaches to replaces leads e fits = inr (inr (
      reaches,
      inr (record { to = to; replaces = replaces; leads = leads; fits = fits }),
    ))

    pub behind_ends : Reaches → (to : PathText) (replaces : Bool)
        → LeadsOn site prefix headers from within to replaces
        → EndsFit m from (segments to.bytes) replaces → (e : Fault)
        → IsStage fault.BadRequest (Odd to) (¬ Odd to) (Kept to) e → Why e
    behind_ends reaches to replaces leads fit e h =
        led reaches to replaces leads e (inr (fit.stands, inr (fit.may, inr (fit.above, h))))

    pub at_ends : Reaches → ((to : PathText) → HasOddName m (segments to.bytes) → Odd to)
        → (e : Fault) → FailsAtEnds site prefix headers m from within e → Why e
    at_ends reaches odd _ FailsAtEnds.memory = inl refl
    at_ends reaches odd _ (FailsAtEnds.unread h) = inr (inr (reaches, inl (FailsToLead.unread h)))
    at_ends reaches odd _ (FailsAtEnds.nowhere replaces e h none) =
        inr (inr (reaches, inl (FailsToLead.nowhere replaces e h none)))
    at_ends reaches odd _ (FailsAtEnds.related replaces to h leads is) =
        inr (inr (reaches, inl (FailsToLead.related replaces to h leads is)))
    at_ends reaches odd _ (FailsAtEnds.missing to replaces leads none) =
        led reaches to replaces leads fault.NotFound (inl (refl, none))
    at_ends reaches odd _ (FailsAtEnds.kept to leads stands there) =
        led reaches to false leads fault.PreconditionFailed
        (inr (stands, inl (refl, (there, refl))))
    at_ends reaches odd _ (FailsAtEnds.nowhere_to_stand to replaces leads stands may none) =
        led reaches to replaces leads fault.Conflict
        (inr (stands, inr (may, inl (refl, none))))
    at_ends reaches odd _ (FailsAtEnds.odd to replaces leads fit name) =
        behind_ends reaches to replaces leads fit fault.BadRequest (inl (refl, odd to name))

    -- ---- and no two places are one

    missing_apart : at_path m from ≡ None → ¬ IsSome (at_path m from)
    missing_apart none stands = false≢true (sym (ap is_some none) ∙ stands)

    holds_apart : (to : PathText) (replaces : Bool) → Holds to replaces → ¬ May to replaces
    holds_apart to replaces h may = false≢true (sym h.1 ∙ may h.0)

    abbrev KeptAlike : Type 0
    KeptAlike = (to : PathText) (e f : Fault) → Kept to e → Kept to f → AreAlike e f

    fit_alike : KeptAlike → (to : PathText) (replaces : Bool) (e f : Fault) → Fit to replaces e
        → Fit to replaces f → AreAlike e f
    fit_alike kept to replaces =
        stage_alike fault.NotFound (at_path m from ≡ None) (IsSome (at_path m from))
        (Free to replaces) missing_apart
        (stage_alike fault.PreconditionFailed (Holds to replaces) (May to replaces) (Above to)
        (holds_apart to replaces)
        (stage_alike fault.Conflict (¬ HasFolder m (parent (aim to)))
        (HasFolder m (parent (aim to))) (Named to) (λ none folder. none folder)
        (stage_alike fault.BadRequest (Odd to) (¬ Odd to) (Kept to) (λ odd plain. plain odd)
        (kept to))))

    ends_alike : KeptAlike → (e f : Fault) → AtEnds e → AtEnds f → AreAlike e f
    ends_alike kept e f (inl h) (inl k) = lead_alike e f h k
    ends_alike kept e f (inl h) (inr k) = inl (led_or_not k.to k.replaces k.leads e h)
    ends_alike kept e f (inr h) (inl k) = inr (inl (led_or_not h.to h.replaces h.leads f k))
    ends_alike kept e f (inr h) (inr k) =
        let same = one_target h.to k.to h.replaces k.replaces h.leads k.leads in
        fit_alike kept k.to k.replaces e f
        (subst (λ r. Fit k.to r e) same.1 (subst (λ t. Fit t h.replaces e) same.0 h.fits)) k.fits

    pub why_alike : ((to : PathText) (e f : Fault) → Kept to e → Kept to f → AreAlike e f)
        → (e f : Fault) → Why e → Why f → AreAlike e f
    why_alike kept e f (inl h) k = inl h
    why_alike kept e f (inr h) (inl k) = inr (inl k)
    why_alike kept e f (inr h) (inr k) =
        stage_alike fault.BadRequest (¬ Reaches) Reaches AtEnds (λ short reaches. short reaches)
        (ends_alike kept) e f h k

    -- what fits isn't refused

    module _ (reaches : Reaches) (to : PathText) (replaces : Bool)
        (leads : LeadsOn site prefix headers from within to replaces)
        (fit : EndsFit m from (segments to.bytes) replaces) (plain : ¬ Odd to)
        (free : (e : Fault) → Kept to e → IsShort e) where
      fit_past : (e : Fault) → Fit to replaces e → IsShort e
      fit_past =
          stage_past fault.NotFound (at_path m from ≡ None) (IsSome (at_path m from))
          (Free to replaces) missing_apart fit.stands
          (stage_past fault.PreconditionFailed (Holds to replaces) (May to replaces) (Above to)
          (holds_apart to replaces) fit.may
          (stage_past fault.Conflict (¬ HasFolder m (parent (aim to)))
          (HasFolder m (parent (aim to))) (Named to) (λ none folder. none folder) fit.above
          (stage_past fault.BadRequest (Odd to) (¬ Odd to) (Kept to) (λ odd plain. plain odd) plain
          free)))

      ends_past : (e : Fault) → AtEnds e → IsShort e
      ends_past e (inl h) = led_or_not to replaces leads e h
      ends_past e (inr h) =
          let same = one_target h.to to h.replaces replaces h.leads leads in
          fit_past e
          (subst (λ r. Fit to r e) same.1 (subst (λ t. Fit t h.replaces e) same.0 h.fits))

      pub why_past : (e : Fault) → Why e → IsShort e
      why_past e (inl h) = h
      why_past e (inr h) =
          stage_past fault.BadRequest (¬ Reaches) Reaches AtEnds
          (λ short reaches. short reaches) reaches ends_past e h
