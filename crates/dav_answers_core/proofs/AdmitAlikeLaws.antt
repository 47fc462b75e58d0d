-- The `If` of a request is weighed in one way.
use Rattle.std.proofs.Common.{◌≡◌, inl, inr, Bool, true, false, List, [], refl, subst}
use Rattle.std.specs.Prelude.{codes}
use Rattle.std.proofs.lemmas.Bool.{false≢true}
use Rattle.http_header.specs.FieldValue.{FieldValue}
use Rattle.http_header.specs.HeaderMap.{Entries, get_all}
use Rattle.url.specs.Parts.{Parts}
use Rattle.dav_path_core.specs.PathText.{PathText}
use Rattle.dav_path_core.specs.Segments.{segments}
use Rattle.dav_headers_core.specs.IfValues.{Located}
use Rattle.dav_guarded_core.specs.Step.{State}
use Rattle.dav_faults_core.specs.declared.faults.Fault.{Fault}
use Rattle.dav_faults_core.specs.declared.faults.Fault.TheVariants as fault
use Rattle.dav_fields_core.specs.Bases.{Site}
use Rattle.dav_fields_core.specs.TaggedLists.{base_of}
use Rattle.dav_fields_core.proofs.OneDestinationLaws.{one_base}
use Rattle.dav_fields_core.proofs.OneSenderLaws.{if_or_bad, if_or_none, one_if}
use Rattle.dav_session_core.specs.Conditions.{IfIs}
use Rattle.dav_session_core.proofs.OneConditionLaws.{one_truth}
use Rattle.dav_methods_core.specs.Admitting.{IsAdmitted, IsHeldOff, Weighs}
use Rattle.dav_methods_core.specs.SameFaults.{AreAlike}
use Rattle.dav_answers_core.proofs.SameFaultLemmas.{equal_alike}

module _ (site : Site) (s : State) (headers : Entries FieldValue) (here : PathText) where
  abbrev HeldOff : Fault → Type 0
  HeldOff e = IsHeldOff site s headers here e

  -- it holds, or it doesn't
  weighed_once : (a b : Bool) → Weighs site s headers here a → Weighs site s headers here b
      → a ≡ b
  weighed_once a b h k =
      let lists = one_if site headers h.lists k.lists h.reads k.reads in
      let base = one_base site headers h.base k.base h.is_base k.is_base in
      one_truth s (base_of k.base here) (segments here.bytes) k.lists a b
      (subst (λ (u : Parts). IfIs s (base_of u here) (segments here.bytes) k.lists a) base
      (subst (λ (ls : List Located). IfIs s (base_of h.base here) (segments here.bytes) ls a) lists
      h.weighed)) k.weighed

  -- what is weighed is read
  weighed_or_bad : {A : Type 0} (a : Bool) → Weighs site s headers here a
      → HeldOff fault.BadRequest → A
  weighed_or_bad a h (inl k) = if_or_bad site headers h.lists h.reads k
  weighed_or_bad a h (inr k) = absurd (k.2 h.base h.is_base)

  none_or_bad : {A : Type 0} → get_all headers (codes "if") ≡ [] → HeldOff fault.BadRequest → A
  none_or_bad none (inl k) = absurd (k.0 none)
  none_or_bad none (inr k) = if_or_none site headers k.0 k.1 none

  pub admitted_or_not : (e : Fault) → IsAdmitted site s headers here
      → IsHeldOff site s headers here e → e ≡ fault.InsufficientStorage
  admitted_or_not fault.PreconditionFailed (inl none) k =
      if_or_none site headers k.lists k.reads none
  admitted_or_not fault.PreconditionFailed (inr h) k =
      absurd (false≢true (weighed_once false true k h))
  admitted_or_not fault.BadRequest (inl none) k = none_or_bad none k
  admitted_or_not fault.BadRequest (inr h) k = weighed_or_bad true h k
  admitted_or_not fault.InsufficientStorage h k = refl
  admitted_or_not _ h k = absurd k

  pub held_off_alike : (e f : Fault) → IsHeldOff site s headers here e
      → IsHeldOff site s headers here f → AreAlike e f
  held_off_alike fault.InsufficientStorage f h k = inl refl
  held_off_alike fault.PreconditionFailed fault.InsufficientStorage h k = inr (inl refl)
  held_off_alike fault.PreconditionFailed fault.PreconditionFailed h k =
      equal_alike fault.PreconditionFailed fault.PreconditionFailed refl
  held_off_alike fault.PreconditionFailed fault.BadRequest h k = weighed_or_bad false h k
  held_off_alike fault.PreconditionFailed _ h k = absurd k
  held_off_alike fault.BadRequest fault.InsufficientStorage h k = inr (inl refl)
  held_off_alike fault.BadRequest fault.BadRequest h k =
      equal_alike fault.BadRequest fault.BadRequest refl
  held_off_alike fault.BadRequest fault.PreconditionFailed h k = weighed_or_bad false k h
  held_off_alike fault.BadRequest _ h k = absurd k
  held_off_alike _ f h k = absurd h
