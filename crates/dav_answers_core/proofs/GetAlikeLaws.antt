-- A GET and a HEAD are answered in one way.
use Rattle.std.proofs.Common.{◌≡◌, ◌⊎◌, inl, inr, ℕ, ◌/◌, List, [], ◌++◌, Some, None, Option, Result, Ok, Err, refl, sym, ap, ◌∙◌, subst}
use Rattle.http_header.specs.FieldValue.{FieldValue}
use Rattle.http_header.specs.HeaderMap.{Entries}
use Rattle.dav_path_core.specs.declared.util.DavMethod.{DavMethod}
use Rattle.dav_path_core.specs.Fronts.{Path, Segment}
use Rattle.dav_path_core.proofs.lists.FinMaps.{none_some, one_some}
use Rattle.dav_files_core.specs.Resources.{Resource, ResourceMap, at_path}
use Rattle.dav_faults_core.specs.declared.faults.Fault.{Fault}
use Rattle.dav_faults_core.specs.declared.faults.Fault.TheVariants as fault
use Rattle.dav_fields_core.specs.declared.ranges.Extent.{Extent}
use Rattle.dav_fields_core.specs.declared.ranges.Extent.TheVariants as extent
use Rattle.dav_path_core.specs.PathText.{PathText}
use Rattle.dav_path_core.specs.Segments.{segments}
use Rattle.dav_files_core.specs.declared.memfs.Kind.{Kind}
use Rattle.dav_files_core.specs.declared.memfs.Kind.TheVariants.{File, Folder}
use Rattle.dav_files_core.specs.Meta.{Meta}
use Rattle.dav_fields_core.proofs.DateTextLemmas.{date_once}
use Rattle.dav_fields_core.specs.Fields.{Field, Sent}
use Rattle.dav_safe_methods_core.specs.FolderPages.{IsPage, IsPaged, page}
use Rattle.dav_safe_methods_core.specs.GetMethod.{FailsToGet, Gets, HasFields, Tells, get_outcome_of, resource_fields}
use Rattle.dav_methods_core.specs.SameFaults.{AreAlike}
use Rattle.dav_answers_core.proofs.SameFaultLemmas.{IsShort, equal_alike}

-- ---- what is told

fields_once : (first : List Field) (p : Path) (r : Resource) (a b : List Field) → HasFields first p r a → HasFields first p r b → a ≡ b
fields_once first p r a b h k =
    h.are ∙ ap (λ date. first ++ resource_fields p r date) (date_once (r.node.modified / 1_000_000_000) h.date k.date h.dated k.dated) ∙ sym k.are

pub sent_once : (a b : Sent) → a.fields ≡ b.fields → a.body ≡ b.body → a ≡ b
sent_once a b fields body = ap (λ f. record { fields = f; body = a.body }) fields ∙ ap (λ told. record { fields = b.fields; body = told }) body

-- a folder has one page
page_once : (map : ResourceMap) (path : PathText) (a b : List ℕ) → IsPage map path a → IsPage map path b → a ≡ b
page_once map path a b (members, listed, is) (others, also, same) =
    let one : members ≡ others = of listed also in is ∙ ap (page path) one ∙ sym same
  where
    of : {E : Type 0} {r : Result (List (Segment × Meta)) E} {xs ys : List (Segment × Meta)} → r ≡ Ok xs → r ≡ Ok ys → xs ≡ ys
    of h k = cc

module _ (map : ResourceMap) (path : PathText) (r : Resource) (here : at_path map (segments path.bytes) ≡ Some r) where
  whole_once : (status other : ℕ) (sent also : Sent) → status ≡ 200 → other ≡ 200 → (r.node.kind ≡ File → sent.body ≡ r.node.bytes) → (r.node.kind ≡ File → also.body ≡ r.node.bytes)
      → IsPaged map path status sent.body → IsPaged map path other also.body → sent.body ≡ also.body
  whole_once status other sent also h k file other_file page other_page = by r.node.kind refl
    where
      by : (k : Kind) → r.node.kind ≡ k → sent.body ≡ also.body
      by File is = file is ∙ sym (other_file is)
      by Folder is = page_once map path sent.body also.body (page r here is h) (other_page r here is k)

  told_once : (o : Result (Option Extent) Fault) (status other : ℕ) (sent also : Sent) → Tells o (segments path.bytes) r status sent → Tells o (segments path.bytes) r other also
      → IsPaged map path status sent.body → IsPaged map path other also.body → (status ≡ other) × (sent ≡ also)
  told_once (Err e) status other sent also h k page others = absurd h
  told_once (Ok None) status other sent also h k page others = (h.0 ∙ sym k.0, h.1 ∙ sym k.1)
  told_once (Ok (Some extent.Whole)) status other sent also h k page others = (
    h.0 ∙ sym k.0,
    sent_once sent also (fields_once [] (segments path.bytes) r sent.fields also.fields h.1 k.1) (whole_once status other sent also h.0 k.0 h.2 k.2 page others),
  )
  told_once (Ok (Some (extent.Part first end))) status other sent also h k page others =
      (h.0 ∙ sym k.0, sent_once sent also (fields_once _ (segments path.bytes) r sent.fields also.fields h.1 k.1) (h.2 ∙ sym k.2))
  told_once (Ok (Some extent.Unsatisfiable)) status other sent also h k page others = (h.0 ∙ sym k.0, h.1 ∙ sym k.1)

pub gets_once : (m : DavMethod) (map : ResourceMap) (path : PathText) (headers : Entries FieldValue) (status other : ℕ) (sent also : Sent)
    → Gets m map path headers status sent → Gets m map path headers other also → (status ≡ other) × (sent ≡ also)
gets_once m map path headers status other sent also h k =
    let p = segments path.bytes in
    let same = one_some (at_path map p) k.resource h.resource k.here h.here in
    told_once map path h.resource h.here (get_outcome_of m map p h.resource headers) status other sent also h.tells
    (subst (λ (x : Resource). Tells (get_outcome_of m map p x headers) p x other also) same k.tells) h.page k.page

-- ---- why it is refused

module _ (m : DavMethod) (map : ResourceMap) (p : Path) (headers : Entries FieldValue) where
  -- why it is refused
  record IsStoppedThere (e : Fault) : Type 0 where
    resource : Resource
    here : at_path map p ≡ Some resource
    outcome : get_outcome_of m map p resource headers ≡ Err e

  abbrev Why : Fault → Type 0
  Why e = IsShort e ⊎ (((e ≡ fault.NotFound) × (at_path map p ≡ None)) ⊎ IsStoppedThere e)

  why : (e : Fault) → FailsToGet m map p headers e → Why e
  why fault.InsufficientStorage h = inl refl
  why fault.NotFound h = inr (inl (refl, h))
  why _ h = inr (inr (record { resource = h.0; here = h.1; outcome = h.2 }))

  one_error : (e f : Fault) (r : Result (Option Extent) Fault) → r ≡ Err e → r ≡ Err f → e ≡ f
  one_error e f r h k = let both : ◌≡◌ {A = Result (Option Extent) Fault} (Err e) (Err f) = sym h
      ∙ k in cc

  alike : (e f : Fault) → Why e → Why f → AreAlike e f
  alike e f (inl h) k = inl h
  alike e f (inr h) (inl k) = inr (inl k)
  alike e f (inr (inl h)) (inr (inl k)) = equal_alike e f (h.0 ∙ sym k.0)
  alike e f (inr (inl h)) (inr (inr k)) = none_some (at_path map p) k.resource h.1 k.here
  alike e f (inr (inr h)) (inr (inl k)) = none_some (at_path map p) h.resource k.1 h.here
  alike e f (inr (inr h)) (inr (inr k)) =
      equal_alike e f (one_error e f (get_outcome_of m map p k.resource headers)
      (ap (λ (r : Resource). get_outcome_of m map p r headers)
      (sym (one_some (at_path map p) h.resource k.resource h.here k.here))
      ∙ h.outcome) k.outcome)

  pub get_refusals_alike : (e f : Fault) → FailsToGet m map p headers e
      → FailsToGet m map p headers f → AreAlike e f
  get_refusals_alike e f h k = alike e f (why e h) (why f k)

-- what is done isn't refused
module _ (m : DavMethod) (map : ResourceMap) (path : PathText) (headers : Entries FieldValue) (status : ℕ) (sent : Sent) (g : Gets m map path headers status sent) where
  never : (e : Fault) → Why m map (segments path.bytes) headers e → IsShort e
  never e (inl h) = h
  never e (inr (inl h)) = none_some (at_path map (segments path.bytes)) g.resource h.1 g.here
  never e (inr (inr h)) =
      absurd (subst (λ (o : Result (Option Extent) Fault). Tells o (segments path.bytes) g.resource status sent)
      (ap (λ (r : Resource). get_outcome_of m map (segments path.bytes) r headers)
      (one_some (at_path map (segments path.bytes)) g.resource h.resource g.here h.here) ∙ h.outcome) g.tells)

  pub gets_or_not : (e : Fault) → FailsToGet m map (segments path.bytes) headers e → IsShort e
  gets_or_not e h = never e (why m map (segments path.bytes) headers e h)
