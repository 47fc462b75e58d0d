-- A PROPFIND is answered in one way.
use Rattle.std.proofs.Common.{◌≡◌, inl, inr, ℕ, ◌/◌, Bool, true, List, [], ◌∷◌, None, Some, refl, sym, ap, ◌∙◌, subst, is_some}
use Rattle.std.specs.FinMap.{values}
use Rattle.std.proofs.lemmas.Bool.{false≢true}
use Rattle.http_header.specs.FieldValue.{FieldValue}
use Rattle.http_header.specs.HeaderMap.{Entries}
use Rattle.dav_path_core.specs.Fronts.{Path}
use Rattle.dav_path_core.proofs.lists.FinMaps.{none_some, one_some}
use Rattle.dav_headers_core.specs.declared.davheaders.depths.Depth.{Depth}
use Rattle.dav_headers_core.specs.declared.davheaders.depths.Depth.TheVariants as reach
use Rattle.dav_files_core.specs.Meta.{Meta, meta_at}
use Rattle.dav_files_core.specs.Resources.{IsResourceMap, Property, Resource, ResourceMap, at_path}
use Rattle.dav_locks_core.specs.Lock.{Lock}
use Rattle.dav_locks_core.specs.Locks.{discovered_locks}
use Rattle.dav_guarded_core.specs.Step.{State}
use Rattle.dav_faults_core.specs.declared.faults.Fault.{Fault}
use Rattle.dav_faults_core.specs.declared.faults.Fault.TheVariants as fault
use Rattle.dav_fields_core.specs.Reaches.{depth_in}
use Rattle.dav_fields_core.proofs.DateTextLemmas.{date_once}
use Rattle.dav_fields_core.proofs.InternetDateLemmas.{internet_date_once}
use Rattle.dav_session_core.specs.Callers.{Caller}
use Rattle.dav_session_core.specs.DepthPlaces.{AreWithin, HasOddWithin}
use Rattle.dav_session_core.specs.Subtrees.{HasOddName}
use Rattle.dav_session_core.proofs.PlaceLemmas.{odd_below}
use Rattle.dav_session_core.proofs.SubtreeLemmas.{walks_are_equal}
use Rattle.dav_documents_core.specs.Pieces.{written_pieces}
use Rattle.dav_documents_core.specs.PropertyDocuments.{Description, multistatus}
use Rattle.dav_documents_core.specs.PropertyQuestions.{Question, question_in}
use Rattle.dav_safe_methods_core.specs.PropertyAnswers.{Describes, IsDescribed}
use Rattle.dav_safe_methods_core.specs.PropfindMethod.{DescribesEach, FailsToFind, Finds, ReachesTo}
use Rattle.dav_methods_core.specs.SameFaults.{AreAlike}
use Rattle.dav_answers_core.proofs.OddNameLemmas.{odd_nowhere}
use Rattle.dav_answers_core.proofs.SameFaultLemmas.{IsShort, equal_alike}

-- ---- what is told of a place

module _ (prefix : List ℕ) (p : Path) (known : Meta) (props : List Property) (locks : List Lock)
    (d e : Description) (h : IsDescribed prefix p known props locks d)
    (k : IsDescribed prefix p known props locks e) where
  one_description : d ≡ e
  one_description =
      let created = internet_date_once (known.created / 1_000_000_000) d.created e.created
      h.created_is k.created_is in
      let modified = date_once (known.modified / 1_000_000_000) d.modified e.modified
      h.modified_is k.modified_is in
      let url = h.url_is ∙ sym k.url_is in
      let folder = h.folder_is ∙ sym k.folder_is in
      let size = h.size_is ∙ sym k.size_is in
      let type = h.type_is ∙ sym k.type_is in
      let tag = h.tag_is ∙ sym k.tag_is in
      let props_are = h.props_are ∙ sym k.props_are in
      let locks_are = h.locks_are ∙ sym k.locks_are in
      λ i. record {
        url = url i;
        folder = folder i;
        size = size i;
        content_type = type i;
        tag = tag i;
        created = created i;
        modified = modified i;
        props = props_are i;
        locks = locks_are i;
      }

described_once : (prefix : List ℕ) (s : State) (p : Path) (d e : Description)
    → Describes prefix s p d → Describes prefix s p e → d ≡ e
described_once prefix s p d e h k =
    let same = one_some (at_path s.map p) h.resource k.resource h.here k.here in
    one_description prefix p (meta_at k.resource.node) (values k.resource.node.props)
    (discovered_locks s.locks p) d e
    (subst (λ (r : Resource). IsDescribed prefix p (meta_at r.node) (values r.node.props)
    (discovered_locks s.locks p) d) same h.described) k.described

each_once : (prefix : List ℕ) (s : State) (places : List Path) (ds es : List Description)
    → DescribesEach prefix s places ds → DescribesEach prefix s places es → ds ≡ es
each_once prefix s [] [] [] h k = refl
each_once prefix s [] (d ∷ ds) es h k = absurd h
each_once prefix s [] [] (e ∷ es) h k = absurd k
each_once prefix s (p ∷ places) [] es h k = absurd h
each_once prefix s (p ∷ places) (d ∷ ds) [] h k = absurd k
each_once prefix s (p ∷ places) (d ∷ ds) (e ∷ es) h k =
    ap (λ x. x ∷ ds) (described_once prefix s p d e h.0 k.0)
    ∙ ap (λ xs. e ∷ xs) (each_once prefix s places ds es h.1 k.1)

-- ---- the places within a depth

places_once : (d : Depth) (m : ResourceMap) (p : Path) (qs rs : List Path) → AreWithin d m p qs
    → AreWithin d m p rs → qs ≡ rs
places_once reach.Zero m p qs rs h k = h ∙ sym k
places_once reach.One m p qs rs h k = h ∙ sym k
places_once reach.Infinity m p qs rs h k = walks_are_equal m p qs rs h k
places_once reach.Default m p qs rs h k = absurd h

odd_name : (d : Depth) (m : ResourceMap) (p : Path) → HasOddWithin d m p → HasOddName m p
odd_name reach.One m p h = odd_below m p h
odd_name reach.Infinity m p h = h
odd_name reach.Zero m p h = absurd h
odd_name reach.Default m p h = absurd h

-- ---- what is told

module _ (finite : Bool) (prefix : List ℕ) (headers : Entries FieldValue) (body : List ℕ)
    (s : State) (who : Caller) (p : Path) where
  abbrev document : Question → List Description → List ℕ
  document question resources =
      written_pieces (multistatus prefix who.principal who.now question resources)

  pub finds_once : (told also : List ℕ) → Finds finite prefix headers body s who p told
      → Finds finite prefix headers body s who p also → told ≡ also
  finds_once told also h k =
      let depth = one_some (depth_in headers) h.depth k.depth h.reaches.0 k.reaches.0 in
      let question = one_some (question_in body) h.question k.question h.question_is k.question_is in
      let places = places_once k.depth s.map p h.places k.places
      (subst (λ d. AreWithin d s.map p h.places) depth h.within) k.within in
      let resources = each_once prefix s k.places h.resources k.resources
      (subst (λ ps. DescribesEach prefix s ps h.resources) places h.described) k.described in
      h.told_is ∙ ap (λ q. document q h.resources) question ∙ ap (document k.question) resources
      ∙ sym k.told_is

  pub finds_or_not : (told : List ℕ) (e : Fault) → Finds finite prefix headers body s who p told
      → FailsToFind finite headers body s.map p e → IsShort e
  finds_or_not told _ h FailsToFind.memory = refl
  finds_or_not told _ h (FailsToFind.unread none) =
      none_some (depth_in headers) h.depth none h.reaches.0
  finds_or_not told _ h (FailsToFind.endless limited deep) =
      absurd (h.reaches.1 limited (one_some (depth_in headers) h.depth reach.Infinity h.reaches.0 deep))
  finds_or_not told _ h (FailsToFind.unasked d reaches none) =
      none_some (question_in body) h.question none h.question_is
  finds_or_not told _ h (FailsToFind.missing d q reaches asks none) =
      absurd (false≢true (sym (ap is_some none) ∙ h.stands))
  finds_or_not told _ h (FailsToFind.odd d q reaches asks odd) =
      absurd (h.plain (subst (λ d. HasOddWithin d s.map p)
      (one_some (depth_in headers) d h.depth reaches.0 h.reaches.0) odd))

-- ---- refusals

module _ (finite : Bool) (headers : Entries FieldValue) (body : List ℕ) (m : ResourceMap) (p : Path)
    (is_map : IsResourceMap m) where
  abbrev Fails : Fault → Type 0
  Fails e = FailsToFind finite headers body m p e

  -- it reaches no further than the server lets it
  limited : {A : Type 0} (d : Depth) → finite ≡ true → depth_in headers ≡ Some reach.Infinity
      → ReachesTo finite headers d → A
  limited d is deep reaches =
      absurd (reaches.1 is (one_some (depth_in headers) d reach.Infinity reaches.0 deep))

  -- below what isn't there is no name
  nowhere_odd : {A : Type 0} (d : Depth) → at_path m p ≡ None → HasOddWithin d m p → A
  nowhere_odd d none odd = odd_nowhere m p is_map (odd_name d m p odd) none

  pub find_refusals_alike : (e f : Fault) → Fails e → Fails f → AreAlike e f
  find_refusals_alike _ f FailsToFind.memory k = inl refl
  find_refusals_alike _ _ (FailsToFind.unread h) FailsToFind.memory = inr (inl refl)
  find_refusals_alike _ _ (FailsToFind.endless is deep) FailsToFind.memory = inr (inl refl)
  find_refusals_alike _ _ (FailsToFind.unasked d reaches none) FailsToFind.memory = inr (inl refl)
  find_refusals_alike _ _ (FailsToFind.missing d q reaches asks none) FailsToFind.memory =
      inr (inl refl)
  find_refusals_alike _ _ (FailsToFind.odd d q reaches asks odd) FailsToFind.memory = inr (inl refl)
  find_refusals_alike _ _ (FailsToFind.unread h) (FailsToFind.unread k) =
      equal_alike fault.BadRequest fault.BadRequest refl
  find_refusals_alike _ _ (FailsToFind.unread h) (FailsToFind.endless is deep) =
      none_some (depth_in headers) reach.Infinity h deep
  find_refusals_alike _ _ (FailsToFind.unread h) (FailsToFind.unasked d reaches none) =
      equal_alike fault.BadRequest fault.BadRequest refl
  find_refusals_alike _ _ (FailsToFind.unread h) (FailsToFind.missing d q reaches asks none) =
      none_some (depth_in headers) d h reaches.0
  find_refusals_alike _ _ (FailsToFind.unread h) (FailsToFind.odd d q reaches asks odd) =
      equal_alike fault.BadRequest fault.BadRequest refl
  find_refusals_alike _ _ (FailsToFind.endless is deep) (FailsToFind.unread k) =
      none_some (depth_in headers) reach.Infinity k deep
  find_refusals_alike _ _ (FailsToFind.endless is deep) (FailsToFind.endless also down) =
      equal_alike fault.InfiniteDepth fault.InfiniteDepth refl
  find_refusals_alike _ _ (FailsToFind.endless is deep) (FailsToFind.unasked d reaches none) =
      limited d is deep reaches
  find_refusals_alike _ _ (FailsToFind.endless is deep)
      (FailsToFind.missing d q reaches asks none) = limited d is deep reaches
  find_refusals_alike _ _ (FailsToFind.endless is deep) (FailsToFind.odd d q reaches asks odd) =
      limited d is deep reaches
  find_refusals_alike _ _ (FailsToFind.unasked d reaches none) (FailsToFind.unread k) =
      equal_alike fault.BadRequest fault.BadRequest refl
  find_refusals_alike _ _ (FailsToFind.unasked d reaches none) (FailsToFind.endless is deep) =
      limited d is deep reaches
  find_refusals_alike _ _ (FailsToFind.unasked d reaches none)
      (FailsToFind.unasked c reached nothing) =
      equal_alike fault.BadRequest fault.BadRequest refl
  find_refusals_alike _ _ (FailsToFind.unasked d reaches none)
      (FailsToFind.missing c q reached asks nothing) = none_some (question_in body) q none asks
  find_refusals_alike _ _ (FailsToFind.unasked d reaches none)
      (FailsToFind.odd c q reached asks odd) = equal_alike fault.BadRequest fault.BadRequest refl
  find_refusals_alike _ _ (FailsToFind.missing d q reaches asks none) (FailsToFind.unread k) =
      none_some (depth_in headers) d k reaches.0
  find_refusals_alike _ _ (FailsToFind.missing d q reaches asks none)
      (FailsToFind.endless is deep) = limited d is deep reaches
  find_refusals_alike _ _ (FailsToFind.missing d q reaches asks none)
      (FailsToFind.unasked c reached nothing) = none_some (question_in body) q nothing asks
  find_refusals_alike _ _ (FailsToFind.missing d q reaches asks none)
      (FailsToFind.missing c r reached also nothing) =
      equal_alike fault.NotFound fault.NotFound refl
  find_refusals_alike _ _ (FailsToFind.missing d q reaches asks none)
      (FailsToFind.odd c r reached also odd) = nowhere_odd c none odd
  find_refusals_alike _ _ (FailsToFind.odd d q reaches asks odd) (FailsToFind.unread k) =
      equal_alike fault.BadRequest fault.BadRequest refl
  find_refusals_alike _ _ (FailsToFind.odd d q reaches asks odd) (FailsToFind.endless is deep) =
      limited d is deep reaches
  find_refusals_alike _ _ (FailsToFind.odd d q reaches asks odd)
      (FailsToFind.unasked c reached nothing) =
      equal_alike fault.BadRequest fault.BadRequest refl
  find_refusals_alike _ _ (FailsToFind.odd d q reaches asks odd)
      (FailsToFind.missing c r reached also nothing) = nowhere_odd d nothing odd
  find_refusals_alike _ _ (FailsToFind.odd d q reaches asks odd)
      (FailsToFind.odd c r reached also other) =
      equal_alike fault.BadRequest fault.BadRequest refl
