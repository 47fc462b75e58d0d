-- What an `If` says, by what is read of it with a front before its rooted tags.
use Rattle.std.proofs.Common.{◌≡◌, ◌≢◌, ◌⊎◌, inl, inr, refl, sym, ap, ◌∙◌, subst, ℕ, true, List, []}
use Rattle.std.proofs.Common.{◌∷◌, ◌++◌}
use Rattle.std.proofs.Common.{Result, Ok, Err, IfErr}
use Rattle.std.specs.List.{list_all}
use Rattle.std.specs.Prelude.{codes, map}
use Rattle.http_header.specs.FieldValue.{FieldValue}
use Rattle.http_header.specs.HeaderMap.{Entries, get_all}
use Rattle.dav_headers_core.specs.declared.davheaders.errors.HeaderError.{HeaderError}
use Rattle.dav_headers_core.specs.declared.davheaders.errors.HeaderError.TheVariants as header
use Rattle.dav_headers_core.specs.IfBytes.{Group}
use Rattle.dav_headers_core.specs.IfGrammar.{IfText}
use Rattle.dav_headers_core.specs.IfValues.{Located, ReadsAs, Resolves}
use Rattle.dav_faults_core.specs.declared.faults.Fault.{Fault}
use Rattle.dav_faults_core.specs.declared.faults.Fault.TheVariants as fault
use Rattle.dav_faults_core.specs.Faults.{fault_of_header}
use Rattle.dav_fields_core.specs.Bases.{Site, scheme_front}
use Rattle.dav_fields_core.specs.RequestRefusals.{HasBadIf}
use Rattle.dav_fields_core.specs.RootedTags.{IfSays, IsFront, ReadsBehind, fronted_group}
use Rattle.dav_fields_core.specs.RootedTags.{is_host_byte}
use Rattle.dav_fields_core.specs.Private.TagFronts.{with_fronts}
use Rattle.dav_fields_core.specs.declared.tag_fronts.Place.TheVariants as place
use Rattle.dav_fields_core.proofs.BaseLemmas.{host_is}
use Rattle.dav_fields_core.proofs.FrontedLemmas.{text_from, text_to}

head_is : (x y : FieldValue) → x ∷ [] ≡ y ∷ [] → x ≡ y
head_is x y e = cc

-- ---- one value

module _ (front : List ℕ) (plain : list_all is_host_byte front ≡ true) (value whole : FieldValue)
    (values : List FieldValue)
    (whole_is : whole.bytes ≡ with_fronts front place.Outside value.bytes)
    (only : values ≡ whole ∷ []) where
  pub reads_behind : (lists : List Located) → ReadsAs values lists
      → ReadsBehind front (value ∷ []) lists
  reads_behind lists h =
      let same : h.value ≡ whole = head_is h.value whole (sym h.only ∙ only) in
      let bytes : h.value.bytes ≡ with_fronts front place.Outside value.bytes =
      ap (λ (v : FieldValue). v.bytes) same ∙ whole_is in
      let r = text_from front plain value.bytes h.groups
      (subst (λ (x : List ℕ). IfText x h.groups) bytes h.text) in
      record {
        value = value;
        only = refl;
        groups = r.groups;
        text = r.text;
        resolves = subst (λ (groups : List Group). Resolves groups lists) r.groups_are h.resolves;
      }

  pub reads_whole : (lists : List Located) → ReadsBehind front (value ∷ []) lists
      → ReadsAs values lists
  reads_whole lists h =
      let same : h.value ≡ value = head_is h.value value (sym h.only) in
      let text : IfText value.bytes h.groups = subst
      (λ (v : FieldValue). IfText v.bytes h.groups) same h.text in
      record {
        value = whole;
        only = only;
        groups = map (fronted_group front) h.groups;
        text = subst (λ (x : List ℕ). IfText x (map (fronted_group front) h.groups)) (sym whole_is)
            (text_to front plain value.bytes h.groups text);
        resolves = h.resolves;
      }

  pub unread_whole : (e : HeaderError)
      → ((lists : List Located) → ReadsAs values lists → e ≡ header.OutOfMemory)
      → (fault_of_header e ≡ fault.InsufficientStorage)
      ⊎ ((fault_of_header e ≡ fault.BadRequest)
      × ((lists : List Located) → ¬ ReadsBehind front (value ∷ []) lists))
  unread_whole header.OutOfMemory read = inl refl
  unread_whole header.Invalid read = inr (refl, λ lists h. apart (read lists (reads_whole lists h)))
    where
      apart : header.Invalid ≡ header.OutOfMemory → ⊥
      apart e = cc

-- ---- a request

module _ (site : Site) (headers : Entries FieldValue) where
  front_is : (a b : List ℕ) → IsFront site headers a → IsFront site headers b → a ≡ b
  front_is a b x y =
      x.front_is ∙ ap (λ (host : List ℕ). scheme_front site.scheme ++ host)
      (host_is site.host headers x.host y.host x.named y.named) ∙ sym y.front_is

  module _ (value : FieldValue) (there : get_all headers (codes "if") ≡ value ∷ []) where
    one_there : get_all headers (codes "if") ≢ []
    one_there none = let e : value ∷ [] ≡ [] = sym there ∙ none in cc

    pub bad_behind : (front : List ℕ) → IsFront site headers front
        → ((lists : List Located) → ¬ ReadsBehind front (value ∷ []) lists) → HasBadIf site headers
    bad_behind front is_front unread = (one_there, refuted)
      where
        refuted : (lists : List Located) → ¬ IfSays site headers lists
        refuted lists (inl h) =
            unread lists (subst (λ (f : List ℕ). ReadsBehind f (value ∷ []) lists)
            (front_is h.0 front h.1 is_front)
            (subst (λ (values : List FieldValue). ReadsBehind h.0 values lists) there h.2))
        refuted lists (inr h) = h.0 front is_front

    pub bad_itself : ((front : List ℕ) → ¬ IsFront site headers front)
        → ((lists : List Located) → ¬ ReadsAs (value ∷ []) lists) → HasBadIf site headers
    bad_itself none unread = (one_there, refuted)
      where
        refuted : (lists : List Located) → ¬ IfSays site headers lists
        refuted lists (inl h) = none h.0 h.1
        refuted lists (inr h) = unread lists
            (subst (λ (values : List FieldValue). ReadsAs values lists) there h.1)

    abbrev Refused : {A : Type 0} → Type 0 → Result A Fault → Type 0
    Refused why r = IfErr r (λ e. (e ≡ fault.InsufficientStorage) ⊎ ((e ≡ fault.BadRequest) × why))

    refused : {A : Type 0} (why : Type 0) → (why → HasBadIf site headers) → (r : Result A Fault)
        → Refused why r → Refused (HasBadIf site headers) r
    refused why bad (Ok x) h = tt
    refused why bad (Err e) (inl h) = inl h
    refused why bad (Err e) (inr h) = inr (h.0, bad h.1)

    pub err_behind : {A : Type 0} (front : List ℕ) → IsFront site headers front
        → (r : Result A Fault)
        → Refused ((lists : List Located) → ¬ ReadsBehind front (value ∷ []) lists) r
        → Refused (HasBadIf site headers) r
    err_behind front is_front r h = refused _ (bad_behind front is_front) r h

    pub err_itself : {A : Type 0} → ((front : List ℕ) → ¬ IsFront site headers front)
        → (r : Result A Fault)
        → Refused ((lists : List Located) → ¬ ReadsAs (value ∷ []) lists) r
        → Refused (HasBadIf site headers) r
    err_itself none r h = refused _ (bad_itself none) r h
