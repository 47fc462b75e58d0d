-- A request says one thing in its `If`, has one principal and submits one list of tokens; a request
-- that does isn't refused by its target, its principal or its `If`, and each refuses it in one way.
use Rattle.std.proofs.Common.{◌≡◌, ◌≢◌, inl, inr, ℕ, ◌<◌, List, [], ◌∷◌, ◌++◌, length, map, Option}
use Rattle.std.proofs.Common.{Some, None, refl, sym, ap, subst, ◌∙◌, arith}
use Rattle.std.specs.Prelude.{codes}
use Rattle.http_header.specs.FieldValue.{FieldValue}
use Rattle.http_header.specs.HeaderMap.{Entries, get_all}
use Rattle.http_uri.specs.declared.uri.Uri.{Uri}
use Rattle.http_uri.specs.Uri.{uri_path}
use Rattle.url.specs.Parts.{Parts}
use Rattle.dav_path_core.specs.declared.davpath.ParseError.{ParseError}
use Rattle.dav_path_core.specs.declared.davpath.ParseError.TheVariants as parse
use Rattle.dav_path_core.specs.PathText.{PathText}
use Rattle.dav_path_core.proofs.lists.FinMaps.{one_some}
use Rattle.dav_headers_core.specs.IfBytes.{Condition, Group}
use Rattle.dav_headers_core.specs.IfGrammar.{IfText}
use Rattle.dav_headers_core.specs.IfValues.{Located, ReadsAs, Resolves, TagIs}
use Rattle.dav_headers_core.specs.Urls.{url_of}
use Rattle.dav_headers_core.proofs.ifs.GroupLemmas.{one_reading}
use Rattle.dav_faults_core.specs.Faults.{fault_of_path}
use Rattle.dav_faults_core.specs.declared.faults.Fault.{Fault}
use Rattle.dav_faults_core.specs.declared.faults.Fault.TheVariants as fault
use Rattle.dav_fields_core.specs.Bases.{Site, scheme_front}
use Rattle.dav_fields_core.specs.IfTokens.{tokens_of}
use Rattle.dav_fields_core.specs.RequestRefusals.{HasBadIf, RefusesPrincipal, RefusesTarget}
use Rattle.dav_fields_core.specs.RootedTags.{IfSays, IsFront, ReadsBehind, fronted_group}
use Rattle.dav_fields_core.specs.Senders.{NamesNobody, NamesPrincipal, Submits}
use Rattle.dav_fields_core.specs.Targets.{IsTargetOf, RefusesPath}
use Rattle.dav_fields_core.proofs.OneDestinationLaws.{one_host, one_item}
use Rattle.dav_fields_core.proofs.OnePathLaws.{one_refused_path, path_or_not}

-- ---- one value

none_and_one : {A B : Type 0} (xs : List A) (a : A) → xs ≡ [] → xs ≡ a ∷ [] → B
none_and_one {A = A} xs a h k =
    let both : ◌≡◌ {A = List A} [] (a ∷ []) = sym h ∙ k in absurd (cc)

none_and_more : {A B : Type 0} (xs : List A) → xs ≡ [] → 1 < length xs → B
none_and_more xs h more = absurd (omega (arith, subst (λ ys. 1 < length ys) h more))

one_and_more : {A B : Type 0} (xs : List A) (a : A) → xs ≡ a ∷ [] → 1 < length xs → B
one_and_more xs a h more = absurd (omega (arith, subst (λ ys. 1 < length ys) h more))

-- ---- what the tags of an `If` resolve to

one_url : (tag : Option (List ℕ)) (a b : Option Parts) → TagIs tag a → TagIs tag b → a ≡ b
one_url None None None h k = refl
one_url None None (Some v) h k = absurd k
one_url None (Some u) b h k = absurd h
one_url (Some text) None b h k = absurd h
one_url (Some text) (Some u) None h k = absurd k
one_url (Some text) (Some u) (Some v) h k = ap Some (one_some (url_of text) u v h k)

abbrev located : Option Parts → List Condition → Located
located tag conditions = record { tag = tag; conditions = conditions }

one_located : (l m : Located) → l.tag ≡ m.tag → l.conditions ≡ m.conditions → l ≡ m
one_located l m h k =
    ap (λ tag. located tag l.conditions) h ∙ ap (located m.tag) k

one_resolved : (groups : List Group) (a b : List Located) → Resolves groups a
    → Resolves groups b → a ≡ b
one_resolved [] [] [] h k = refl
one_resolved [] [] (m ∷ b) h k = absurd k
one_resolved [] (l ∷ a) b h k = absurd h
one_resolved (g ∷ groups) [] b h k = absurd h
one_resolved (g ∷ groups) (l ∷ a) [] h k = absurd k
one_resolved (g ∷ groups) (l ∷ a) (m ∷ b) h k =
    let first = one_located l m (one_url g.tag l.tag m.tag h.0 k.0) (sym h.1 ∙ k.1) in
    ap (λ x. x ∷ a) first ∙ ap (λ xs. m ∷ xs) (one_resolved groups a b h.2 k.2)

one_text : (values : List FieldValue) (v w : FieldValue) (a b : List Group)
    → values ≡ v ∷ [] → values ≡ w ∷ [] → IfText v.bytes a → IfText w.bytes b → a ≡ b
one_text values v w a b h k s t =
    one_reading w.bytes a b (subst (λ (x : FieldValue). IfText x.bytes a)
    (one_item values v w h k) s) t

one_read : (values : List FieldValue) (a b : List Located) → ReadsAs values a
    → ReadsAs values b → a ≡ b
one_read values a b h k =
    one_resolved k.groups a b (subst (λ groups. Resolves groups a)
    (one_text values h.value k.value h.groups k.groups h.only k.only h.text k.text) h.resolves)
    k.resolves

one_read_behind : (front : List ℕ) (values : List FieldValue) (a b : List Located)
    → ReadsBehind front values a → ReadsBehind front values b → a ≡ b
one_read_behind front values a b h k =
    one_resolved (map (fronted_group front) k.groups) a b
    (subst (λ groups. Resolves (map (fronted_group front) groups) a)
    (one_text values h.value k.value h.groups k.groups h.only k.only h.text k.text) h.resolves)
    k.resolves

-- ---- what an `If` says

module _ (site : Site) (headers : Entries FieldValue) where
  one_front : (a b : List ℕ) → IsFront site headers a → IsFront site headers b → a ≡ b
  one_front a b h k =
      h.front_is ∙ ap (λ host. scheme_front site.scheme ++ host)
      (one_host site.host headers h.host k.host h.named k.named) ∙ sym k.front_is

  pub one_if : (a b : List Located) → IfSays site headers a → IfSays site headers b → a ≡ b
  one_if a b (inl h) (inl k) =
      one_read_behind k.0 (get_all headers (codes "if")) a b
      (subst (λ front. ReadsBehind front (get_all headers (codes "if")) a)
      (one_front h.0 k.0 h.1 k.1) h.2) k.2
  one_if a b (inl h) (inr k) = absurd (k.0 h.0 h.1)
  one_if a b (inr h) (inl k) = absurd (h.0 k.0 k.1)
  one_if a b (inr h) (inr k) = one_read (get_all headers (codes "if")) a b h.1 k.1

  -- an `If` that says something is there
  pub if_or_none : {A : Type 0} (lists : List Located) → IfSays site headers lists
      → get_all headers (codes "if") ≡ [] → A
  if_or_none lists (inl h) none =
      none_and_one (get_all headers (codes "if")) h.2.value none h.2.only
  if_or_none lists (inr h) none =
      none_and_one (get_all headers (codes "if")) h.1.value none h.1.only

  pub if_or_bad : {A : Type 0} (lists : List Located) → IfSays site headers lists
      → HasBadIf site headers → A
  if_or_bad lists h bad = absurd (bad.1 lists h)

  pub one_submission : (a b : List (List ℕ)) → Submits site headers a → Submits site headers b
      → a ≡ b
  one_submission a b (inl h) (inl k) = h.1 ∙ sym k.1
  one_submission a b (inl h) (inr k) = if_or_none k.0 k.1 h.0
  one_submission a b (inr h) (inl k) = if_or_none h.0 h.1 k.0
  one_submission a b (inr h) (inr k) =
      h.2 ∙ ap tokens_of (one_if h.0 k.0 h.1 k.1) ∙ sym k.2

  pub submission_or_bad : {A : Type 0} (tokens : List (List ℕ)) → Submits site headers tokens
      → HasBadIf site headers → A
  submission_or_bad tokens (inl h) bad = absurd (bad.0 h.0)
  submission_or_bad tokens (inr h) bad = if_or_bad h.0 h.1 bad

-- ---- who sends it

pub one_principal : (named : Option (List ℕ)) (headers : Entries FieldValue)
    (a b : Option (List ℕ)) → NamesPrincipal named headers a → NamesPrincipal named headers b
    → a ≡ b
one_principal None headers a b h k = h ∙ sym k
one_principal (Some name) headers a b h k =
    h.3 ∙ ap (λ (v : FieldValue). Some v.bytes)
    (one_item (get_all headers name) h.0 k.0 h.1 k.1) ∙ sym k.3

pub principal_or_not : {A : Type 0} (named : Option (List ℕ)) (headers : Entries FieldValue)
    (who : Option (List ℕ)) (e : Fault) → NamesPrincipal named headers who
    → RefusesPrincipal named headers e → A
principal_or_not (Some name) headers who fault.BadRequest h k =
    one_and_more (get_all headers name) h.0 h.1 k
principal_or_not (Some name) headers who fault.Unauthorized h (inl k) =
    none_and_one (get_all headers name) h.0 k h.1
principal_or_not (Some name) headers who fault.Unauthorized h (inr k) =
    absurd (h.2 (subst NamesNobody (one_item (get_all headers name) k.0 h.0 k.1 h.1) k.2))
principal_or_not _ headers who _ h k = absurd k

several_or_not : {A : Type 0} (name : List ℕ) (headers : Entries FieldValue)
    → RefusesPrincipal (Some name) headers fault.BadRequest
    → RefusesPrincipal (Some name) headers fault.Unauthorized → A
several_or_not name headers h (inl k) = none_and_more (get_all headers name) k h
several_or_not name headers h (inr k) = one_and_more (get_all headers name) k.0 k.1 h

pub one_refused_principal : (named : Option (List ℕ)) (headers : Entries FieldValue) (e f : Fault)
    → RefusesPrincipal named headers e → RefusesPrincipal named headers f → e ≡ f
one_refused_principal (Some name) headers fault.BadRequest fault.BadRequest h k = refl
one_refused_principal (Some name) headers fault.BadRequest fault.Unauthorized h k =
    several_or_not name headers h k
one_refused_principal (Some name) headers fault.Unauthorized fault.BadRequest h k =
    several_or_not name headers k h
one_refused_principal (Some name) headers fault.Unauthorized fault.Unauthorized h k = refl
one_refused_principal (Some name) headers fault.BadRequest _ h k = absurd k
one_refused_principal (Some name) headers fault.Unauthorized _ h k = absurd k
one_refused_principal _ headers _ f h k = absurd h

-- ---- its target

-- the error of a target that is refused, of which no memory is one
record IsRefused (prefix : List ℕ) (uri : Uri) (e : Fault) : Type 0 where
  error : ParseError
  fault_is : e ≡ fault_of_path error
  told : error ≢ parse.OutOfMemory
  refuses : RefusesPath prefix (uri_path uri) error

refused_as : (prefix : List ℕ) (uri : Uri) (e : Fault) → RefusesTarget prefix uri e
    → IsRefused prefix uri e
refused_as prefix uri fault.BadRequest h =
    record { error = parse.InvalidPath; fault_is = refl; told = λ e. absurd (cc); refuses = h }
refused_as prefix uri fault.Forbidden h =
    record { error = parse.ForbiddenPath; fault_is = refl; told = λ e. absurd (cc); refuses = h }
refused_as prefix uri fault.NotFound h =
    record { error = parse.PrefixMismatch; fault_is = refl; told = λ e. absurd (cc); refuses = h }
refused_as prefix uri _ h = absurd h

pub target_or_not : {A : Type 0} (prefix : List ℕ) (uri : Uri) (path : PathText) (e : Fault)
    → IsTargetOf prefix uri path → RefusesTarget prefix uri e → A
target_or_not prefix uri path e h k =
    let r = refused_as prefix uri e k in
    absurd (r.told (path_or_not prefix (uri_path uri) path r.error h r.refuses))

pub one_refused_target : (prefix : List ℕ) (uri : Uri) (e f : Fault)
    → RefusesTarget prefix uri e → RefusesTarget prefix uri f → e ≡ f
one_refused_target prefix uri e f h k =
    let r = refused_as prefix uri e h in
    let s = refused_as prefix uri f k in
    elim (one_refused_path prefix (uri_path uri) r.error s.error r.refuses s.refuses) [
      | inl short ↦ absurd (r.told short)
      | inr (inl short) ↦ absurd (s.told short)
      | inr (inr same) ↦ r.fault_is ∙ ap fault_of_path same ∙ sym s.fault_is
    ]
