-- A request has one host, URLs that begin in one way, and leads to one place, or nowhere for one
-- reason, memory aside.
use Rattle.std.proofs.Common.{◌≡◌, ◌⊎◌, inl, inr, ℕ, true, false, List, [], ◌∷◌, Option, Some, None}
use Rattle.std.proofs.Common.{refl, sym, ap, subst, ◌∙◌}
use Rattle.std.specs.Prelude.{codes}
use Rattle.std.proofs.lemmas.Bool.{false≢true}
use Rattle.http_header.specs.FieldValue.{FieldValue}
use Rattle.http_header.specs.HeaderMap.{Entries, get_all}
use Rattle.url.specs.Parts.{Parts}
use Rattle.dav_path_core.specs.declared.davpath.ParseError.{ParseError}
use Rattle.dav_path_core.specs.declared.davpath.ParseError.TheVariants as parse
use Rattle.dav_path_core.specs.PathText.{PathText}
use Rattle.dav_path_core.proofs.lists.FinMaps.{none_some, one_some}
use Rattle.dav_headers_core.specs.Destinations.{is_rooted}
use Rattle.dav_headers_core.specs.Urls.{url_of}
use Rattle.dav_faults_core.specs.declared.faults.Fault.{Fault}
use Rattle.dav_faults_core.specs.declared.faults.Fault.TheVariants as fault
use Rattle.dav_fields_core.specs.Bases.{IsBase, NamesHost, Site, base_text}
use Rattle.dav_fields_core.specs.Targets.{IsPathOf, RefusesPath}
use Rattle.dav_fields_core.specs.TaggedLists.{IsSameServer}
use Rattle.dav_fields_core.specs.TransferDestinations.{IsDestination, LeadsNowhere, LeadsTo}
use Rattle.dav_fields_core.specs.TransferDestinations.{NamesText, fault_of}
use Rattle.dav_fields_core.specs.TransferDestinations.LeadsTo.{itself, by_url, elsewhere}
use Rattle.dav_fields_core.specs.TransferDestinations.LeadsNowhere.{memory, no_text, no_url}
use Rattle.dav_fields_core.specs.TransferDestinations.LeadsNowhere.{no_host, another, no_path}
use Rattle.dav_fields_core.proofs.BaseLemmas.{host_is}
use Rattle.dav_fields_core.proofs.OnePathLaws.{one_path, one_refused_path, path_or_not}

-- a list has one item
pub one_item : {A : Type 0} (xs : List A) (a b : A) → xs ≡ a ∷ [] → xs ≡ b ∷ [] → a ≡ b
one_item {A = A} xs a b h k = let both : ◌≡◌ {A = List A} (a ∷ []) (b ∷ []) = sym h ∙ k in cc

-- ---- where URLs begin

pub one_host : (named : Option (List ℕ)) (headers : Entries FieldValue) (a b : List ℕ)
    → NamesHost named headers a → NamesHost named headers b → a ≡ b
one_host = host_is

pub one_base : (site : Site) (headers : Entries FieldValue) (a b : Parts)
    → IsBase site headers a → IsBase site headers b → a ≡ b
one_base site headers a b h k =
    one_some (url_of (base_text site.scheme k.0)) a b
    (subst (λ host. url_of (base_text site.scheme host) ≡ Some a)
    (one_host site.host headers h.0 k.0 h.1 k.1) h.2) k.2

-- ---- where a text leads

module _ (site : Site) (prefix : List ℕ) (headers : Entries FieldValue) where
  one_text : (a b : List ℕ) → NamesText headers a → NamesText headers b → a ≡ b
  one_text a b h k =
      h.text_is ∙ ap (λ (v : FieldValue). v.bytes)
      (one_item (get_all headers (codes "destination")) h.value k.value h.one k.one) ∙ sym k.text_is

  -- a text that begins with a slash is no URL
  rooted_apart : {A : Type 0} (text : List ℕ) → is_rooted text ≡ true → is_rooted text ≡ false → A
  rooted_apart text h k = absurd (false≢true (sym k ∙ h))

  -- one URL is one of the server, or isn't
  server_apart : {A : Type 0} (text : List ℕ) (url base other also : Parts)
      → url_of text ≡ Some url → IsBase site headers base → IsSameServer url base
      → url_of text ≡ Some other → IsBase site headers also → ¬ IsSameServer other also → A
  server_apart text url base other also h i same k j never =
      let urls = one_some (url_of text) url other h k in
      let bases = one_base site headers base also i j in
      absurd (never (subst (λ b. IsSameServer other b) bases
      (subst (λ u. IsSameServer u base) urls same)))

  one_lead : (text : List ℕ) (a b : Option (List ℕ)) → LeadsTo site headers text a
      → LeadsTo site headers text b → a ≡ b
  one_lead text _ _ (itself h) (itself k) = refl
  one_lead text _ _ (itself h) (by_url v c r k j s) = rooted_apart text h r
  one_lead text _ _ (itself h) (elsewhere v c r k j s) = rooted_apart text h r
  one_lead text _ _ (by_url u b q h i s) (itself k) = rooted_apart text k q
  one_lead text _ _ (by_url u b q h i s) (by_url v c r k j t) =
      ap (λ (x : Parts). Some x.path) (one_some (url_of text) u v h k)
  one_lead text _ _ (by_url u b q h i s) (elsewhere v c r k j t) =
      server_apart text u b v c h i s k j t
  one_lead text _ _ (elsewhere u b q h i s) (itself k) = rooted_apart text k q
  one_lead text _ _ (elsewhere u b q h i s) (by_url v c r k j t) =
      server_apart text v c u b k j t h i s
  one_lead text _ _ (elsewhere u b q h i s) (elsewhere v c r k j t) = refl

  -- two texts lead where one does
  lead_there : (s t : List ℕ) (a b : Option (List ℕ)) → NamesText headers s
      → NamesText headers t → LeadsTo site headers s a → LeadsTo site headers t b → a ≡ b
  lead_there s t a b n m h k =
      one_lead t a b (subst (λ x. LeadsTo site headers x a) (one_text s t n m) h) k

  -- no URL is spelled, or nothing tells where URLs begin: such a text leads nowhere
  unspelled : {A : Type 0} (text : List ℕ) (a : Option (List ℕ)) → is_rooted text ≡ false
      → url_of text ≡ None → LeadsTo site headers text a → A
  unspelled text _ r h (itself k) = rooted_apart text k r
  unspelled text _ r h (by_url v c q k j s) = none_some (url_of text) v h k
  unspelled text _ r h (elsewhere v c q k j s) = none_some (url_of text) v h k

  unbased : {A : Type 0} (text : List ℕ) (a : Option (List ℕ)) → is_rooted text ≡ false
      → ((base : Parts) → ¬ IsBase site headers base) → LeadsTo site headers text a → A
  unbased text _ r h (itself k) = rooted_apart text k r
  unbased text _ r h (by_url v c q k j s) = absurd (h c j)
  unbased text _ r h (elsewhere v c q k j s) = absurd (h c j)

  -- the same of two texts
  no_url_there : {A : Type 0} (s t : List ℕ) (a : Option (List ℕ)) → NamesText headers s
      → NamesText headers t → is_rooted s ≡ false → url_of s ≡ None
      → LeadsTo site headers t a → A
  no_url_there s t a n m r h k =
      unspelled s a r h (subst (λ x. LeadsTo site headers x a) (one_text t s m n) k)

  no_base_there : {A : Type 0} (s t : List ℕ) (a : Option (List ℕ)) → NamesText headers s
      → NamesText headers t → is_rooted s ≡ false
      → ((base : Parts) → ¬ IsBase site headers base) → LeadsTo site headers t a → A
  no_base_there s t a n m r h k =
      unbased s a r h (subst (λ x. LeadsTo site headers x a) (one_text t s m n) k)

  -- another server's is no path
  elsewhere_apart : {A : Type 0} (s t at : List ℕ) → NamesText headers s → NamesText headers t
      → LeadsTo site headers s None → LeadsTo site headers t (Some at) → A
  elsewhere_apart s t at n m h k =
      none_some {A = List ℕ} None at refl (lead_there s t None (Some at) n m h k)

  one_at : (s t a b : List ℕ) → NamesText headers s → NamesText headers t
      → LeadsTo site headers s (Some a) → LeadsTo site headers t (Some b) → a ≡ b
  one_at s t a b n m h k =
      one_some (Some b) a b (sym (lead_there s t (Some a) (Some b) n m h k)) refl

  -- ---- a request leads to one place

  pub one_destination : (a b : PathText) → IsDestination site prefix headers a
      → IsDestination site prefix headers b → a ≡ b
  one_destination a b h k =
      one_path prefix k.at a b (subst (λ at. IsPathOf prefix at a)
      (one_at h.text k.text h.at k.at h.names k.names h.leads k.leads) h.path_of) k.path_of

  pub destination_or_not : (a : PathText) (e : Fault) → IsDestination site prefix headers a
      → LeadsNowhere site prefix headers e → e ≡ fault.InsufficientStorage
  destination_or_not a _ h memory = refl
  destination_or_not a _ h (no_text k) = absurd (k h.text h.names)
  destination_or_not a _ h (no_url text names rooted none) =
      no_url_there text h.text (Some h.at) names h.names rooted none h.leads
  destination_or_not a _ h (no_host text names rooted none) =
      no_base_there text h.text (Some h.at) names h.names rooted none h.leads
  destination_or_not a _ h (another text names leads) =
      elsewhere_apart text h.text h.at names h.names leads h.leads
  destination_or_not a _ h (no_path text at e names leads refuses) =
      ap fault_of (path_or_not prefix h.at a e h.path_of
      (subst (λ x. RefusesPath prefix x e)
      (one_at text h.text at h.at names h.names leads h.leads) refuses))

  -- ---- or nowhere, for one reason

  abbrev IsNowhereAlike : Fault → Fault → Type 0
  IsNowhereAlike e f =
      (e ≡ fault.InsufficientStorage) ⊎ ((f ≡ fault.InsufficientStorage) ⊎ (e ≡ f))

  -- the paths of both are refused
  paths_alike : (e f : ParseError)
      → (e ≡ parse.OutOfMemory) ⊎ ((f ≡ parse.OutOfMemory) ⊎ (e ≡ f))
      → IsNowhereAlike (fault_of e) (fault_of f)
  paths_alike e f (inl h) = inl (ap fault_of h)
  paths_alike e f (inr (inl h)) = inr (inl (ap fault_of h))
  paths_alike e f (inr (inr h)) = inr (inr (ap fault_of h))

  pub nowhere_alike : (e f : Fault) → LeadsNowhere site prefix headers e
      → LeadsNowhere site prefix headers f
      → (e ≡ fault.InsufficientStorage) ⊎ ((f ≡ fault.InsufficientStorage) ⊎ (e ≡ f))
  nowhere_alike _ f memory k = inl refl
  nowhere_alike _ _ (no_text h) memory = inr (inl refl)
  nowhere_alike _ _ (no_text h) (no_text k) = inr (inr refl)
  nowhere_alike _ _ (no_text h) (no_url t m r k) = absurd (h t m)
  nowhere_alike _ _ (no_text h) (no_host t m r k) = absurd (h t m)
  nowhere_alike _ _ (no_text h) (another t m k) = absurd (h t m)
  nowhere_alike _ _ (no_text h) (no_path t at f m k x) = absurd (h t m)
  nowhere_alike _ _ (no_url s n q h) memory = inr (inl refl)
  nowhere_alike _ _ (no_url s n q h) (no_text k) = absurd (k s n)
  nowhere_alike _ _ (no_url s n q h) (no_url t m r k) = inr (inr refl)
  nowhere_alike _ _ (no_url s n q h) (no_host t m r k) = inr (inr refl)
  nowhere_alike _ _ (no_url s n q h) (another t m k) = no_url_there s t None n m q h k
  nowhere_alike _ _ (no_url s n q h) (no_path t at f m k x) =
      no_url_there s t (Some at) n m q h k
  nowhere_alike _ _ (no_host s n q h) memory = inr (inl refl)
  nowhere_alike _ _ (no_host s n q h) (no_text k) = absurd (k s n)
  nowhere_alike _ _ (no_host s n q h) (no_url t m r k) = inr (inr refl)
  nowhere_alike _ _ (no_host s n q h) (no_host t m r k) = inr (inr refl)
  nowhere_alike _ _ (no_host s n q h) (another t m k) = no_base_there s t None n m q h k
  nowhere_alike _ _ (no_host s n q h) (no_path t at f m k x) =
      no_base_there s t (Some at) n m q h k
  nowhere_alike _ _ (another s n h) memory = inr (inl refl)
  nowhere_alike _ _ (another s n h) (no_text k) = absurd (k s n)
  nowhere_alike _ _ (another s n h) (no_url t m r k) = no_url_there t s None m n r k h
  nowhere_alike _ _ (another s n h) (no_host t m r k) = no_base_there t s None m n r k h
  nowhere_alike _ _ (another s n h) (another t m k) = inr (inr refl)
  nowhere_alike _ _ (another s n h) (no_path t at f m k x) =
      elsewhere_apart s t at n m h k
  nowhere_alike _ _ (no_path s at e n h x) memory = inr (inl refl)
  nowhere_alike _ _ (no_path s at e n h x) (no_text k) = absurd (k s n)
  nowhere_alike _ _ (no_path s at e n h x) (no_url t m r k) =
      no_url_there t s (Some at) m n r k h
  nowhere_alike _ _ (no_path s at e n h x) (no_host t m r k) =
      no_base_there t s (Some at) m n r k h
  nowhere_alike _ _ (no_path s at e n h x) (another t m k) = elsewhere_apart t s at m n k h
  nowhere_alike _ _ (no_path s at e n h x) (no_path t there f m k y) =
      paths_alike e f (one_refused_path prefix there e f
      (subst (λ p. RefusesPath prefix p e) (one_at s t at there n m h k) x) y)
