-- The properties that a PROPPATCH asks for, each at its place, in order; and that they are those
-- that the definition finds.
use Rattle.std.proofs.Common.{◌≡◌, refl, sym, ap, subst, ◌∙◌, ℕ, ◌+◌, arith, Bool, true, false, cond, inl, inr, List, [], ◌∷◌, ◌++◌, length, map, Option, None, Some, codes, append-nil}
use Rattle.std.specs.List.{AllByRecursion, flat_map}
use Rattle.std.proofs.lemmas.Option.{same_Some}
use Rattle.dav_path_core.proofs.lists.MemberLemmas.{In, all_in}
use Rattle.dav_xml_core.specs.Documents.{Node}
use Rattle.dav_xml_core.specs.Optional.{◌>>=◌, choose}
use Rattle.dav_documents_core.specs.Elements.{children, elements_named, is_dav, the_one}
use Rattle.dav_documents_core.specs.ElementPlaces.{ElementPlace, StartTag, lang_around, lang_of_tags}
use Rattle.dav_documents_core.specs.PropertyUpdates.{Update, instructed_updates, kept_property, lang_in, own_lang, sets, update_of}
use Rattle.dav_documents_core.proofs.ReadPlaceLemmas.{IsReadSpot, below_read}
use Rattle.dav_documents_core.proofs.ElementPlaceLemmas.{Spot, below, children_below, element_at, place_at, tag_at}
use Rattle.dav_documents_core.proofs.PlaceOrderLemmas.{IsOrdered, below_blocks, gathered, ordered_blocks}

-- ---- the properties that a document names, by its elements
abbrev pub props_in : Spot → List Spot
props_in p = cond (is_dav (codes "prop") (element_at p)) (below p) []

abbrev pub asked_of : Spot → List (Bool × Spot)
asked_of i = choose (sets (element_at i)) (λ set. map (λ (s : Spot). (set, s))
    (flat_map props_in (below i))) []

abbrev pub asked : Spot → List (Bool × Spot)
asked root = flat_map asked_of (below root)

abbrev pub place_of : Bool × Spot → ElementPlace
place_of a = place_at a.1

abbrev pub update_at : Bool × Spot → Update
update_at a = (a.0, kept_property a.0 (lang_around (place_of a)) a.1.name (element_at a.1))

-- ---- in order

pairs_places : (set : Bool) (ss : List Spot) → map place_of (map (λ (s : Spot). (set, s)) ss)
    ≡ map place_at ss
pairs_places set [] = refl
pairs_places set (s ∷ ss) = ap (λ (ps : List ElementPlace). place_at s ∷ ps) (pairs_places set ss)

props_ordered : (p : Spot) → IsOrdered (length p.before) (length p.before + length (element_at p))
    (map place_at (props_in p))
props_ordered p = by (is_dav (codes "prop") (element_at p))
  where
    by : (b : Bool) → IsOrdered (length p.before) (length p.before + length (element_at p))
        (map place_at (cond b (below p) []))
    by true = ordered_blocks (length p.before) (length p.before + length (element_at p)) (below p)
        (below_blocks p)
    by false = omega arith

asked_of_ordered : (i : Spot) → IsOrdered (length i.before)
    (length i.before + length (element_at i)) (map place_of (asked_of i))
asked_of_ordered i = by (sets (element_at i))
  where
    by : (o : Option Bool)
        → IsOrdered (length i.before) (length i.before + length (element_at i))
        (map place_of (choose o (λ set. map (λ (s : Spot). (set, s))
        (flat_map props_in (below i))) []))
    by None = omega arith
    by (Some set) =
        subst (IsOrdered (length i.before) (length i.before + length (element_at i)))
        (sym (pairs_places set (flat_map props_in (below i))))
        (gathered place_at props_in props_ordered (length i.before)
        (length i.before + length (element_at i)) (below i) (below_blocks i))

pub asked_ordered : (root : Spot) → IsOrdered (length root.before)
    (length root.before + length (element_at root)) (map place_of (asked root))
asked_ordered root = gathered place_of asked_of asked_of_ordered (length root.before)
    (length root.before + length (element_at root)) (below root) (below_blocks root)

-- ---- each is there

pub record IsAsked (nodes : List Node) (root : Spot) (a : Bool × Spot) : Type 0 where
  pub instruction : Spot
  pub prop : Spot
  pub stands : IsReadSpot nodes (tag_at prop ∷ tag_at instruction ∷ tag_at root ∷ []) a.1
  pub is_prop : is_dav (codes "prop") (element_at prop) ≡ true
  pub instructs : sets (element_at instruction) ≡ Some a.0

all_joined : {A : Type 0} (P : A → Type 0) (xs ys : List A) → AllByRecursion P xs
    → AllByRecursion P ys → AllByRecursion P (xs ++ ys)
all_joined P [] ys h k = k
all_joined P (x ∷ xs) ys h k = (h.0, all_joined P xs ys h.1 k)

all_gathered : {A B : Type 0} (P : A → Type 0) (Q : B → Type 0) (g : A → List B) (xs : List A)
    → AllByRecursion P xs → ((x : A) → P x → AllByRecursion Q (g x))
    → AllByRecursion Q (flat_map g xs)
all_gathered P Q g [] h each = tt
all_gathered P Q g (x ∷ xs) h each = all_joined Q (g x) (flat_map g xs) (each x h.0)
    (all_gathered P Q g xs h.1 each)

each_weaker : {A : Type 0} (P Q : A → Type 0) → ((x : A) → P x → Q x) → (xs : List A)
    → AllByRecursion P xs → AllByRecursion Q xs
each_weaker P Q f [] h = tt
each_weaker P Q f (x ∷ xs) h = (f x h.0, each_weaker P Q f xs h.1)

all_mapped : {A B : Type 0} (P : A → Type 0) (Q : B → Type 0) (f : A → B) (xs : List A)
    → AllByRecursion P xs → ((x : A) → P x → Q (f x)) → AllByRecursion Q (map f xs)
all_mapped P Q f [] h each = tt
all_mapped P Q f (x ∷ xs) h each = (each x h.0, all_mapped P Q f xs h.1 each)

record IsPropIn (nodes : List Node) (tags : List StartTag) (s : Spot) : Type 0 where
  prop : Spot
  stands : IsReadSpot nodes (tag_at prop ∷ tags) s
  is_prop : is_dav (codes "prop") (element_at prop) ≡ true

props_there : (nodes : List Node) (tags : List StartTag) (p : Spot) → IsReadSpot nodes tags p
    → AllByRecursion (IsPropIn nodes tags) (props_in p)
props_there nodes tags p h = by (is_dav (codes "prop") (element_at p)) refl (below p)
    (below_read nodes tags p h)
  where
    each : is_dav (codes "prop") (element_at p) ≡ true → (ss : List Spot)
        → AllByRecursion (IsReadSpot nodes (tag_at p ∷ tags)) ss
        → AllByRecursion (IsPropIn nodes tags) ss
    each is [] h = tt
    each is (s ∷ ss) h = (record { prop = p; stands = h.0; is_prop = is }, each is ss h.1)

    by : (b : Bool) → is_dav (codes "prop") (element_at p) ≡ b → (ss : List Spot)
        → AllByRecursion (IsReadSpot nodes (tag_at p ∷ tags)) ss
        → AllByRecursion (IsPropIn nodes tags) (cond b ss [])
    by true is ss h = each is ss h
    by false is ss h = tt

asked_there : (nodes : List Node) (root i : Spot) → IsReadSpot nodes (tag_at root ∷ []) i
    → AllByRecursion (IsAsked nodes root) (asked_of i)
asked_there nodes root i h = by (sets (element_at i)) refl
  where
    by : (o : Option Bool) → sets (element_at i) ≡ o
        → AllByRecursion (IsAsked nodes root) (choose o
        (λ set. map (λ (s : Spot). (set, s)) (flat_map props_in (below i))) [])
    by None is = tt
    by (Some set) is =
        all_mapped (IsPropIn nodes (tag_at i ∷ tag_at root ∷ [])) (IsAsked nodes root)
        (λ (s : Spot). (set, s)) (flat_map props_in (below i))
        (all_gathered (IsReadSpot nodes (tag_at i ∷ tag_at root ∷ []))
        (IsPropIn nodes (tag_at i ∷ tag_at root ∷ [])) props_in (below i)
        (below_read nodes (tag_at root ∷ []) i h) (props_there nodes (tag_at i ∷ tag_at root ∷ [])))
        (λ s k. record {
          instruction = i;
          prop = k.prop;
          stands = k.stands;
          is_prop = k.is_prop;
          instructs = is;
        })

pub all_there : (nodes : List Node) (root : Spot) → IsReadSpot nodes [] root
    → AllByRecursion (IsAsked nodes root) (asked root)
all_there nodes root h = all_gathered (IsReadSpot nodes (tag_at root ∷ []))
    (IsAsked nodes root) asked_of (below root) (below_read nodes [] root h) (asked_there nodes root)

-- ---- the code's definition asks for these

pub or_none : {A : Type 0} (o : Option A) → choose o (λ x. Some x) None ≡ o
or_none None = refl
or_none (Some x) = refl

lang_there : (nodes : List Node) (root i p s : Spot)
    → IsReadSpot nodes (tag_at p ∷ tag_at i ∷ tag_at root ∷ []) s
    → lang_around (place_at s) ≡ lang_in (lang_in (own_lang (element_at root)) (element_at i))
    (element_at p)
lang_there nodes root i p s h =
    ap lang_of_tags h.spot.around
    ∙ ap (λ (around : Option (List ℕ)). lang_in (lang_in around (element_at i)) (element_at p))
    (or_none (own_lang (element_at root)))

props_updated : (set : Bool) (lang : Option (List ℕ)) (ss : List Spot)
    → AllByRecursion (λ (s : Spot). lang_around (place_at s) ≡ lang) ss
    → flat_map (update_of set lang) (map element_at ss)
    ≡ map update_at (map (λ (s : Spot). (set, s)) ss)
props_updated set lang [] h = refl
props_updated set lang (s ∷ ss) h =
    ap (λ (us : List Update). (set, kept_property set lang s.name (element_at s)) ∷ us)
    (props_updated set lang ss h.1)
    ∙ ap (λ (l : Option (List ℕ)). (set, kept_property set l s.name (element_at s)) ∷ map update_at
    (map (λ (s : Spot). (set, s)) ss)) (sym h.0)

-- of several elements the one that is a `prop`
record IsTheProp (ss : List Spot) (prop : List Node) : Type 0 where
  spot : Spot
  there : In spot ss
  is : element_at spot ≡ prop
  is_prop : is_dav (codes "prop") (element_at spot) ≡ true
  only : flat_map props_in ss ≡ below spot

none_more : (ss : List Spot) → elements_named (codes "prop") (map element_at ss) ≡ []
    → flat_map props_in ss ≡ []
none_more [] h = refl
none_more (s ∷ ss) h = by (is_dav (codes "prop") (element_at s)) h (none_more ss)
  where
    by : (b : Bool) → cond b (element_at s ∷ elements_named (codes "prop") (map element_at ss))
        (elements_named (codes "prop") (map element_at ss)) ≡ []
        → (elements_named (codes "prop") (map element_at ss) ≡ [] → flat_map props_in ss ≡ [])
        → cond b (below s) [] ++ flat_map props_in ss ≡ []
    by true h next = absurd (cc)
    by false h next = next h

one_alone : (x y : List Node) (xs : List (List Node)) → the_one (x ∷ xs) ≡ Some y
    → (x ≡ y) × (xs ≡ [])
one_alone x y [] h = (same_Some x y h, refl)
one_alone x y (z ∷ xs) h = absurd (cc)

the_prop : (ss : List Spot) (prop : List Node) → the_one
    (elements_named (codes "prop") (map element_at ss)) ≡ Some prop → IsTheProp ss prop
the_prop [] prop h = absurd (cc)
the_prop (s ∷ ss) prop h = by (is_dav (codes "prop") (element_at s)) refl h (the_prop ss prop)
  where
    others : List (List Node)
    others = elements_named (codes "prop") (map element_at ss)

    by : (b : Bool) → is_dav (codes "prop") (element_at s) ≡ b
        → the_one (cond b (element_at s ∷ elements_named (codes "prop") (map element_at ss))
        (elements_named (codes "prop") (map element_at ss))) ≡ Some prop
        → (the_one (elements_named (codes "prop") (map element_at ss)) ≡ Some prop
        → IsTheProp ss prop) → IsTheProp (s ∷ ss) prop
    by true is h next =
        let alone = one_alone (element_at s) prop (elements_named (codes "prop")
        (map element_at ss)) h in
        record {
          spot = s;
          there = inl refl;
          is = alone.0;
          is_prop = is;
          only = ap (λ b. cond b (below s) [] ++ flat_map props_in ss) is
              ∙ ap (λ (xs : List Spot). below s ++ xs) (none_more ss alone.1)
              ∙ append-nil (below s);
        }
    by false is h next =
        let found = next h in
        record {
          spot = found.spot;
          there = inr found.there;
          is = found.is;
          is_prop = found.is_prop;
          only = ap (λ b. cond b (below s) [] ++ flat_map props_in ss) is ∙ found.only;
        }

pub instructed_are : (nodes : List Node) (root i : Spot) (updates : List Update)
    → IsReadSpot nodes (tag_at root ∷ []) i
    → instructed_updates (own_lang (element_at root)) (element_at i) ≡ Some updates
    → updates ≡ map update_at (asked_of i)
unfolding instructed_updates
instructed_are nodes root i updates h is = by (sets (element_at i)) is
  where
    lang : Option (List ℕ)
    lang = own_lang (element_at root)

    at : (set : Bool) (o : Option (List Node)) → the_one
        (elements_named (codes "prop") (children (element_at i))) ≡ o
        → (o >>= λ prop. Some (flat_map (update_of set
        (lang_in (lang_in (own_lang (element_at root)) (element_at i)) prop)) (children prop)))
        ≡ Some updates
        → updates ≡ map update_at (map (λ (s : Spot). (set, s)) (flat_map props_in (below i)))
    at set None found is = absurd (cc)
    at set (Some prop) found is =
        let one = the_prop (below i) prop (ap (λ (es : List (List Node)). the_one
        (elements_named (codes "prop") es)) (sym (children_below i)) ∙ found) in
        let p = one.spot in
        let around = lang_in (lang_in (own_lang (element_at root)) (element_at i)) in
        let stands = below_read nodes (tag_at i ∷ tag_at root ∷ []) p
        (all_in (IsReadSpot nodes (tag_at i ∷ tag_at root ∷ [])) (below i) p
        (below_read nodes (tag_at root ∷ []) i h) one.there) in
        sym (same_Some (flat_map (update_of set (around prop)) (children prop)) updates is)
        ∙ ap (λ (e : List Node). flat_map (update_of set (around e)) (children e)) (sym one.is)
        ∙ ap (flat_map (update_of set (around (element_at p)))) (children_below p)
        ∙ props_updated set (around (element_at p)) (below p)
        (each_weaker (IsReadSpot nodes (tag_at p ∷ tag_at i ∷ tag_at root ∷ []))
        (λ (s : Spot). lang_around (place_at s) ≡ around (element_at p))
        (lang_there nodes root i p) (below p) stands)
        ∙ ap (λ (ss : List Spot). map update_at (map (λ (s : Spot). (set, s)) ss)) (sym one.only)

    by : (o : Option Bool) → choose o
        (λ set. the_one (elements_named (codes "prop") (children (element_at i))) >>= λ prop.
        Some (flat_map (update_of set (lang_in (lang_in (own_lang (element_at root))
        (element_at i)) prop)) (children prop)))
        (Some []) ≡ Some updates → updates ≡ map update_at
        (choose o (λ set. map (λ (s : Spot). (set, s)) (flat_map props_in (below i))) [])
    by None is = sym (same_Some [] updates is)
    by (Some set) is = at set (the_one (elements_named (codes "prop")
        (children (element_at i)))) refl is
