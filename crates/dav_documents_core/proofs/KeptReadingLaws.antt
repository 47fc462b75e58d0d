-- What is kept of a property could have been read.
use Rattle.std.proofs.Common.{◌≡◌, refl, sym, ap, subst, ◌∙◌, ℕ, ◌+◌, ◌^◌, ◌<◌, arith, Bool, true, false, cond, ◌&&◌, ◌||◌, not, List, [], ◌∷◌, ◌++◌, length, map, Option, None, Some, codes, append_assoc, is_some}
use lib.Utf8.{encode}
use Rattle.std.specs.Prelude.{bytes_eq, encode_utf8_all, nat_lt}
use Rattle.std.specs.List.{AllByRecursion, flat_map, list_all, list_any}
use Rattle.std.proofs.lemmas.Bool.{false≢true, ltb-true}
use Rattle.std.proofs.lemmas.Bool.Decides.{nat_tests, same_from_decides}
use Rattle.std.proofs.lemmas.List.{append-nil, length-map, length_push, map_push}
use Rattle.std.proofs.lemmas.Option.{same_Some}
use Rattle.std.proofs.lemmas.Slice.Eq.{bytes_eq-Decides}
use Rattle.std.proofs.lemmas.List.Folds.{list_all-append}
use Rattle.dav_xml_core.specs.Characters.{is_char}
use Rattle.dav_xml_core.specs.Documents.{Name, Attribute, Node, Start, Text, End, is_element}
use Rattle.dav_xml_core.specs.Namespaces.{are_distinct, distinct_behind, same_name, xml_namespace}
use Rattle.dav_xml_core.specs.Readable.{attribute_bytes, is_attribute, is_name, is_start, name_bytes, names_bytes}
use Rattle.dav_xml_core.specs.ReadableDocuments.{CouldBeRead, are_apart, has_room, is_node, is_readable, node_bytes}
use Rattle.dav_xml_core.specs.Reading.{document_of}
use Rattle.dav_xml_core.specs.Optional.{◌>>=◌, choose, when}
use Rattle.dav_xml_core.specs.Scanning.{is_nil}
use Rattle.dav_xml_core.proofs.ElementLemmas.{bind_some, when_some}
use Rattle.dav_xml_core.proofs.ReadNodesLemmas.{read_could, read_room}
use Rattle.dav_documents_core.specs.Elements.{at_most_one, children, name_of_element, is_dav, elements_named, the_one}
use Rattle.dav_documents_core.specs.KeptElements.{IsElementIn, IsElementName, IsKeptProperty}
use Rattle.dav_documents_core.specs.KeptReading.{IsLang, IsText, WasRead}
use Rattle.dav_documents_core.specs.PropertyUpdates.{Update, first_lang, instructed_updates, is_lang, kept_property, lang_attribute, lang_in, own_lang, sets, told_lang, update_of, updates_by, updates_in, updates_of, with_lang}
use Rattle.dav_documents_core.proofs.NamedLemmas.{only_holds}
use Rattle.dav_documents_core.proofs.ReadChildLemmas.{children_read}

both : (a b : Bool) → (a && b) ≡ true → (a ≡ true) × (b ≡ true)
both true b h = (refl, h)
both false b h = absurd (false≢true h)

-- ---- names that are distinct, and one more

distinct_more : (seen names : List Name) (name : Name) → distinct_behind seen names ≡ true → list_any (same_name name) (seen ++ names) ≡ false
    → distinct_behind seen (names ++ name ∷ []) ≡ true
distinct_more seen [] name h new =
    let old : list_any (same_name name) seen ≡ false = ap (list_any (same_name name)) (sym (append-nil seen)) ∙ new in rw old refl
distinct_more seen (x ∷ names) name h new =
    let parts = both (not (list_any (same_name x) seen)) (distinct_behind (seen ++ x ∷ []) names) h in
    rw parts.0 (distinct_more (seen ++ x ∷ []) names name parts.1 (ap (list_any (same_name name)) (append_assoc seen (x ∷ []) names) ∙ new))

-- ---- the language

abbrev lang_name : Name
lang_name = record { namespace = xml_namespace; local = codes "lang" }

same_either_way : (xs ys : List ℕ) → bytes_eq xs ys ≡ bytes_eq ys xs
same_either_way xs ys =
    let there = bytes_eq-Decides ys xs in
    same_from_decides (bytes_eq xs ys) (bytes_eq ys xs) (bytes_eq-Decides xs ys) (λ e. sym (there.0 e), λ e. there.1 (sym e))

told_by : (attribute : Attribute) → same_name lang_name (name_bytes attribute.name) ≡ is_lang (attribute_bytes attribute)
told_by attribute =
    ap (λ b. b && bytes_eq (codes "lang") (encode_utf8_all attribute.name.local)) (same_either_way xml_namespace (encode_utf8_all attribute.name.namespace))
    ∙ ap (λ b. bytes_eq (encode_utf8_all attribute.name.namespace) xml_namespace && b) (same_either_way (codes "lang") (encode_utf8_all attribute.name.local))

one_untold : (attribute : Attribute) (attributes : List Attribute) (b : Bool) → is_lang (attribute_bytes attribute) ≡ b
    → is_some (cond b (Some (encode_utf8_all attribute.value)) (first_lang (map attribute_bytes attributes))) ≡ false
    → (is_some (first_lang (map attribute_bytes attributes)) ≡ false → list_any (same_name lang_name) (names_bytes attributes) ≡ false)
    → (same_name lang_name (name_bytes attribute.name) || list_any (same_name lang_name) (names_bytes attributes)) ≡ false
one_untold attribute attributes true is h rest = absurd (false≢true (sym h))
one_untold attribute attributes false is h rest =
    ap (λ b. b || list_any (same_name lang_name) (names_bytes attributes)) (told_by attribute ∙ is) ∙ rest h

none_told : (attributes : List Attribute) → is_some (first_lang (map attribute_bytes attributes)) ≡ false → list_any (same_name lang_name) (names_bytes attributes) ≡ false
none_told [] h = refl
none_told (attribute ∷ attributes) h = one_untold attribute attributes (is_lang (attribute_bytes attribute)) refl h (none_told attributes)

-- ---- a start, and one attribute more

lang_is : (lang : List ℕ) → list_all is_char lang ≡ true → is_attribute (lang_attribute lang) ≡ true
lang_is lang h = rw h refl

fits : (attributes : List Attribute) (x : Attribute) → length attributes + 1 < 2 ^ 64 → nat_lt (length (attributes ++ x ∷ [])) (2 ^ 64) ≡ true
fits attributes x h =
    let long : length (attributes ++ x ∷ []) ≡ length attributes + 1 = length_push attributes x in rw long (grind (arith, nat_tests))

start_more : (name : Name) (attributes : List Attribute) (lang : List ℕ) → is_start name attributes ≡ true → list_all is_char lang ≡ true
    → is_some (first_lang (map attribute_bytes attributes)) ≡ false → length attributes + 1 < 2 ^ 64 → is_start name (attributes ++ lang_attribute lang ∷ []) ≡ true
unfolding are_distinct encode
start_more name attributes lang h chars none room =
    let parts = both ((is_name name && list_all is_attribute attributes) && are_distinct (names_bytes attributes)) (nat_lt (length attributes) (2 ^ 64)) h in
    let names = both (is_name name && list_all is_attribute attributes) (are_distinct (names_bytes attributes)) parts.0 in
    let first = both (is_name name) (list_all is_attribute attributes) names.0 in
    let all : list_all is_attribute (attributes ++ lang_attribute lang ∷ []) ≡ true =
    list_all-append is_attribute attributes (lang_attribute lang ∷ []) ∙ ap (λ b. b && (is_attribute (lang_attribute lang) && true)) first.1
    ∙ ap (λ b. b && true) (lang_is lang chars) in
    let distinct : are_distinct (names_bytes (attributes ++ lang_attribute lang ∷ [])) ≡ true =
    ap are_distinct (map_push (λ (attribute : Attribute). name_bytes attribute.name) attributes (lang_attribute lang))
    ∙ distinct_more [] (names_bytes attributes) lang_name names.1 (none_told attributes none) in
    rw (first.0, all, distinct, fits attributes (lang_attribute lang) room) refl

-- ---- the element

-- one more attribute fits memory with those of an element
abbrev HasRoom : List Node → Type 0
HasRoom [] = Unit {0}
HasRoom (Start name attributes ∷ nodes) = length attributes + 1 < 2 ^ 64
HasRoom (Text text ∷ nodes) = Unit {0}
HasRoom (End ∷ nodes) = Unit {0}

has_room_first : (nodes : List Node) → list_all has_room nodes ≡ true → HasRoom nodes
has_room_first [] h = tt
has_room_first (Start name attributes ∷ nodes) h =
    ltb-true (length attributes + 1) (2 ^ 64) (both (has_room (Start name attributes)) (list_all has_room nodes) h).0
has_room_first (Text text ∷ nodes) h = tt
has_room_first (End ∷ nodes) h = tt

abbrev with_one : Name → List Attribute → List ℕ → List Node → List Node
with_one name attributes lang nodes = Start name (attributes ++ lang_attribute lang ∷ []) ∷ nodes

told_chars : (lang : List ℕ) (nodes : List Node) → IsText lang → is_readable nodes ≡ true → HasRoom (map node_bytes nodes) → CouldBeRead (told_lang lang (map node_bytes nodes))
unfolding encode
told_chars lang [] text h room = absurd (false≢true h)
told_chars lang (Text t ∷ nodes) text h room = absurd (false≢true h)
told_chars lang (End ∷ nodes) text h room = absurd (false≢true h)
told_chars lang (Start name attributes ∷ nodes) text h room = by (is_some (first_lang (map attribute_bytes attributes))) refl
  where
    by : (b : Bool) → is_some (first_lang (map attribute_bytes attributes)) ≡ b
        → CouldBeRead (Start (name_bytes name) (cond b (map attribute_bytes attributes) (map attribute_bytes attributes ++ lang_attribute lang ∷ [])) ∷ map node_bytes nodes)
    by true is = record { characters = Start name attributes ∷ nodes; bytes = refl; readable = h }
    by false is =
        let parts = both (is_element (Start name attributes ∷ nodes) && list_all is_node (Start name attributes ∷ nodes)) (are_apart false nodes) h in
        let inner = both (is_element (Start name attributes ∷ nodes)) (list_all is_node (Start name attributes ∷ nodes)) parts.0 in
        let each = both (is_start name attributes) (list_all is_node nodes) inner.1 in
        let small : length attributes + 1 < 2 ^ 64 = omega (arith, length-map attributes attribute_bytes) in
        let start = start_more name attributes text.characters each.0 text.each is small in
        record {
          characters = with_one name attributes text.characters nodes;
          bytes = ap (λ (all : List Attribute). Start (name_bytes name) all ∷ map node_bytes nodes)
              (ap (λ (l : List ℕ). map attribute_bytes attributes ++ lang_attribute l ∷ []) text.spelled
              ∙ sym (map_push attribute_bytes attributes (lang_attribute text.characters)));
          readable = rw (inner.0, start, each.1, parts.1) refl;
        }

told_could : (lang : List ℕ) (element : List Node) → IsText lang → CouldBeRead element → HasRoom element → CouldBeRead (told_lang lang element)
told_could lang element text h room =
    let P : List Node → Type 0 = λ (nodes : List Node). CouldBeRead (told_lang lang nodes) in
    subst P (sym h.bytes) (told_chars lang h.characters text h.readable (subst HasRoom h.bytes room))

-- what is kept of an element that was read, with the language around it, could have been read
pub kept_could : (lang : Option (List ℕ)) (element : List Node) → IsLang lang → WasRead element → CouldBeRead (with_lang lang element)
kept_could None element text h = h.could
kept_could (Some lang) element text h = told_could lang element text h.could (has_room_first element h.room)

-- ---- the languages of a body are text

own_or_next : (attribute : Attribute) (next : Option (List ℕ)) (b : Bool) → is_attribute attribute ≡ true → IsLang next
    → IsLang (cond b (Some (encode_utf8_all attribute.value)) next)
own_or_next attribute next true h text =
    let own = both (is_name attribute.name && list_all is_char attribute.value)
    (not (is_nil attribute.name.namespace && bytes_eq attribute.name.local (codes "xmlns"))) h in
    record { characters = attribute.value; spelled = refl; each = (both (is_name attribute.name) (list_all is_char attribute.value) own.0).1 }
own_or_next attribute next false h text = text

lang_text : (attributes : List Attribute) → list_all is_attribute attributes ≡ true → IsLang (first_lang (map attribute_bytes attributes))
lang_text [] h = tt
lang_text (attribute ∷ attributes) h =
    let parts = both (is_attribute attribute) (list_all is_attribute attributes) h in
    own_or_next attribute (first_lang (map attribute_bytes attributes)) (is_lang (attribute_bytes attribute)) parts.0 (lang_text attributes parts.1)

own_text_of : (nodes : List Node) → is_readable nodes ≡ true → IsLang (own_lang (map node_bytes nodes))
own_text_of [] h = tt
own_text_of (Text text ∷ nodes) h = tt
own_text_of (End ∷ nodes) h = tt
own_text_of (Start name attributes ∷ nodes) h =
    let parts = both (is_element (Start name attributes ∷ nodes) && list_all is_node (Start name attributes ∷ nodes)) (are_apart false nodes) h in
    let inner = both (is_element (Start name attributes ∷ nodes)) (list_all is_node (Start name attributes ∷ nodes)) parts.0 in
    let each = both (is_start name attributes) (list_all is_node nodes) inner.1 in
    let names = both ((is_name name && list_all is_attribute attributes) && are_distinct (names_bytes attributes)) (nat_lt (length attributes) (2 ^ 64)) each.0 in
    let first = both (is_name name && list_all is_attribute attributes) (are_distinct (names_bytes attributes)) names.0 in
    lang_text attributes (both (is_name name) (list_all is_attribute attributes) first.0).1

pub own_text : (element : List Node) → CouldBeRead element → IsLang (own_lang element)
own_text element h = subst (λ (nodes : List Node). IsLang (own_lang nodes)) (sym h.bytes) (own_text_of h.characters h.readable)

pub text_in : (around : Option (List ℕ)) (element : List Node) → IsLang around → CouldBeRead element → IsLang (lang_in around element)
text_in around element text h = by (own_lang element) (own_text element h)
  where
    by : (own : Option (List ℕ)) → IsLang own → IsLang (choose own (λ lang. Some lang) around)
    by (Some lang) is = is
    by None is = text

-- ---- each update of a body

-- its name is that of an element, and what is kept of it was one
abbrev pub IsKeptUpdate : Update → Type 0
IsKeptUpdate update = IsKeptProperty update.1

kept_behind : (xs ys : List Update) → AllByRecursion IsKeptUpdate xs → AllByRecursion IsKeptUpdate ys → AllByRecursion IsKeptUpdate (xs ++ ys)
kept_behind [] ys h k = k
kept_behind (x ∷ xs) ys h k = (h.0, kept_behind xs ys h.1 k)

named_chars : (characters : List Node) (name : Name) → is_readable characters ≡ true → name_of_element (map node_bytes characters) ≡ Some name → IsElementName name
named_chars [] name h is = absurd (cc)
named_chars (Text text ∷ nodes) name h is = absurd (cc)
named_chars (End ∷ nodes) name h is = absurd (cc)
named_chars (Start own attributes ∷ nodes) name h is =
    let parts = both (is_element (Start own attributes ∷ nodes) && list_all is_node (Start own attributes ∷ nodes)) (are_apart false nodes) h in
    let inner = both (is_element (Start own attributes ∷ nodes)) (list_all is_node (Start own attributes ∷ nodes)) parts.0 in
    let each = both (is_start own attributes) (list_all is_node nodes) inner.1 in
    let names = both ((is_name own && list_all is_attribute attributes) && are_distinct (names_bytes attributes)) (nat_lt (length attributes) (2 ^ 64)) each.0 in
    let first = both (is_name own && list_all is_attribute attributes) (are_distinct (names_bytes attributes)) names.0 in
    let same : name_bytes own ≡ name = cc in
    record { characters = own; bytes = sym same; is = (both (is_name own) (list_all is_attribute attributes) first.0).0 }

-- the name of an element that could have been read is one
pub name_could : (element : List Node) (name : Name) → CouldBeRead element → name_of_element element ≡ Some name → IsElementName name
name_could element name h is = named_chars h.characters name h.readable (ap name_of_element (sym h.bytes) ∙ is)

element_kept : (set : Bool) (lang : Option (List ℕ)) (name : Name) (element : List Node) → IsLang lang → WasRead element → IsElementIn (kept_property set lang name element).xml
element_kept true lang name element text h = record { nodes = with_lang lang element; could = kept_could lang element text h; written = refl }
element_kept false lang name element text h = tt

one_kept : (set : Bool) (lang : Option (List ℕ)) (name : Name) (element : List Node) → name_of_element element ≡ Some name → IsLang lang → WasRead element
    → IsKeptUpdate (set, kept_property set lang name element)
one_kept set lang name element named text h =
    (name_could element name h.could named, element_kept set lang name element text h)

update_kept : (set : Bool) (lang : Option (List ℕ)) (element : List Node) → IsLang lang → WasRead element → AllByRecursion IsKeptUpdate (update_of set lang element)
update_kept set lang element text h = by (name_of_element element) refl
  where
    by : (o : Option Name) → name_of_element element ≡ o → AllByRecursion IsKeptUpdate (choose o (λ name. (set, kept_property set lang name element) ∷ []) [])
    by (Some name) is = (one_kept set lang name element is text h, tt)
    by None is = tt

updates_kept : (set : Bool) (lang : Option (List ℕ)) (elements : List (List Node)) → IsLang lang → AllByRecursion WasRead elements
    → AllByRecursion IsKeptUpdate (flat_map (update_of set lang) elements)
updates_kept set lang [] text h = tt
updates_kept set lang (element ∷ elements) text h =
    kept_behind (update_of set lang element) (flat_map (update_of set lang) elements) (update_kept set lang element text h.0) (updates_kept set lang elements text h.1)

the_one_is : {A : Type 0} (xs : List A) (x : A) → the_one xs ≡ Some x → at_most_one xs ≡ Some (Some x)
the_one_is [] x h = absurd (cc)
the_one_is (y ∷ []) x h = ap Some h
the_one_is (y ∷ z ∷ xs) x h = absurd (cc)

instructed_kept : (lang : Option (List ℕ)) (instruction : List Node) (updates : List Update) → IsLang lang → WasRead instruction
    → instructed_updates lang instruction ≡ Some updates → AllByRecursion IsKeptUpdate updates
unfolding instructed_updates
instructed_kept lang instruction updates text h is = by (sets instruction) is
  where
    at : (set : Bool) (o : Option (List Node)) → the_one (elements_named (codes "prop") (children instruction)) ≡ o
        → (o >>= λ prop. Some (flat_map (update_of set (lang_in (lang_in lang instruction) prop)) (children prop))) ≡ Some updates → AllByRecursion IsKeptUpdate updates
    at set None found is = absurd (cc)
    at set (Some prop) found is =
        let prop_could = only_holds WasRead (is_dav (codes "prop")) (children instruction) prop (the_one_is (elements_named (codes "prop") (children instruction)) prop found)
        (children_read instruction h) in
        let around = text_in (lang_in lang instruction) prop (text_in lang instruction text h.could) prop_could.could in
        let same : flat_map (update_of set (lang_in (lang_in lang instruction) prop)) (children prop) ≡ updates = cc in
        subst (λ (us : List Update). AllByRecursion IsKeptUpdate us) same
        (updates_kept set (lang_in (lang_in lang instruction) prop) (children prop) around (children_read prop prop_could))

    by : (o : Option Bool) → choose o
        (λ set. the_one (elements_named (codes "prop") (children instruction)) >>= λ prop. Some (flat_map (update_of set (lang_in (lang_in lang instruction) prop)) (children prop)))
        (Some []) ≡ Some updates → AllByRecursion IsKeptUpdate updates
    by (Some set) is = at set (the_one (elements_named (codes "prop") (children instruction))) refl is
    by None is = let same : [] ≡ updates = cc in subst (λ (us : List Update). AllByRecursion IsKeptUpdate us) same tt

all_kept : (lang : Option (List ℕ)) (instructions : List (List Node)) (updates : List Update) → IsLang lang → AllByRecursion WasRead instructions
    → updates_by lang instructions ≡ Some updates → AllByRecursion IsKeptUpdate updates
all_kept lang [] updates text h is = let same : [] ≡ updates = cc in subst (λ (us : List Update). AllByRecursion IsKeptUpdate us) same tt
all_kept lang (instruction ∷ instructions) updates text h is =
    let first = bind_some (instructed_updates lang instruction) (λ first. updates_by lang instructions >>= λ others. Some (first ++ others)) updates is in
    let others = bind_some (updates_by lang instructions) (λ others. Some (first.0 ++ others)) updates first.2 in
    let same : first.0 ++ others.0 ≡ updates = same_Some (first.0 ++ others.0) updates others.2 in
    subst (λ (us : List Update). AllByRecursion IsKeptUpdate us) same
    (kept_behind first.0 others.0 (instructed_kept lang instruction first.0 text h.0 first.1) (all_kept lang instructions others.0 text h.1 others.1))

-- each update of a body
pub updates_are_kept : (body : List ℕ) (updates : List Update) → length body < 2 ^ 64 → updates_in body ≡ Some updates → AllByRecursion IsKeptUpdate updates
updates_are_kept body updates fits is =
    let document = bind_some (document_of body) updates_of updates is in
    let could : WasRead document.0 = record { could = read_could body document.0 fits document.1; room = read_room body document.0 fits document.1 } in
    let inside = bind_some (when (is_dav (codes "propertyupdate") document.0) (children document.0)) (updates_by (own_lang document.0)) updates document.2 in
    let instructions = (when_some (is_dav (codes "propertyupdate") document.0) (children document.0) inside.0 inside.1).1 in
    all_kept (own_lang document.0) inside.0 updates (own_text document.0 could.could) (subst (λ (es : List (List Node)). AllByRecursion WasRead es) instructions (children_read document.0 could)) inside.2
