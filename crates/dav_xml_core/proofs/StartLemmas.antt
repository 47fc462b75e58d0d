-- The start of an element that is written: its names and its attributes are read as they were.
use Rattle.std.proofs.Common.{◌≡◌, refl, sym, ap, ◌∙◌, ℕ, suc, Bool, true, false, ◌&&◌, not, cond, List, [], ◌∷◌, ◌++◌, map, Option, Some}
use Rattle.std.specs.Prelude.{codes, flat_map, bytes_eq, encode_utf8_all}
use Rattle.std.specs.List.{list_all}
use Rattle.std.proofs.lemmas.Bool.{and_parts, false≢true}
use Rattle.std.proofs.lemmas.Slice.Eq.{bytes_eq-Decides}
use Rattle.dav_xml_core.specs.Characters.{is_char}
use Rattle.dav_xml_core.specs.Documents.{Name, Attribute}
use Rattle.dav_xml_core.specs.Markup.{RawAttribute}
use Rattle.dav_xml_core.specs.Namespaces.{Binding, xml_namespace, bound_namespace, declares, element_name, attribute_name, prefixed_name, bound_attribute, attributes_of}
use Rattle.dav_xml_core.specs.Optional.{◌>>=◌, choose}
use Rattle.dav_xml_core.specs.Readable.{HoldWritten as Holds, is_name, is_attribute, name_bytes, attribute_bytes}
use Rattle.dav_xml_core.specs.References.{value_of}
use Rattle.dav_xml_core.specs.Scanning.{is_nil}
use Rattle.dav_xml_core.specs.Writing.{escaped_character, dav_namespace, is_other}
use Rattle.dav_xml_core.proofs.EscapeLemmas.{value_again}
use Rattle.dav_xml_core.proofs.TagLemmas.{qname}
use Rattle.dav_xml_core.proofs.BindingLemmas.{dav_bytes, xml_bytes, numbered, prefix_of, raws_for, raw_of, raws_of, IsOwn, is_own, not_declared, not_true}

-- the prefix of a name is bound to its namespace
abbrev pub Knows : List Binding → List ℕ → Name → Type 0
Knows inside own name = is_other name.namespace ≡ true → bound_namespace own inside ≡ Some (encode_utf8_all name.namespace)

abbrev pub named : List ℕ → List ℕ → Name
named namespace local = record { namespace = namespace; local = local }

pub is_nil_is : (text : List ℕ) → is_nil text ≡ true → text ≡ []
is_nil_is [] h = refl
is_nil_is (c ∷ text) h = absurd (false≢true h)

abbrev expanded_name : List ℕ → Option (List ℕ) → Option Name
expanded_name local found = found >>= λ namespace. Some (named namespace local)

-- the cases of a name's namespace
by_namespace : (name : Name) (P : List ℕ → Type 0) (own : List ℕ)
    → (name.namespace ≡ [] → P []) → (name.namespace ≡ dav_namespace → P (codes "D")) → (name.namespace ≡ xml_namespace → P (codes "xml"))
    → (is_other name.namespace ≡ true → P own) → P (prefix_of own name)
by_namespace name P own n d x o = go (is_nil name.namespace) (bytes_eq name.namespace dav_namespace) (bytes_eq name.namespace xml_namespace) refl refl refl
  where
    go : (a b e : Bool) → is_nil name.namespace ≡ a → bytes_eq name.namespace dav_namespace ≡ b → bytes_eq name.namespace xml_namespace ≡ e
        → P (cond a [] (cond b (codes "D") (cond e (codes "xml") own)))
    go true b e f g h = n (is_nil_is name.namespace f)
    go false true e f g h = d ((bytes_eq-Decides name.namespace dav_namespace).0 g)
    go false false true f g h = x ((bytes_eq-Decides name.namespace xml_namespace).0 h)
    go false false false f g h = o (rw (f, g, h) refl)

-- the name of an element
pub element_again : (inside : List Binding) (own : List ℕ) (name : Name) → Holds inside → IsOwn own → Knows inside own name
    → element_name inside (qname (prefix_of own name) name.local) ≡ Some (name_bytes name)
unfolding element_name prefixed_name
element_again inside own name holds is knows =
    by_namespace name (λ prefix. element_name inside (qname prefix name.local) ≡ Some (name_bytes name)) own
    (λ e. ap (λ (n : List ℕ). named_again n) (holds.default) ∙ ap (λ (n : List ℕ). named_again (encode_utf8_all n)) (sym e))
    (λ e. ap (expanded_name (encode_utf8_all name.local)) holds.dav ∙ ap (λ (n : List ℕ). named_again n) (sym dav_bytes) ∙ ap (λ (n : List ℕ). named_again (encode_utf8_all n)) (sym e))
    (λ e. ap (expanded_name (encode_utf8_all name.local)) holds.xml ∙ ap (λ (n : List ℕ). named_again n) (sym xml_bytes) ∙ ap (λ (n : List ℕ). named_again (encode_utf8_all n)) (sym e))
    (λ o. ap (λ (p : List ℕ). element_name inside (qname p name.local)) is.1
    ∙ ap (λ (p : List ℕ). expanded_name (encode_utf8_all name.local) (bound_namespace p inside)) (sym is.1)
    ∙ ap (expanded_name (encode_utf8_all name.local)) (knows o))
  where
    named_again : List ℕ → Option Name
    named_again n = Some (named n (encode_utf8_all name.local))

-- the name of an attribute
pub name_again : (inside : List Binding) (own : List ℕ) (name : Name) → Holds inside → IsOwn own → Knows inside own name
    → attribute_name inside (qname (prefix_of own name) name.local) ≡ Some (name_bytes name)
unfolding attribute_name prefixed_name
name_again inside own name holds is knows =
    by_namespace name (λ prefix. attribute_name inside (qname prefix name.local) ≡ Some (name_bytes name)) own
    (λ e. ap (λ (n : List ℕ). named_again (encode_utf8_all n)) (sym e))
    (λ e. ap (expanded_name (encode_utf8_all name.local)) holds.dav ∙ ap (λ (n : List ℕ). named_again n) (sym dav_bytes) ∙ ap (λ (n : List ℕ). named_again (encode_utf8_all n)) (sym e))
    (λ e. ap (expanded_name (encode_utf8_all name.local)) holds.xml ∙ ap (λ (n : List ℕ). named_again n) (sym xml_bytes) ∙ ap (λ (n : List ℕ). named_again (encode_utf8_all n)) (sym e))
    (λ o. ap (λ (p : List ℕ). attribute_name inside (qname p name.local)) is.1
    ∙ ap (λ (p : List ℕ). expanded_name (encode_utf8_all name.local) (bound_namespace p inside)) (sym is.1)
    ∙ ap (expanded_name (encode_utf8_all name.local)) (knows o))
  where
    named_again : List ℕ → Option Name
    named_again n = Some (named n (encode_utf8_all name.local))

-- ---- attributes

-- the prefixes of all attributes are bound to their namespaces
abbrev pub KnowsAll : List Binding → ℕ → List Attribute → Type 0
KnowsAll inside k [] = Unit {0}
KnowsAll inside k (attribute ∷ attributes) = Knows inside (numbered k) attribute.name × KnowsAll inside (suc k) attributes

-- raw attributes that are declarations
abbrev one_attribute : List Binding → RawAttribute → List RawAttribute → Bool → Option (List Attribute)
one_attribute inside raw raws declared =
    cond declared (attributes_of inside raws) (bound_attribute inside raw >>= λ first. attributes_of inside raws >>= λ others. Some (first ∷ others))

pub skipped_for : (inside : List Binding) (own : List ℕ) (name : Name) (more : List RawAttribute) → attributes_of inside (raws_for own name ++ more) ≡ attributes_of inside more
unfolding declares
skipped_for inside own name more = go (is_other name.namespace)
  where
    go : (b : Bool) → attributes_of inside (cond b (record { name = qname (codes "xmlns") own; raw = flat_map (escaped_character true) name.namespace } ∷ []) [] ++ more) ≡ attributes_of inside more
    go true = refl
    go false = refl

pub plain_parts : (attribute : Attribute) → is_attribute attribute ≡ true → (is_nil attribute.name.namespace && bytes_eq attribute.name.local (codes "xmlns")) ≡ false
plain_parts attribute h =
    not_true _ (and_parts (is_name attribute.name && list_all is_char attribute.value) (not (is_nil attribute.name.namespace && bytes_eq attribute.name.local (codes "xmlns"))) h).1

value_put : Name → Option (List ℕ) → Option Attribute
value_put name found = found >>= λ value. Some (record { name = name; value = encode_utf8_all value })

attribute_again : (inside : List Binding) (own : List ℕ) (attribute : Attribute) → Holds inside → IsOwn own → Knows inside own attribute.name
    → bound_attribute inside (raw_of own attribute) ≡ Some (attribute_bytes attribute)
unfolding bound_attribute value_put
attribute_again inside own attribute holds is knows =
    ap (λ (o : Option Name). o >>= λ name. value_put name (value_of (flat_map (escaped_character true) attribute.value))) (name_again inside own attribute.name holds is knows)
    ∙ ap (value_put (name_bytes attribute.name)) (value_again attribute.value)

abbrev attribute_put : Option Attribute → Option (List Attribute) → Option (List Attribute)
attribute_put found more = found >>= λ first. more >>= λ others. Some (first ∷ others)

pub attributes_again : (inside : List Binding) (k : ℕ) (attributes : List Attribute) → Holds inside → list_all is_attribute attributes ≡ true → KnowsAll inside k attributes
    → attributes_of inside (raws_of k attributes) ≡ Some (map attribute_bytes attributes)
attributes_again inside k [] holds h knows = refl
attributes_again inside k (attribute ∷ attributes) holds h knows =
    let p = and_parts (is_attribute attribute) (list_all is_attribute attributes) h in
    let raw = raw_of (numbered k) attribute in
    let more = raws_for (numbered k) attribute.name ++ raws_of (suc k) attributes in
    ap (λ (o : Option (List ℕ)). one_attribute inside raw more (choose o (λ prefix. true) false)) (not_declared (numbered k) attribute.name (is_own k) (plain_parts attribute p.0))
    ∙ ap (λ (o : Option Attribute). attribute_put o (attributes_of inside more)) (attribute_again inside (numbered k) attribute holds (is_own k) knows.0)
    ∙ ap (attribute_put (Some (attribute_bytes attribute)))
    (skipped_for inside (numbered k) attribute.name (raws_of (suc k) attributes) ∙ attributes_again inside (suc k) attributes holds p.1 knows.1)
