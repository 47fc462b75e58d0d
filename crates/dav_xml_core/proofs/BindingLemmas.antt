-- What the start of an element that is written declares, and the names that its prefixes stand for.
use Rattle.std.proofs.Common.{◌≡◌, refl, sym, ap, ◌∙◌, ℕ, suc, ◌+◌, ◌<◌, ◌≤◌, ◌^◌, arith, Bool, true, false, ◌&&◌, ◌||◌, not, cond, List, [], ◌∷◌, ◌++◌, length, Option, None, Some, append_assoc, append-nil}
use Rattle.std.specs.Prelude.{codes, flat_map, bytes_eq, decimal, encode_utf8_all}
use Rattle.std.specs.Char.{encode_utf8}
use Rattle.std.specs.List.{list_all}
use Rattle.std.proofs.lemmas.Bool.{and_parts, false≢true}
use Rattle.std.proofs.lemmas.Slice.Eq.{bytes_eq-Decides}
use Rattle.std.proofs.lemmas.Fmt.{decimal_injective, decimal_nonempty}
use Rattle.std.proofs.lemmas.Str.{encodes_same}
use Rattle.dav_xml_core.specs.Documents.{Name, Attribute}
use Rattle.dav_xml_core.specs.Markup.{RawAttribute}
use Rattle.dav_xml_core.specs.Characters.{is_char}
use Rattle.dav_xml_core.specs.Names.{is_ncname}
use Rattle.dav_xml_core.specs.Namespaces.{Binding, xml_namespace, xmlns_namespace, bound_from, bound_namespace, declares, may_bind, declared_binding, with_binding, with_bindings}
use Rattle.dav_xml_core.specs.Optional.{◌>>=◌, when, choose}
use Rattle.dav_xml_core.specs.Readable.{is_name, is_attribute}
use Rattle.dav_xml_core.specs.Scanning.{is_nil}
use Rattle.dav_xml_core.specs.Writing.{escaped_character, dav_namespace, is_other}
use Rattle.dav_xml_core.proofs.EscapeLemmas.{value_again}
use Rattle.dav_xml_core.proofs.TagLemmas.{qname}

-- ---- texts that are the same

pub false_eq : (a b : List ℕ) → (a ≡ b → ⊥) → bytes_eq a b ≡ false
false_eq a b h = go (bytes_eq a b) refl
  where
    go : (r : Bool) → bytes_eq a b ≡ r → r ≡ false
    go true is = absurd (h ((bytes_eq-Decides a b).0 is))
    go false is = refl

pub not_eq : (a b : List ℕ) → bytes_eq a b ≡ false → a ≡ b → ⊥
not_eq a b h e = false≢true (sym h ∙ (bytes_eq-Decides a b).1 e)

pub xml_bytes : encode_utf8_all xml_namespace ≡ xml_namespace
unfolding encode_utf8
xml_bytes = refl

pub xmlns_bytes : encode_utf8_all xmlns_namespace ≡ xmlns_namespace
unfolding encode_utf8
xmlns_bytes = refl

pub dav_bytes : encode_utf8_all dav_namespace ≡ dav_namespace
unfolding encode_utf8
dav_bytes = refl

pub bytes_not : (text other : List ℕ) → encode_utf8_all other ≡ other → bytes_eq text other ≡ false → bytes_eq (encode_utf8_all text) other ≡ false
bytes_not text other same h = false_eq (encode_utf8_all text) other (λ e. not_eq text other h (encodes_same text other (e ∙ sym same)))

pub not_xmlns : (text : List ℕ) → bytes_eq text xmlns_namespace ≡ false → bytes_eq (encode_utf8_all text) xmlns_namespace ≡ false
not_xmlns text h = bytes_not text xmlns_namespace xmlns_bytes h

-- ---- prefixes

abbrev pub numbered : ℕ → List ℕ
numbered k = codes "n" ++ decimal k

-- the prefix of a name, which is the given one where its namespace is none of the known
abbrev pub prefix_of : List ℕ → Name → List ℕ
prefix_of own name =
    cond (is_nil name.namespace) [] (cond (bytes_eq name.namespace dav_namespace) (codes "D") (cond (bytes_eq name.namespace xml_namespace) (codes "xml") own))

pub apart : (j k : ℕ) → j < 2 ^ 64 → k < 2 ^ 64 → (j ≡ k → ⊥) → bytes_eq (numbered j) (numbered k) ≡ false
apart j k hj hk h = false_eq (decimal j) (decimal k) (λ e. h (decimal_injective j k hj hk e))

nonempty : (text : List ℕ) → 0 < length text → bytes_eq text [] ≡ false
nonempty [] h = absurd (omega arith)
nonempty (c ∷ text) h = refl

pub apart_first : (k : ℕ) → k < 2 ^ 64 → bytes_eq (numbered k) (codes "n") ≡ false
apart_first k h = nonempty (decimal k) (decimal_nonempty k h)

-- ---- bindings

-- what a name declares
abbrev pub raws_for : List ℕ → Name → List RawAttribute
raws_for own name = cond (is_other name.namespace) (record { name = qname (codes "xmlns") own; raw = flat_map (escaped_character true) name.namespace } ∷ []) []

abbrev pub binding : List ℕ → List ℕ → Binding
binding prefix namespace = record { prefix = prefix; namespace = namespace }

abbrev pub bindings_for : List ℕ → Name → List Binding
bindings_for own name = cond (is_other name.namespace) (binding own (encode_utf8_all name.namespace) ∷ []) []

abbrev pub raw_of : List ℕ → Attribute → RawAttribute
raw_of own attribute = record { name = qname (prefix_of own attribute.name) attribute.name.local; raw = flat_map (escaped_character true) attribute.value }

abbrev pub raws_of : ℕ → List Attribute → List RawAttribute
raws_of k [] = []
raws_of k (attribute ∷ attributes) = raw_of (numbered k) attribute ∷ (raws_for (numbered k) attribute.name ++ raws_of (suc k) attributes)

abbrev pub bindings_of : ℕ → List Attribute → List Binding
bindings_of k [] = []
bindings_of k (attribute ∷ attributes) = bindings_for (numbered k) attribute.name ++ bindings_of (suc k) attributes

-- the raw attributes declare these bindings
abbrev pub Binds : List RawAttribute → List Binding → Type 0
Binds raws bindings = (around : List Binding) → with_bindings around raws ≡ Some (around ++ bindings)

pub binds_none : Binds [] []
binds_none around = ap (λ (b : List Binding). some b) (sym (append-nil around))
  where
    some : List Binding → Option (List Binding)
    some b = Some b

with_appended : (raws more : List RawAttribute) (around : List Binding) → with_bindings around (raws ++ more) ≡ (with_bindings around raws >>= λ b. with_bindings b more)
with_appended [] more around = refl
with_appended (raw ∷ raws) more around = go (λ b. with_appended raws more b) (with_binding around raw)
  where
    go : ((b : List Binding) → with_bindings b (raws ++ more) ≡ (with_bindings b raws >>= λ d. with_bindings d more))
        → (o : Option (List Binding)) → (o >>= λ b. with_bindings b (raws ++ more)) ≡ ((o >>= λ b. with_bindings b raws) >>= λ b. with_bindings b more)
    go h (Some b) = h b
    go h None = refl

abbrev some_bindings_of : List Binding → Option (List Binding)
some_bindings_of b = Some b

pub binds_append : (raws more : List RawAttribute) (bindings others : List Binding) → Binds raws bindings → Binds more others → Binds (raws ++ more) (bindings ++ others)
binds_append raws more bindings others h i around =
    with_appended raws more around
    ∙ ap (λ (o : Option (List Binding)). o >>= λ b. with_bindings b more) (h around)
    ∙ i (around ++ bindings)
    ∙ ap some_bindings_of (append_assoc around bindings others)

-- a prefix of a name that is written
abbrev pub IsOwn : List ℕ → Type 0
IsOwn own = (rest : List ℕ) × (own ≡ 110 ∷ rest)

abbrev may : List ℕ → List ℕ → Option Binding
may own namespace = when (may_bind own namespace) (binding own namespace)

abbrev put_binding : List Binding → Option Binding → Option (List Binding)
put_binding around found = found >>= λ b. Some (around ++ b ∷ [])

other_parts : (a b d : Bool) → not (a || b || d) ≡ true → (a ≡ false) × (b ≡ false) × (d ≡ false)
other_parts true b d h = absurd (false≢true h)
other_parts false true d h = absurd (false≢true h)
other_parts false false true h = absurd (false≢true h)
other_parts false false false h = (refl, refl, refl)

pub not_true : (b : Bool) → not b ≡ true → b ≡ false
not_true true h = sym h
not_true false h = refl

pub nil_bytes : (text : List ℕ) → is_nil text ≡ false → is_nil (encode_utf8_all text) ≡ false
nil_bytes text h = go (encode_utf8_all text) refl
  where
    go : (bytes : List ℕ) → encode_utf8_all text ≡ bytes → is_nil bytes ≡ false
    go [] e = absurd (false≢true (sym h ∙ ap is_nil (encodes_same text [] e)))
    go (b ∷ bytes) e = refl

own_may : (own : List ℕ) (namespace : List ℕ) → IsOwn own → is_other namespace ≡ true → bytes_eq namespace xmlns_namespace ≡ false
    → may_bind own (encode_utf8_all namespace) ≡ true
unfolding may_bind
own_may own namespace is other h =
    let parts = other_parts (is_nil namespace) (bytes_eq namespace dav_namespace) (bytes_eq namespace xml_namespace) other in
    ap (λ (o : List ℕ). may_bind o (encode_utf8_all namespace)) is.1
    ∙ rw (bytes_not namespace xml_namespace xml_bytes parts.2, not_xmlns namespace h, nil_bytes namespace parts.0) refl

declared_one : (own : List ℕ) (name : Name) → IsOwn own → is_name name ≡ true → is_other name.namespace ≡ true
    → Binds (record { name = qname (codes "xmlns") own; raw = flat_map (escaped_character true) name.namespace } ∷ []) (binding own (encode_utf8_all name.namespace) ∷ [])
unfolding with_binding declares declared_binding
declared_one own name is h other around =
    let p = and_parts (is_ncname name.local && list_all is_char name.namespace) (not (bytes_eq name.namespace xmlns_namespace)) h in
    ap (λ (o : Option (List ℕ)). put_binding around (o >>= λ value. may own (encode_utf8_all value)) >>= λ b. Some b) (value_again name.namespace)
    ∙ ap (λ t. put_binding around (when t (binding own (encode_utf8_all name.namespace))) >>= λ b. Some b) (own_may own name.namespace is other (not_true _ p.1))

pub binds_for : (own : List ℕ) (name : Name) → IsOwn own → is_name name ≡ true → Binds (raws_for own name) (bindings_for own name)
binds_for own name is h = go (is_other name.namespace) (λ other. declared_one own name is h other)
  where
    go : (b : Bool) → (b ≡ true → Binds (record { name = qname (codes "xmlns") own; raw = flat_map (escaped_character true) name.namespace } ∷ []) (binding own (encode_utf8_all name.namespace) ∷ []))
        → Binds (cond b (record { name = qname (codes "xmlns") own; raw = flat_map (escaped_character true) name.namespace } ∷ []) []) (cond b (binding own (encode_utf8_all name.namespace) ∷ []) [])
    go true f = f refl
    go false f = binds_none

-- what an attribute's name declares: nothing
pub not_declared : (own : List ℕ) (name : Name) → IsOwn own → (is_nil name.namespace && bytes_eq name.local (codes "xmlns")) ≡ false
    → declares (qname (prefix_of own name) name.local) ≡ None
unfolding declares
not_declared own name is h =
    ap (λ (o : List ℕ). declares (qname (prefix_of o name) name.local)) is.1
    ∙ go (is_nil name.namespace) (bytes_eq name.namespace dav_namespace) (bytes_eq name.namespace xml_namespace) (bytes_eq name.local (codes "xmlns")) refl h
  where
    go : (a b d e : Bool) → bytes_eq name.local (codes "xmlns") ≡ e → (a && e) ≡ false
        → declares (qname (cond a [] (cond b (codes "D") (cond d (codes "xml") (110 ∷ is.0)))) name.local) ≡ None
    go true b d e q f = ap (λ t. when t []) (q ∙ f)
    go false true d e q f = refl
    go false false true e q f = refl
    go false false false e q f = refl

binds_one : (own : List ℕ) (attribute : Attribute) → IsOwn own → is_attribute attribute ≡ true → Binds (raw_of own attribute ∷ []) []
unfolding with_binding
binds_one own attribute is h around =
    let p = and_parts (is_name attribute.name && list_all is_char attribute.value) (not (is_nil attribute.name.namespace && bytes_eq attribute.name.local (codes "xmlns"))) h in
    ap (λ (o : Option (List ℕ)). choose o (λ prefix. declared_binding prefix (flat_map (escaped_character true) attribute.value) >>= λ b. some_bindings_of (around ++ b ∷ [])) (some_bindings_of around) >>= λ b. Some b)
    (not_declared own attribute.name is (not_true _ p.1))
    ∙ binds_none around

pub is_own : (k : ℕ) → IsOwn (numbered k)
is_own k = (decimal k, refl)

pub attribute_name_is : (attribute : Attribute) → is_attribute attribute ≡ true → is_name attribute.name ≡ true
attribute_name_is attribute h =
    let p = and_parts (is_name attribute.name && list_all is_char attribute.value) (not (is_nil attribute.name.namespace && bytes_eq attribute.name.local (codes "xmlns"))) h in
    (and_parts (is_name attribute.name) (list_all is_char attribute.value) p.0).0

pub binds_of : (k : ℕ) (attributes : List Attribute) → list_all is_attribute attributes ≡ true → Binds (raws_of k attributes) (bindings_of k attributes)
binds_of k [] h = binds_none
binds_of k (attribute ∷ attributes) h =
    let p = and_parts (is_attribute attribute) (list_all is_attribute attributes) h in
    binds_append (raw_of (numbered k) attribute ∷ []) (raws_for (numbered k) attribute.name ++ raws_of (suc k) attributes) [] (bindings_of k (attribute ∷ attributes))
    (binds_one (numbered k) attribute (is_own k) p.0)
    (binds_append (raws_for (numbered k) attribute.name) (raws_of (suc k) attributes) (bindings_for (numbered k) attribute.name) (bindings_of (suc k) attributes)
    (binds_for (numbered k) attribute.name (is_own k) (attribute_name_is attribute p.0)) (binds_of (suc k) attributes p.1))

-- ---- what a prefix is bound to

-- no binding of the list is of the prefix
abbrev pub lacks : List ℕ → List Binding → Bool
lacks prefix bindings = list_all (λ b. not (bytes_eq b.prefix prefix)) bindings

pub bound_append : (prefix : List ℕ) (found : Option (List ℕ)) (first more : List Binding) → bound_from prefix found (first ++ more) ≡ bound_from prefix (bound_from prefix found first) more
bound_append prefix found [] more = refl
bound_append prefix found (b ∷ first) more = bound_append prefix (cond (bytes_eq b.prefix prefix) (Some b.namespace) found) first more

pub bound_lacking : (prefix : List ℕ) (found : Option (List ℕ)) (bindings : List Binding) → lacks prefix bindings ≡ true → bound_from prefix found bindings ≡ found
bound_lacking prefix found [] h = refl
bound_lacking prefix found (b ∷ bindings) h =
    let p = and_parts (not (bytes_eq b.prefix prefix)) (lacks prefix bindings) h in
    ap (λ t. bound_from prefix (cond t (Some b.namespace) found) bindings) (not_true _ p.0) ∙ bound_lacking prefix found bindings p.1

pub bound_before : (prefix : List ℕ) (first more : List Binding) → lacks prefix more ≡ true → bound_namespace prefix (first ++ more) ≡ bound_namespace prefix first
unfolding bound_namespace
bound_before prefix first more h = bound_append prefix None first more ∙ bound_lacking prefix (bound_from prefix None first) more h

pub bound_there : (prefix namespace : List ℕ) (first more : List Binding) → lacks prefix more ≡ true → bound_namespace prefix (first ++ binding prefix namespace ∷ more) ≡ Some namespace
unfolding bound_namespace
bound_there prefix namespace first more h =
    bound_append prefix None first (binding prefix namespace ∷ more)
    ∙ ap (λ t. bound_from prefix (cond t (Some namespace) (bound_from prefix None first)) more) ((bytes_eq-Decides prefix prefix).1 refl)
    ∙ bound_lacking prefix (Some namespace) more h

pub lacks_append : (prefix : List ℕ) (first more : List Binding) → lacks prefix first ≡ true → lacks prefix more ≡ true → lacks prefix (first ++ more) ≡ true
lacks_append prefix [] more h i = i
lacks_append prefix (b ∷ first) more h i =
    let p = and_parts (not (bytes_eq b.prefix prefix)) (lacks prefix first) h in
    rw (p.0, lacks_append prefix first more p.1 i) refl

pub lacks_for : (prefix own : List ℕ) (name : Name) → bytes_eq own prefix ≡ false → lacks prefix (bindings_for own name) ≡ true
lacks_for prefix own name h = go (is_other name.namespace)
  where
    go : (b : Bool) → lacks prefix (cond b (binding own (encode_utf8_all name.namespace) ∷ []) []) ≡ true
    go true = ap (λ t. not t && true) h
    go false = refl

-- a prefix that is none of the numbered ones from here on
pub lacks_of : (prefix : List ℕ) (k : ℕ) (attributes : List Attribute) → ((j : ℕ) → k ≤ j → j < k + length attributes → bytes_eq (numbered j) prefix ≡ false)
    → lacks prefix (bindings_of k attributes) ≡ true
lacks_of prefix k [] h = refl
lacks_of prefix k (attribute ∷ attributes) h =
    lacks_append prefix (bindings_for (numbered k) attribute.name) (bindings_of (suc k) attributes)
    (lacks_for prefix (numbered k) attribute.name (h k (omega arith) (omega arith)))
    (lacks_of prefix (suc k) attributes (λ j le lt. h j (omega arith) (omega arith)))
