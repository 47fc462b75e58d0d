-- What is written for the start of an element is a tag, which is read with its name and its attributes.
use Rattle.std.proofs.Common.{◌≡◌, refl, sym, ap, subst, ◌∙◌, ℕ, suc, ◌+◌, ◌<◌, ◌≤◌, ◌^◌, arith, Bool, true, false, ◌&&◌, ◌||◌, not, cond, List, [], ◌∷◌, ◌++◌, length, get_or, Option, Some, append_assoc, append-nil, le-leb}
use Rattle.std.specs.Prelude.{nat_lt, codes, flat_map, ◌==◌, bytes_eq, decimal, unwrap_or, encode_utf8_all}
use Rattle.std.specs.Char.{encode_utf8}
use Rattle.std.specs.List.{list_all, list_any}
use Rattle.std.proofs.lemmas.Bool.{and_parts, false≢true, ltb-true}
use Rattle.std.proofs.lemmas.Grind.{flat_map-append}
use Rattle.std.proofs.lemmas.Fmt.{decimal_is_IsNumeral}
use Rattle.std.proofs.lemmas.Str.Parse.{digit_at}
use Rattle.std.proofs.lemmas.List.Folds.{list_any-append}
use Rattle.dav_xml_core.specs.Characters.{is_char, between}
use Rattle.dav_xml_core.specs.Documents.{Name, Attribute}
use Rattle.dav_xml_core.specs.Markup.{RawAttribute, Tag, EndTag, piece_at}
use Rattle.dav_xml_core.specs.Names.{is_name_char, is_name_start, is_ncname}
use Rattle.dav_xml_core.specs.Namespaces.{Binding, always_bound, xml_namespace, xmlns_namespace, bound_namespace, declares, may_bind, declared_binding, with_binding, attribute_name, prefixed_name, are_distinct}
use Rattle.dav_xml_core.specs.Optional.{◌>>=◌}
use Rattle.dav_xml_core.specs.Readable.{HoldWritten as Holds, IsReadBack, is_name, is_attribute, is_start, names_bytes}
use Rattle.dav_xml_core.specs.References.{expanded_at}
use Rattle.dav_xml_core.specs.Scanning.{is_nil}
use Rattle.dav_xml_core.specs.Sequences.{many, sequence}
use Rattle.dav_xml_core.specs.Writing.{escaped_character, dav_namespace, is_other, tag_name, declaration_bytes, attribute_text, attributes_text, start_text, element_prefix, in_document, alone}
use Rattle.dav_xml_core.proofs.TagLemmas.{qname, spelled, is_prefix, raw_text, AllRaw, tag_text, tag_again, end_tag_again}
use Rattle.dav_xml_core.proofs.BindingLemmas.{numbered, prefix_of, raws_for, raw_of, raws_of, binding, bound_there, bound_before, IsOwn, is_own, attribute_name_is}
use Rattle.dav_xml_core.proofs.StartLemmas.{named}
use Rattle.dav_xml_core.proofs.StartedLemmas.{Leads, declaring, all_raws, own_bindings, holds_inside, started_again}

-- ---- no quotes in values

has : List ℕ → Bool
has text = list_any (λ c. c == 34) text

chosen : (b : Bool) (first second : List ℕ) → has first ≡ false → (b ≡ false → has second ≡ false) → has (cond b first second) ≡ false
chosen true first second f s = f
chosen false first second f s = s refl

amp : has (codes "&amp;") ≡ false
unfolding has
amp = refl

lt : has (codes "&lt;") ≡ false
unfolding has
lt = refl

gt : has (codes "&gt;") ≡ false
unfolding has
gt = refl

return : has (codes "&#13;") ≡ false
unfolding has
return = refl

quot : has (codes "&quot;") ≡ false
unfolding has
quot = refl

tab : has (codes "&#9;") ≡ false
unfolding has
tab = refl

line : has (codes "&#10;") ≡ false
unfolding has
line = refl

single : (c : ℕ) → (c == 34) ≡ false → has (c ∷ []) ≡ false
unfolding has
single c e = ap (λ b. b || false) e

either : (b : Bool) (first second : List ℕ) → has first ≡ false → has second ≡ false → has (cond b first second) ≡ false
either true first second f s = f
either false first second f s = s

one : (c : ℕ) → has (escaped_character true c) ≡ false
one c =
    either (c == 38) _ _ amp (either (c == 60) _ _ lt (either (c == 62) _ _ gt (either (c == 13) _ _ return (chosen (c == 34) _ _ quot (λ e.
    either (c == 9) _ _ tab (either (c == 10) _ _ line (single c e)))))))

or_both : (a b : Bool) → a ≡ false → b ≡ false → (a || b) ≡ false
or_both true b e f = e
or_both false b e f = f

no_quote : (text : List ℕ) → list_any (λ c. c == 34) (flat_map (escaped_character true) text) ≡ false
unfolding has
no_quote [] = refl
no_quote (c ∷ text) = list_any-append (λ x. x == 34) (escaped_character true c) (flat_map (escaped_character true) text) ∙ or_both _ _ (one c) (no_quote text)

-- ---- prefixes are names

all_of_get : (test : ℕ → Bool) (xs : List ℕ) → ((i : ℕ) → i < length xs → test (get_or xs i 0) ≡ true) → list_all test xs ≡ true
all_of_get test [] h = refl
all_of_get test (x ∷ xs) h = rw (h 0 (omega arith), all_of_get test xs (λ i lt. h (suc i) (omega arith))) refl

or_right : (a b : Bool) → b ≡ true → (a || b) ≡ true
or_right true b e = refl
or_right false b e = e

or_left : (a b : Bool) → a ≡ true → (a || b) ≡ true
or_left true b e = refl
or_left false b e = absurd (false≢true e)

digit_char : (c : ℕ) → 48 ≤ c → c ≤ 57 → is_name_char c ≡ true
digit_char c low high =
    let d : between 48 57 c ≡ true = rw (le-leb 48 c low, le-leb c 57 high) refl in
    or_left _ (between 0x203F 0x2040 c) (or_left _ (between 0x300 0x36F c) (or_left _ (c == 0xB7) (or_right (is_name_start c || c == 45 || c == 46) (between 48 57 c) d)))

pub numbered_name : (k : ℕ) → k < 2 ^ 64 → is_ncname (numbered k) ≡ true
numbered_name k h = all_of_get is_name_char (decimal k) (λ i lt. let d = digit_at (decimal k) i (decimal_is_IsNumeral k h).0.1 lt in digit_char _ d.0 d.1)

pub prefix_is : (own : List ℕ) (name : Name) → is_ncname own ≡ true → is_prefix (prefix_of own name) ≡ true
prefix_is own name h = go (is_nil name.namespace) (bytes_eq name.namespace dav_namespace) (bytes_eq name.namespace xml_namespace)
  where
    go : (a b d : Bool) → is_prefix (cond a [] (cond b (codes "D") (cond d (codes "xml") own))) ≡ true
    go true b d = refl
    go false true d = refl
    go false false true = refl
    go false false false = or_right (is_nil own) (is_ncname own) h

-- ---- the text of a start tag

pub tag_name_is : (own : List ℕ) (name : Name) → IsOwn own → tag_name own name ≡ spelled (prefix_of own name) name.local
unfolding tag_name
tag_name_is own name is = ap (λ (o : List ℕ). tag_name o name) is.1 ∙ go (is_nil name.namespace) (bytes_eq name.namespace dav_namespace) (bytes_eq name.namespace xml_namespace) ∙ ap (λ (o : List ℕ). spelled (prefix_of o name) name.local) (sym is.1)
  where
    go : (a b d : Bool) → cond a name.local (cond b (codes "D:" ++ name.local) (cond d (codes "xml:" ++ name.local) ((110 ∷ is.0) ++ codes ":" ++ name.local)))
        ≡ spelled (cond a [] (cond b (codes "D") (cond d (codes "xml") (110 ∷ is.0)))) name.local
    go true b d = refl
    go false true d = refl
    go false false true = refl
    go false false false = append_assoc (110 ∷ is.0) (codes ":") name.local

declared_is : (own : List ℕ) (name : Name) → declaration_bytes own name ≡ flat_map raw_text (raws_for own name)
unfolding declaration_bytes
declared_is own name = go (is_other name.namespace)
  where
    text : List ℕ
    text = flat_map (escaped_character true) name.namespace

    go : (b : Bool) → cond b (codes " xmlns:" ++ own ++ codes "=\"" ++ text ++ codes "\"") [] ≡ flat_map raw_text (cond b (record { name = qname (codes "xmlns") own; raw = text } ∷ []) [])
    go true =
        append_assoc (codes " xmlns:" ++ own ++ codes "=\"") text (codes "\"")
        ∙ append_assoc (codes " xmlns:" ++ own) (codes "=\"") (text ++ codes "\"")
        ∙ append_assoc (codes " xmlns:") own (codes "=\"" ++ (text ++ codes "\""))
        ∙ sym (append-nil (raw_text (record { name = qname (codes "xmlns") own; raw = text })))
    go false = refl

attribute_is : (own : List ℕ) (attribute : Attribute) → IsOwn own → attribute_text own attribute ≡ raw_text (raw_of own attribute) ++ flat_map raw_text (raws_for own attribute.name)
unfolding attribute_text
attribute_is own attribute is =
    let text = flat_map (escaped_character true) attribute.value in
    let name = tag_name own attribute.name in
    ap (λ (t : List ℕ). t ++ declaration_bytes own attribute.name)
    (append_assoc (codes " " ++ name ++ codes "=\"") text (codes "\"")
    ∙ append_assoc (codes " " ++ name) (codes "=\"") (text ++ codes "\"")
    ∙ append_assoc (codes " ") name (codes "=\"" ++ (text ++ codes "\""))
    ∙ ap (λ (n : List ℕ). 32 ∷ (n ++ 61 ∷ 34 ∷ (text ++ codes "\""))) (tag_name_is own attribute.name is))
    ∙ ap (λ (t : List ℕ). raw_text (raw_of own attribute) ++ t) (declared_is own attribute.name)

attributes_are : (k : ℕ) (attributes : List Attribute) → attributes_text k attributes ≡ flat_map raw_text (raws_of k attributes)
attributes_are k [] = refl
attributes_are k (attribute ∷ attributes) =
    let first = raw_text (raw_of (numbered k) attribute) in
    let second = flat_map raw_text (raws_for (numbered k) attribute.name) in
    ap (λ (t : List ℕ). t ++ attributes_text (suc k) attributes) (attribute_is (numbered k) attribute (is_own k))
    ∙ ap (λ (t : List ℕ). (first ++ second) ++ t) (attributes_are (suc k) attributes)
    ∙ append_assoc first second (flat_map raw_text (raws_of (suc k) attributes))
    ∙ ap (λ (t : List ℕ). first ++ t) (sym (flat_map-append raw_text (raws_for (numbered k) attribute.name) (raws_of (suc k) attributes)))

start_text_is : (first : List ℕ) (firsts : List RawAttribute) (name : Name) (attributes : List Attribute) → first ≡ flat_map raw_text firsts
    → start_text first name attributes ≡ tag_text (prefix_of (codes "n") name) name.local (all_raws firsts name attributes)
unfolding start_text
start_text_is first firsts name attributes e =
    let own = codes "n" in
    let tag = tag_name own name in
    let said = declaration_bytes own name in
    let all = attributes_text 0 attributes in
    append_assoc ((codes "<" ++ tag) ++ first ++ said) all (codes ">")
    ∙ append_assoc ((codes "<" ++ tag) ++ first) said (all ++ codes ">")
    ∙ append_assoc (codes "<" ++ tag) first (said ++ (all ++ codes ">"))
    ∙ append_assoc (codes "<") tag (first ++ (said ++ (all ++ codes ">")))
    ∙ ap (λ (t : List ℕ). 60 ∷ (t ++ (first ++ (said ++ (all ++ codes ">"))))) (tag_name_is own name ([], refl))
    ∙ ap (λ (t : List ℕ). 60 ∷ (spelled (prefix_of own name) name.local ++ t))
    (sym (append_assoc first said (all ++ codes ">")) ∙ sym (append_assoc (first ++ said) all (codes ">"))
    ∙ ap (λ (t : List ℕ). t ++ codes ">")
    (append_assoc first said all
    ∙ ap (λ (t : List ℕ). t ++ (said ++ all)) e
    ∙ ap (λ (t : List ℕ). flat_map raw_text firsts ++ (t ++ all)) (declared_is own name)
    ∙ ap (λ (t : List ℕ). flat_map raw_text firsts ++ (flat_map raw_text (raws_for own name) ++ t)) (attributes_are 0 attributes)
    ∙ ap (λ (t : List ℕ). flat_map raw_text firsts ++ t) (sym (flat_map-append raw_text (raws_for own name) (raws_of 0 attributes)))
    ∙ sym (flat_map-append raw_text firsts (raws_for own name ++ raws_of 0 attributes))))

-- ---- each attribute is one as it is written

raw_append : (raws more : List RawAttribute) → AllRaw raws → AllRaw more → AllRaw (raws ++ more)
raw_append [] more h i = i
raw_append (raw ∷ raws) more h i = (h.0, raw_append raws more h.1 i)

pub name_local : (name : Name) → is_name name ≡ true → is_ncname name.local ≡ true
name_local name h =
    (and_parts (is_ncname name.local) (list_all is_char name.namespace)
    (and_parts (is_ncname name.local && list_all is_char name.namespace) (not (bytes_eq name.namespace xmlns_namespace)) h).0).0

raw_for : (own : List ℕ) (name : Name) → is_ncname own ≡ true → AllRaw (raws_for own name)
raw_for own name h = go (is_other name.namespace)
  where
    go : (b : Bool) → AllRaw (cond b (record { name = qname (codes "xmlns") own; raw = flat_map (escaped_character true) name.namespace } ∷ []) [])
    go true = (record { prefix = refl; local = h; raw = no_quote name.namespace }, tt)
    go false = tt

pub raw_all : (k : ℕ) (attributes : List Attribute) → list_all is_attribute attributes ≡ true → k + length attributes < 2 ^ 64 → AllRaw (raws_of k attributes)
raw_all k [] h lt = tt
raw_all k (attribute ∷ attributes) h lt =
    let p = and_parts (is_attribute attribute) (list_all is_attribute attributes) h in
    let own = numbered_name k (omega arith) in (
      record { prefix = prefix_is (numbered k) attribute.name own; local = name_local attribute.name (attribute_name_is attribute p.0); raw = no_quote attribute.value },
      raw_append (raws_for (numbered k) attribute.name) (raws_of (suc k) attributes) (raw_for (numbered k) attribute.name own) (raw_all (suc k) attributes p.1 (omega arith)),
    )

-- the start of an element is read as a tag
pub start_again : (first : List ℕ) (firsts : List RawAttribute) (name : Name) (attributes : List Attribute) (rest : List ℕ)
    → first ≡ flat_map raw_text firsts → AllRaw firsts → is_name name ≡ true → list_all is_attribute attributes ≡ true → length attributes < 2 ^ 64
    → piece_at (start_text first name attributes ++ rest) ≡ Some (Tag (qname (prefix_of (codes "n") name) name.local) (all_raws firsts name attributes) false, rest)
start_again first firsts name attributes rest e raw is h lt =
    let own = codes "n" in
    ap (λ (t : List ℕ). piece_at (t ++ rest)) (start_text_is first firsts name attributes e)
    ∙ tag_again (prefix_of own name) name.local (all_raws firsts name attributes) rest (prefix_is own name refl) (name_local name is)
    (raw_append firsts (raws_for own name ++ raws_of 0 attributes) raw (raw_append (raws_for own name) (raws_of 0 attributes) (raw_for own name refl) (raw_all 0 attributes h (omega arith))))

-- and so is its end
pub end_again : (name : Name) (rest : List ℕ) → is_name name ≡ true
    → piece_at ((codes "</" ++ tag_name element_prefix name ++ codes ">") ++ rest) ≡ Some (EndTag (qname (prefix_of (codes "n") name) name.local), rest)
end_again name rest is =
    ap (λ (t : List ℕ). piece_at (t ++ rest))
    (append_assoc (codes "</") (tag_name element_prefix name) (codes ">") ∙ ap (λ (n : List ℕ). 60 ∷ 47 ∷ (n ++ 62 ∷ [])) (tag_name_is element_prefix name ([], refl)))
    ∙ end_tag_again (prefix_of element_prefix name) name.local rest (prefix_is element_prefix name refl) (name_local name is)

-- ---- what the first element declares

abbrev dav_raw : RawAttribute
dav_raw = record { name = qname (codes "xmlns") (codes "D"); raw = dav_namespace }

abbrev none_raw : RawAttribute
none_raw = record { name = qname [] (codes "xmlns"); raw = [] }

pub leads_none : (around : List Binding) → Holds around → Leads around [] [] []
leads_none around holds = record {
  binds = λ b. ap (λ (l : List Binding). some l) (sym (append-nil b));
  holds = record {
    dav = ap (bound_namespace (codes "D")) (append-nil around) ∙ holds.dav;
    xml = ap (bound_namespace (codes "xml")) (append-nil around) ∙ holds.xml;
    xmlns = ap (bound_namespace (codes "xmlns")) (append-nil around) ∙ holds.xmlns;
    default = ap (λ (b : List Binding). unwrap_or (bound_namespace [] b) []) (append-nil around) ∙ holds.default;
  };
  names_are = λ inside h. refl;
  skipped = λ inside more. refl;
  distinct = λ more. refl;
  free = λ rest. refl;
  plain = λ name p. refl;
}
  where
    some : List Binding → Option (List Binding)
    some b = Some b

holds_first : Holds (always_bound ++ binding (codes "D") dav_namespace ∷ [])
unfolding bound_namespace
holds_first = record { dav = refl; xml = refl; xmlns = refl; default = refl }

pub leads_first : Leads always_bound (dav_raw ∷ []) (binding (codes "D") dav_namespace ∷ []) (declaring (codes "D") ∷ [])
unfolding declares with_binding declared_binding may_bind attribute_name prefixed_name encode_utf8 expanded_at sequence many
leads_first = record {
  binds = λ b. refl;
  holds = holds_first;
  names_are = λ inside h. ap (λ (o : Option (List ℕ)). (o >>= λ n. Some (named n (encode_utf8_all (codes "D")))) >>= λ first. Some (first ∷ [])) h.xmlns;
  skipped = λ inside more. refl;
  distinct = λ more. refl;
  free = λ rest. refl;
  plain = λ name p. one_name (bytes_eq name.namespace xmlns_namespace) (bytes_eq name.local (encode_utf8_all (codes "D"))) p.namespace;
}
  where
    one_name : (a b : Bool) → a ≡ false → ((a && b) || false) ≡ false
    one_name true b e = absurd (false≢true (sym e))
    one_name false b e = refl

-- the whole start
pub read_back : (around : List Binding) (first : List ℕ) (firsts : List RawAttribute) (declaration_bytes : List Binding) (names : List Name) (name : Name) (attributes : List Attribute)
    → Leads around firsts declaration_bytes names → first ≡ flat_map raw_text firsts → AllRaw firsts → is_start name attributes ≡ true → IsReadBack around first name attributes
read_back around first firsts declaration_bytes names name attributes leads e raw h =
    let p = and_parts (is_name name && list_all is_attribute attributes && are_distinct (names_bytes attributes)) (nat_lt (length attributes) (2 ^ 64)) h in
    let q = and_parts (is_name name && list_all is_attribute attributes) (are_distinct (names_bytes attributes)) p.0 in
    let r = and_parts (is_name name) (list_all is_attribute attributes) q.0 in
    let lt : length attributes < 2 ^ 64 = ltb-true _ _ p.1 in
    record {
      tag = qname (prefix_of (codes "n") name) name.local;
      written = all_raws firsts name attributes;
      inside = around ++ (declaration_bytes ++ own_bindings name attributes);
      start = λ rest. start_again first firsts name attributes rest e raw r.0 r.1 lt;
      end = λ rest. end_again name rest r.0;
      element = started_again around firsts declaration_bytes names name attributes leads r.0 r.1 q.1 lt;
      hold = subst Holds (append_assoc around declaration_bytes (own_bindings name attributes)) (holds_inside (around ++ declaration_bytes) name attributes leads.holds);
    }

pub read_back_first : (name : Name) (attributes : List Attribute) → is_start name attributes ≡ true → IsReadBack always_bound in_document name attributes
read_back_first name attributes h =
    read_back always_bound in_document (dav_raw ∷ []) (binding (codes "D") dav_namespace ∷ []) (declaring (codes "D") ∷ []) name attributes leads_first refl
    (record { prefix = refl; local = refl; raw = refl }, tt) h

pub read_back_inside : (around : List Binding) (name : Name) (attributes : List Attribute) → Holds around → is_start name attributes ≡ true → IsReadBack around [] name attributes
read_back_inside around name attributes holds h = read_back around [] [] [] [] name attributes (leads_none around holds) refl tt h

abbrev alone_bindings : List Binding
alone_bindings = binding (codes "D") dav_namespace ∷ binding [] [] ∷ []

pub leads_alone : (around : List Binding) → bound_namespace (codes "xml") around ≡ Some xml_namespace → bound_namespace (codes "xmlns") around ≡ Some xmlns_namespace
    → Leads around (dav_raw ∷ none_raw ∷ []) alone_bindings (declaring (codes "D") ∷ named [] (codes "xmlns") ∷ [])
unfolding declares with_binding declared_binding may_bind attribute_name prefixed_name encode_utf8 expanded_at sequence many
leads_alone around xml xmlns = record {
  binds = λ b. ap (λ (l : List Binding). some l) (append_assoc b (binding (codes "D") dav_namespace ∷ []) (binding [] [] ∷ []));
  holds = record {
    dav = bound_there (codes "D") dav_namespace around (binding [] [] ∷ []) refl;
    xml = bound_before (codes "xml") around alone_bindings refl ∙ xml;
    xmlns = bound_before (codes "xmlns") around alone_bindings refl ∙ xmlns;
    default = ap (λ (l : List Binding). unwrap_or (bound_namespace [] l) []) (sym (append_assoc around (binding (codes "D") dav_namespace ∷ []) (binding [] [] ∷ [])))
        ∙ ap (λ (o : Option (List ℕ)). unwrap_or o []) (bound_there [] [] (around ++ binding (codes "D") dav_namespace ∷ []) [] refl);
  };
  names_are = λ inside h. ap (λ (o : Option (List ℕ)). (o >>= λ n. Some (named n (encode_utf8_all (codes "D")))) >>= λ first. Some (first ∷ named [] (codes "xmlns") ∷ [])) h.xmlns;
  skipped = λ inside more. refl;
  distinct = λ more. refl;
  free = λ rest. refl;
  plain = λ name p. two_names name.namespace name.local p.namespace p.local;
}
  where
    some : List Binding → Option (List Binding)
    some b = Some b

    two_names : (namespace local : List ℕ) → bytes_eq namespace xmlns_namespace ≡ false → (is_nil namespace && bytes_eq local (codes "xmlns")) ≡ false
        → ((bytes_eq namespace xmlns_namespace && bytes_eq local (encode_utf8_all (codes "D"))) || ((bytes_eq namespace [] && bytes_eq local (codes "xmlns")) || false)) ≡ false
    two_names [] local e f = ap (λ b. b || false) f
    two_names (c ∷ namespace) local e f = ap (λ b. (b && bytes_eq local (encode_utf8_all (codes "D"))) || false) e

pub read_back_alone : (around : List Binding) (name : Name) (attributes : List Attribute) → bound_namespace (codes "xml") around ≡ Some xml_namespace → bound_namespace (codes "xmlns") around ≡ Some xmlns_namespace
    → is_start name attributes ≡ true → IsReadBack around alone name attributes
read_back_alone around name attributes xml xmlns h =
    read_back around alone (dav_raw ∷ none_raw ∷ []) alone_bindings (declaring (codes "D") ∷ named [] (codes "xmlns") ∷ []) name attributes (leads_alone around xml xmlns) refl
    (record { prefix = refl; local = refl; raw = refl }, (record { prefix = refl; local = refl; raw = refl }, tt)) h
