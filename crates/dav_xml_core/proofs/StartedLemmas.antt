-- The start of an element that is written: it is read with its bindings, its name and its attributes.
use Rattle.std.proofs.Common.{◌≡◌, refl, sym, ap, subst, ◌∙◌, ℕ, suc, ◌+◌, ◌<◌, ◌≤◌, ◌^◌, arith, Bool, true, false, ◌&&◌, ◌||◌, not, cond, List, [], ◌∷◌, ◌++◌, map, length, Option, None, Some, append_assoc}
use Rattle.std.specs.Prelude.{codes, flat_map, bytes_eq, unwrap_or, encode_utf8_all}
use Rattle.std.specs.Char.{encode_utf8}
use Rattle.std.specs.List.{list_all, list_any}
use Rattle.std.proofs.lemmas.Bool.{and_parts, false≢true}
use Rattle.std.proofs.lemmas.List.Folds.{list_any-append}
use Rattle.std.proofs.lemmas.Str.{encodes_same}
use Rattle.dav_xml_core.specs.Characters.{is_char}
use Rattle.dav_xml_core.specs.Documents.{Name, Attribute}
use Rattle.dav_xml_core.specs.Markup.{RawAttribute}
use Rattle.dav_xml_core.specs.Names.{QName, is_ncname}
use Rattle.dav_xml_core.specs.Namespaces.{Binding, Started, xmlns_namespace, bound_namespace, with_bindings, element_name, attribute_name, prefixed_name, attributes_of, attribute_names, same_name, distinct_behind, are_distinct, started_of}
use Rattle.dav_xml_core.specs.Optional.{◌>>=◌, when}
use Rattle.dav_xml_core.specs.Readable.{HoldWritten as Holds, is_name, is_attribute, name_bytes, attribute_bytes, names_bytes}
use Rattle.dav_xml_core.specs.Scanning.{is_nil}
use Rattle.dav_xml_core.specs.Writing.{escaped_character, is_other}
use Rattle.dav_xml_core.proofs.TagLemmas.{qname}
use Rattle.dav_xml_core.proofs.BindingLemmas.{false_eq, not_eq, bytes_not, nil_bytes, not_xmlns, numbered, prefix_of, apart, apart_first, raws_for, binding, bindings_for, raws_of, bindings_of, Binds, binds_append, binds_for, binds_of, IsOwn, is_own, attribute_name_is, not_true, lacks, lacks_append, bound_before, bound_there, lacks_for, lacks_of}
use Rattle.dav_xml_core.proofs.StartLemmas.{Knows, KnowsAll, named, element_again, name_again, attributes_again, skipped_for, plain_parts}

-- ---- the prefixes are bound

knows_one : (own : List ℕ) (name : Name) (front more : List Binding) → lacks own more ≡ true → Knows (front ++ (bindings_for own name ++ more)) own name
knows_one own name front more h other =
    ap (λ b. bound_namespace own (front ++ (cond b (binding own (encode_utf8_all name.namespace) ∷ []) [] ++ more))) other
    ∙ bound_there own (encode_utf8_all name.namespace) front more h

knows_all : (k : ℕ) (attributes : List Attribute) (front : List Binding) → k + length attributes < 2 ^ 64 → KnowsAll (front ++ bindings_of k attributes) k attributes
knows_all k [] front lt = tt
knows_all k (attribute ∷ attributes) front lt = (
  knows_one (numbered k) attribute.name front (bindings_of (suc k) attributes)
      (lacks_of (numbered k) (suc k) attributes (λ j le less. apart j k (omega arith) (omega arith) (λ e. omega arith))),
  subst (λ (bs : List Binding). KnowsAll bs (suc k) attributes) (append_assoc front (bindings_for (numbered k) attribute.name) (bindings_of (suc k) attributes))
      (knows_all (suc k) attributes (front ++ bindings_for (numbered k) attribute.name) (omega arith)),
)

-- what an element declares for its own name and those of its attributes
abbrev pub own_bindings : Name → List Attribute → List Binding
own_bindings name attributes = bindings_for (codes "n") name ++ bindings_of 0 attributes

lacks_own : (prefix : List ℕ) (name : Name) (attributes : List Attribute) → ((rest : List ℕ) → bytes_eq (110 ∷ rest) prefix ≡ false) → lacks prefix (own_bindings name attributes) ≡ true
lacks_own prefix name attributes h =
    lacks_append prefix (bindings_for (codes "n") name) (bindings_of 0 attributes) (lacks_for prefix (codes "n") name (h [])) (lacks_of prefix 0 attributes (λ j le less. h _))

pub holds_inside : (bindings : List Binding) (name : Name) (attributes : List Attribute) → Holds bindings → Holds (bindings ++ own_bindings name attributes)
holds_inside bindings name attributes holds = record {
  dav = bound_before (codes "D") bindings (own_bindings name attributes) (lacks_own (codes "D") name attributes (λ r. refl)) ∙ holds.dav;
  xml = bound_before (codes "xml") bindings (own_bindings name attributes) (lacks_own (codes "xml") name attributes (λ r. refl)) ∙ holds.xml;
  xmlns = bound_before (codes "xmlns") bindings (own_bindings name attributes) (lacks_own (codes "xmlns") name attributes (λ r. refl)) ∙ holds.xmlns;
  default = ap (λ (o : Option (List ℕ)). unwrap_or o []) (bound_before [] bindings (own_bindings name attributes) (lacks_own [] name attributes (λ r. refl))) ∙ holds.default;
}

-- ---- no two names are the same

-- a name that no declaration has
pub record Plain (name : Name) : Type 0 where
  pub namespace : bytes_eq name.namespace xmlns_namespace ≡ false
  pub local : (is_nil name.namespace && bytes_eq name.local (codes "xmlns")) ≡ false

abbrev pub declaring : List ℕ → Name
declaring own = named xmlns_namespace (encode_utf8_all own)

abbrev pub declared_names : List ℕ → Name → List Name
declared_names own name = cond (is_other name.namespace) (declaring own ∷ []) []

abbrev pub names_from : ℕ → List Attribute → List Name
names_from k [] = []
names_from k (attribute ∷ attributes) = name_bytes attribute.name ∷ (declared_names (numbered k) attribute.name ++ names_from (suc k) attributes)

-- of names that no declaration has, the first list has those of the second
pub Covers : List Name → List Name → Type 0
Covers seen plain = (name : Name) → Plain name → list_any (same_name name) seen ≡ list_any (same_name name) plain

pub Free : ℕ → List Name → Type 0
Free k seen = (j : ℕ) → k ≤ j → j < 2 ^ 64 → list_any (same_name (declaring (numbered j))) seen ≡ false

or_false : (a b : Bool) → b ≡ false → (a || b) ≡ a
or_false true b e = refl
or_false false b e = e

or_both : (a b : Bool) → a ≡ false → b ≡ false → (a || b) ≡ false
or_both true b e f = e
or_both false b e f = f

and_false : (a b : Bool) → a ≡ false → (a && b) ≡ false
and_false true b e = absurd (false≢true (sym e))
and_false false b e = refl

one_false : (a b : Bool) → a ≡ false → ((a && b) || false) ≡ false
one_false true b e = absurd (false≢true (sym e))
one_false false b e = refl

covers_name : (seen plain : List Name) (name : Name) → Covers seen plain → Covers (seen ++ name ∷ []) (plain ++ name ∷ [])
unfolding Covers
covers_name seen plain name h other p =
    list_any-append (same_name other) seen (name ∷ [])
    ∙ ap (λ b. b || list_any (same_name other) (name ∷ [])) (h other p)
    ∙ sym (list_any-append (same_name other) plain (name ∷ []))

covers_declaring : (seen plain : List Name) (own : List ℕ) → Covers seen plain → Covers (seen ++ declaring own ∷ []) plain
unfolding Covers
covers_declaring seen plain own h other p =
    list_any-append (same_name other) seen (declaring own ∷ [])
    ∙ or_false (list_any (same_name other) seen) _ (one_false (bytes_eq other.namespace xmlns_namespace) (bytes_eq other.local (encode_utf8_all own)) p.namespace)
    ∙ h other p

free_name : (k : ℕ) (seen : List Name) (name : Name) → Plain name → Free k seen → Free k (seen ++ name ∷ [])
unfolding Free
free_name k seen name p h j le lt =
    list_any-append (same_name (declaring (numbered j))) seen (name ∷ [])
    ∙ or_both _ _ (h j le lt) (one_false (bytes_eq xmlns_namespace name.namespace) (bytes_eq (encode_utf8_all (numbered j)) name.local)
    (false_eq xmlns_namespace name.namespace (λ e. not_eq name.namespace xmlns_namespace p.namespace (sym e))))

two_false : (a b : Bool) → b ≡ false → ((a && b) || false) ≡ false
two_false true b e = ap (λ x. x || false) e
two_false false b e = refl

free_declaring : (k : ℕ) (seen : List Name) (own : List ℕ) → ((j : ℕ) → k ≤ j → j < 2 ^ 64 → bytes_eq (numbered j) own ≡ false) → Free k seen → Free k (seen ++ declaring own ∷ [])
unfolding Free
free_declaring k seen own other h j le lt =
    list_any-append (same_name (declaring (numbered j))) seen (declaring own ∷ [])
    ∙ or_both _ _ (h j le lt) (two_false (bytes_eq xmlns_namespace xmlns_namespace) (bytes_eq (encode_utf8_all (numbered j)) (encode_utf8_all own))
    (false_eq (encode_utf8_all (numbered j)) (encode_utf8_all own) (λ e. not_eq (numbered j) own (other j le lt) (encodes_same (numbered j) own e))))

later : (k : ℕ) (seen : List Name) → Free k seen → Free (suc k) seen
unfolding Free
later k seen h j le lt = h j (omega arith) lt

xmlns_word : encode_utf8_all (codes "xmlns") ≡ codes "xmlns"
unfolding encode_utf8
xmlns_word = refl

name_ns : (name : Name) → is_name name ≡ true → bytes_eq name.namespace xmlns_namespace ≡ false
name_ns name h = not_true _ (and_parts (is_ncname name.local && list_all is_char name.namespace) (not (bytes_eq name.namespace xmlns_namespace)) h).1

plain_bytes : (attribute : Attribute) → is_attribute attribute ≡ true → Plain (name_bytes attribute.name)
plain_bytes attribute h = record {
  namespace = not_xmlns attribute.name.namespace (name_ns attribute.name (attribute_name_is attribute h));
  local = go (is_nil attribute.name.namespace) (bytes_eq attribute.name.local (codes "xmlns")) refl refl (plain_parts attribute h);
}
  where
    go : (a b : Bool) → is_nil attribute.name.namespace ≡ a → bytes_eq attribute.name.local (codes "xmlns") ≡ b → (a && b) ≡ false
        → (is_nil (encode_utf8_all attribute.name.namespace) && bytes_eq (encode_utf8_all attribute.name.local) (codes "xmlns")) ≡ false
    go true true e f g = absurd (false≢true (sym g))
    go true false e f g = right (is_nil (encode_utf8_all attribute.name.namespace)) (bytes_not attribute.name.local (codes "xmlns") xmlns_word f)
      where
        right : (a : Bool) → bytes_eq (encode_utf8_all attribute.name.local) (codes "xmlns") ≡ false → (a && bytes_eq (encode_utf8_all attribute.name.local) (codes "xmlns")) ≡ false
        right true i = i
        right false i = refl
    go false b e f g = and_false _ _ (nil_bytes attribute.name.namespace e)

negated : (a b : Bool) → a ≡ b → not b ≡ true → not a ≡ true
negated a b e h = ap not e ∙ h

-- one more name that declares a prefix, if it does
with_declared : (k : ℕ) (own : List ℕ) (name : Name) (seen plain more : List Name)
    → list_any (same_name (declaring own)) seen ≡ false → ((j : ℕ) → k ≤ j → j < 2 ^ 64 → bytes_eq (numbered j) own ≡ false) → Covers seen plain → Free k seen
    → ((after : List Name) → Covers after plain → Free k after → distinct_behind after more ≡ true)
    → distinct_behind seen (declared_names own name ++ more) ≡ true
with_declared k own name seen plain more new other covers free then = go (is_other name.namespace)
  where
    go : (b : Bool) → distinct_behind seen (cond b (declaring own ∷ []) [] ++ more) ≡ true
    go true =
        ap (λ b. not b && distinct_behind (seen ++ declaring own ∷ []) more) new
        ∙ then (seen ++ declaring own ∷ []) (covers_declaring seen plain own covers) (free_declaring k seen own other free)
    go false = then seen covers free

distinct_from : (k : ℕ) (attributes : List Attribute) (seen plain : List Name) → list_all is_attribute attributes ≡ true → k + length attributes < 2 ^ 64
    → Covers seen plain → Free k seen → distinct_behind plain (names_bytes attributes) ≡ true → distinct_behind seen (names_from k attributes) ≡ true
unfolding Covers Free
distinct_from k [] seen plain h lt covers free d = refl
distinct_from k (attribute ∷ attributes) seen plain h lt covers free d =
    let p = and_parts (is_attribute attribute) (list_all is_attribute attributes) h in
    let name = name_bytes attribute.name in
    let is = plain_bytes attribute p.0 in
    let q = and_parts (not (list_any (same_name name) plain)) (distinct_behind (plain ++ name ∷ []) (names_bytes attributes)) d in
    let free' = free_name k seen name is free in
    let rest : distinct_behind (seen ++ name ∷ []) (declared_names (numbered k) attribute.name ++ names_from (suc k) attributes) ≡ true =
    with_declared (suc k) (numbered k) attribute.name (seen ++ name ∷ []) (plain ++ name ∷ []) (names_from (suc k) attributes)
    (free' k (omega arith) (omega arith)) (λ j le less. apart j k less (omega arith) (λ e. omega arith))
    (covers_name seen plain name covers) (later k (seen ++ name ∷ []) free')
    (λ after c f. distinct_from (suc k) attributes after (plain ++ name ∷ []) p.1 (omega arith) c f q.1) in
    ap (λ b. b && distinct_behind (seen ++ name ∷ []) (declared_names (numbered k) attribute.name ++ names_from (suc k) attributes)) (negated _ _ (covers name is) q.0)
    ∙ rest

-- ---- the names of all attributes, with those that declare

Names : List Binding → List RawAttribute → List Name → Type 0
Names inside raws names = attribute_names inside raws ≡ Some names

abbrev name_put : Option Name → Option (List Name) → Option (List Name)
name_put found more = found >>= λ first. more >>= λ others. Some (first ∷ others)

names_append : (inside : List Binding) (raws more : List RawAttribute) (names others : List Name) → Names inside raws names → Names inside more others → Names inside (raws ++ more) (names ++ others)
unfolding Names
names_append inside raws more names others h i =
    appended raws ∙ ap (λ (o : Option (List Name)). o >>= λ a. attribute_names inside more >>= λ b. Some (a ++ b)) h ∙ ap (λ (o : Option (List Name)). o >>= λ b. Some (names ++ b)) i
  where
    appended : (all : List RawAttribute) → attribute_names inside (all ++ more) ≡ (attribute_names inside all >>= λ a. attribute_names inside more >>= λ b. Some (a ++ b))
    appended [] = same (attribute_names inside more)
      where
        same : (o : Option (List Name)) → o ≡ (o >>= λ b. Some b)
        same (Some b) = refl
        same None = refl
    appended (raw ∷ all) =
        ap (name_put (attribute_name inside raw.name)) (appended all) ∙ moved (attribute_name inside raw.name) (attribute_names inside all) (attribute_names inside more)
      where
        moved : (o : Option Name) (a b : Option (List Name)) → name_put o (a >>= λ x. b >>= λ y. Some (x ++ y)) ≡ (name_put o a >>= λ x. b >>= λ y. Some (x ++ y))
        moved None a b = refl
        moved (Some n) None b = refl
        moved (Some n) (Some x) None = refl
        moved (Some n) (Some x) (Some y) = refl

names_for : (inside : List Binding) (own : List ℕ) (name : Name) → Holds inside → Names inside (raws_for own name) (declared_names own name)
unfolding Names attribute_name prefixed_name
names_for inside own name holds = go (is_other name.namespace)
  where
    go : (b : Bool) → attribute_names inside (cond b (record { name = qname (codes "xmlns") own; raw = flat_map (escaped_character true) name.namespace } ∷ []) []) ≡ Some (cond b (declaring own ∷ []) [])
    go true = ap (λ (o : Option (List ℕ)). (o >>= λ n. Some (named n (encode_utf8_all own))) >>= λ first. Some (first ∷ [])) holds.xmlns
    go false = refl

names_all : (inside : List Binding) (k : ℕ) (attributes : List Attribute) → Holds inside → KnowsAll inside k attributes → Names inside (raws_of k attributes) (names_from k attributes)
unfolding Names
names_all inside k [] holds knows = refl
names_all inside k (attribute ∷ attributes) holds knows =
    ap (λ (o : Option Name). name_put o (attribute_names inside (raws_for (numbered k) attribute.name ++ raws_of (suc k) attributes))) (name_again inside (numbered k) attribute.name holds (is_own k) knows.0)
    ∙ ap (name_put (Some (name_bytes attribute.name)))
    (names_append inside (raws_for (numbered k) attribute.name) (raws_of (suc k) attributes) (declared_names (numbered k) attribute.name) (names_from (suc k) attributes)
    (names_for inside (numbered k) attribute.name holds) (names_all inside (suc k) attributes holds knows.1))

-- ---- the start

-- what stands before the attributes of an element, and what it declares around these bindings
pub record Leads (around : List Binding) (firsts : List RawAttribute) (declared : List Binding) (names : List Name) : Type 0 where
  pub binds : Binds firsts declared
  pub holds : Holds (around ++ declared)
  pub names_are : (inside : List Binding) → Holds inside → attribute_names inside firsts ≡ Some names
  pub skipped : (inside : List Binding) (more : List RawAttribute) → attributes_of inside (firsts ++ more) ≡ attributes_of inside more
  pub distinct : (more : List Name) → distinct_behind [] (names ++ more) ≡ distinct_behind names more
  pub free : (rest : List ℕ) → list_any (same_name (declaring (110 ∷ rest))) names ≡ false
  pub plain : (name : Name) → Plain name → list_any (same_name name) names ≡ false

abbrev pub all_raws : List RawAttribute → Name → List Attribute → List RawAttribute
all_raws firsts name attributes = firsts ++ (raws_for (codes "n") name ++ raws_of 0 attributes)

abbrev pub start : List Binding → Name → List Attribute → Started
start bindings name attributes = record { bindings = bindings; name = name_bytes name; attributes = map attribute_bytes attributes }

abbrev by_inside : QName → List RawAttribute → Option (List Binding) → Option Started
by_inside name raws found =
    found >>= λ inside.
    element_name inside name >>= λ expanded.
    attribute_names inside raws >>= λ names.
    when (are_distinct names) names >>= λ distinct.
    attributes_of inside raws >>= λ all.
    Some (record { bindings = inside; name = expanded; attributes = all })

pub started_again : (around : List Binding) (firsts : List RawAttribute) (declared : List Binding) (names : List Name) (name : Name) (attributes : List Attribute)
    → Leads around firsts declared names → is_name name ≡ true → list_all is_attribute attributes ≡ true → are_distinct (names_bytes attributes) ≡ true → length attributes < 2 ^ 64
    → started_of around (qname (prefix_of (codes "n") name) name.local) (all_raws firsts name attributes)
    ≡ Some (start (around ++ (declared ++ own_bindings name attributes)) name attributes)
unfolding started_of are_distinct Names Covers Free
started_again around firsts declared names name attributes leads is h d lt =
    let own = codes "n" in
    let raws = all_raws firsts name attributes in
    let inside = around ++ (declared ++ own_bindings name attributes) in
    let short : 0 + length attributes < 2 ^ 64 = omega (arith, lt) in
    let n_own : IsOwn own = ([], refl) in
    let binds : with_bindings around raws ≡ Some inside =
    binds_append firsts (raws_for own name ++ raws_of 0 attributes) declared (own_bindings name attributes) leads.binds
    (binds_append (raws_for own name) (raws_of 0 attributes) (bindings_for own name) (bindings_of 0 attributes) (binds_for own name n_own is) (binds_of 0 attributes h)) around in
    let holds : Holds inside = subst Holds (append_assoc around declared (own_bindings name attributes)) (holds_inside (around ++ declared) name attributes leads.holds) in
    let knows : Knows inside own name =
    subst (λ (bs : List Binding). Knows bs own name) (append_assoc around declared (own_bindings name attributes))
    (knows_one own name (around ++ declared) (bindings_of 0 attributes) (lacks_of own 0 attributes (λ j le less. apart_first j (omega arith)))) in
    let together : ((around ++ declared) ++ bindings_for own name) ++ bindings_of 0 attributes ≡ inside =
    append_assoc (around ++ declared) (bindings_for own name) (bindings_of 0 attributes) ∙ append_assoc around declared (own_bindings name attributes) in
    let all : KnowsAll inside 0 attributes =
    subst (λ (bs : List Binding). KnowsAll bs 0 attributes) together (knows_all 0 attributes ((around ++ declared) ++ bindings_for own name) short) in
    let others = declared_names own name ++ names_from 0 attributes in
    let read : attribute_names inside raws ≡ Some (names ++ others) =
    names_append inside firsts (raws_for own name ++ raws_of 0 attributes) names others (leads.names_are inside holds)
    (names_append inside (raws_for own name) (raws_of 0 attributes) (declared_names own name) (names_from 0 attributes) (names_for inside own name holds) (names_all inside 0 attributes holds all)) in
    let distinct : distinct_behind [] (names ++ others) ≡ true =
    leads.distinct others
    ∙ with_declared 0 own name names [] (names_from 0 attributes) (leads.free []) (λ j le less. apart_first j less) leads.plain (λ j le less. leads.free _)
    (λ after c f. distinct_from 0 attributes after [] h short c f d) in
    let kept : attributes_of inside raws ≡ Some (map attribute_bytes attributes) =
    leads.skipped inside (raws_for own name ++ raws_of 0 attributes)
    ∙ skipped_for inside own name (raws_of 0 attributes)
    ∙ attributes_again inside 0 attributes holds h all in
    ap (by_inside (qname (prefix_of own name) name.local) raws) binds
    ∙ ap (λ (o : Option Name). o >>= λ expanded. attribute_names inside raws >>= λ ns. when (are_distinct ns) ns >>= λ u. attributes_of inside raws >>= λ a. begun inside expanded a) (element_again inside own name holds n_own knows)
    ∙ ap (λ (o : Option (List Name)). o >>= λ ns. when (are_distinct ns) ns >>= λ u. attributes_of inside raws >>= λ a. begun inside (name_bytes name) a) read
    ∙ ap (λ b. when b (names ++ others) >>= λ u. attributes_of inside raws >>= λ a. begun inside (name_bytes name) a) distinct
    ∙ ap (λ (o : Option (List Attribute)). o >>= λ a. begun inside (name_bytes name) a) kept
  where
    begun : List Binding → Name → List Attribute → Option Started
    begun bindings expanded all = Some (record { bindings = bindings; name = expanded; attributes = all })
