-- The start of an element that is read could have been read of characters.
use Rattle.std.proofs.Common.{◌≡◌, refl, sym, ap, subst, ◌∙◌, ℕ, suc, ◌<◌, ◌≤◌, ◌^◌, arith, Bool, true, false, ◌&&◌, ◌||◌, not, cond, List, [], ◌∷◌, ◌++◌, map, length, Option, None, Some}
use Rattle.std.specs.Prelude.{codes, bytes_eq, nat_lt, unwrap_or, encode_utf8_all}
use Rattle.std.specs.List.{list_all, list_any}
use Rattle.std.proofs.lemmas.Bool.{and_parts, false≢true, lt-ltb}
use Rattle.std.proofs.lemmas.List.Folds.{list_any-append}
use Rattle.std.proofs.lemmas.Option.{none-some, same_Some}
use Rattle.std.proofs.lemmas.Slice.Eq.{bytes_eq-Decides}
use Rattle.dav_xml_core.specs.Characters.{is_char}
use Rattle.dav_xml_core.specs.Documents.{Name, Attribute}
use Rattle.dav_xml_core.specs.Markup.{RawAttribute}
use Rattle.dav_xml_core.specs.Names.{QName, is_ncname}
use Rattle.dav_xml_core.specs.Namespaces.{Binding, Started, always_bound, xml_namespace, xmlns_namespace, bound_from, bound_namespace, declares, may_bind, declared_binding, with_binding, with_bindings, prefixed_name, element_name, attribute_name, bound_attribute, attributes_of, attribute_names, same_name, distinct_behind, are_distinct, started_of}
use Rattle.dav_xml_core.specs.Optional.{◌>>=◌, when, choose}
use Rattle.dav_xml_core.specs.Readable.{is_name, is_attribute, is_start, name_bytes, attribute_bytes, names_bytes}
use Rattle.dav_xml_core.specs.References.{value_of}
use Rattle.dav_xml_core.specs.Scanning.{is_nil}
use Rattle.dav_xml_core.proofs.BindingLemmas.{binding, xml_bytes, xmlns_bytes, not_true}
use Rattle.dav_xml_core.proofs.EachLemmas.{Each, each_append}
use Rattle.dav_xml_core.proofs.ElementLemmas.{bind_some, when_some}
use Rattle.dav_xml_core.proofs.ProductionLemmas.{IsFound}
use Rattle.dav_xml_core.proofs.ReadValuesLemmas.{value_chars}
use Rattle.dav_xml_core.proofs.StartLemmas.{named}
use Rattle.dav_xml_core.proofs.TagBytesLemmas.{same_test, same_nil}

-- ---- bindings

-- what a prefix may be bound to
pub record IsNamespace (prefix namespace : List ℕ) : Type 0 where
  pub characters : List ℕ
  pub bytes : namespace ≡ encode_utf8_all characters
  pub chars : list_all is_char characters ≡ true
  pub other : bytes_eq prefix (codes "xmlns") ≡ false → bytes_eq characters xmlns_namespace ≡ false
  pub some : is_nil prefix ≡ false → is_nil characters ≡ false

abbrev pub IsBinding : Binding → Type 0
IsBinding binding = IsNamespace binding.prefix binding.namespace

abbrev pub AreBindings : List Binding → Type 0
AreBindings bindings = Each IsBinding bindings

pub always_are : AreBindings always_bound
always_are = (
  record { characters = xml_namespace; bytes = sym xml_bytes; chars = refl; other = λ e. refl; some = λ e. refl },
  (record { characters = xmlns_namespace; bytes = sym xmlns_bytes; chars = refl; other = λ e. absurd (false≢true (sym e)); some = λ e. refl }, tt),
)

abbrev IsBound : List ℕ → Option (List ℕ) → Type 0
IsBound prefix None = Unit {0}
IsBound prefix (Some namespace) = IsNamespace prefix namespace

bound_from_is : (prefix : List ℕ) (found : Option (List ℕ)) (bindings : List Binding) → IsBound prefix found → AreBindings bindings → IsBound prefix (bound_from prefix found bindings)
bound_from_is prefix found [] is are = is
bound_from_is prefix found (b ∷ bindings) is are =
    bound_from_is prefix (cond (bytes_eq b.prefix prefix) (Some b.namespace) found) bindings (go (bytes_eq b.prefix prefix) refl) are.1
  where
    go : (t : Bool) → bytes_eq b.prefix prefix ≡ t → IsBound prefix (cond t (Some b.namespace) found)
    go true e = subst (λ (p : List ℕ). IsNamespace p b.namespace) ((bytes_eq-Decides b.prefix prefix).0 e) are.0
    go false e = is

bound_is : (prefix : List ℕ) (bindings : List Binding) → AreBindings bindings → IsBound prefix (bound_namespace prefix bindings)
unfolding bound_namespace
bound_is prefix bindings are = bound_from_is prefix None bindings tt are

or_other : (a b : Bool) → (a || b) ≡ true → a ≡ false → b ≡ true
or_other true b h e = absurd (false≢true (sym e))
or_other false b h e = h

may_is : (prefix value : List ℕ) → list_all is_char value ≡ true → may_bind prefix (encode_utf8_all value) ≡ true → IsNamespace prefix (encode_utf8_all value)
unfolding may_bind
may_is prefix value all h = go (bytes_eq prefix (codes "xml")) h
  where
    namespace : List ℕ
    namespace = encode_utf8_all value

    go : (b : Bool) → cond b (bytes_eq namespace xml_namespace) (not (bytes_eq prefix (codes "xmlns")) && not (bytes_eq namespace xml_namespace) && not (bytes_eq namespace xmlns_namespace) && (is_nil prefix || not (is_nil namespace))) ≡ true
        → IsNamespace prefix namespace
    go true e =
        let is : value ≡ xml_namespace = (bytes_eq-Decides value xml_namespace).0 (sym (same_test value xml_namespace xml_bytes) ∙ e) in
        record { characters = value; bytes = refl; chars = all; other = λ _. ap (λ (v : List ℕ). bytes_eq v xmlns_namespace) is; some = λ _. ap is_nil is }
    go false e =
        let p = and_parts (not (bytes_eq prefix (codes "xmlns")) && not (bytes_eq namespace xml_namespace) && not (bytes_eq namespace xmlns_namespace)) (is_nil prefix || not (is_nil namespace)) e in
        let q = and_parts (not (bytes_eq prefix (codes "xmlns")) && not (bytes_eq namespace xml_namespace)) (not (bytes_eq namespace xmlns_namespace)) p.0 in
        record {
          characters = value;
          bytes = refl;
          chars = all;
          other = λ _. sym (same_test value xmlns_namespace xmlns_bytes) ∙ not_true (bytes_eq namespace xmlns_namespace) q.1;
          some = λ n. sym (same_nil value) ∙ not_true (is_nil namespace) (or_other (is_nil prefix) (not (is_nil namespace)) p.1 n);
        }

binding_is : (prefix raw : List ℕ) (found : Binding) → list_all is_char raw ≡ true → declared_binding prefix raw ≡ Some found → IsBinding found
unfolding declared_binding
binding_is prefix raw found all h =
    let a = bind_some (value_of raw) _ found h in
    let w = when_some (may_bind prefix (encode_utf8_all a.0)) (binding prefix (encode_utf8_all a.0)) found a.2 in
    subst IsBinding w.1 (may_is prefix a.0 (value_chars raw a.0 all a.1) w.0)

module _ (n : ℕ) where
  abbrev pub AreFound : List RawAttribute → Type 0
  AreFound raws = Each (IsFound is_char n) raws

  one_more : (around bindings : List Binding) (raw : RawAttribute) → AreBindings around → IsFound is_char n raw → with_binding around raw ≡ Some bindings → AreBindings bindings
  unfolding with_binding
  one_more around bindings raw are is h = go (declares raw.name) h
    where
      go : (o : Option (List ℕ)) → choose o (λ prefix. declared_binding prefix raw.raw >>= λ b. Some (around ++ b ∷ [])) (Some around) ≡ Some bindings → AreBindings bindings
      go (Some prefix) e =
          let a = bind_some (declared_binding prefix raw.raw) _ bindings e in
          subst AreBindings (same_Some (around ++ a.0 ∷ []) bindings a.2) (each_append IsBinding around (a.0 ∷ []) are (binding_is prefix raw.raw a.0 is.1 a.1, tt))
      go None e = subst AreBindings (same_Some around bindings e) are

  inside_are : (raws : List RawAttribute) (around bindings : List Binding) → AreBindings around → AreFound raws → with_bindings around raws ≡ Some bindings → AreBindings bindings
  inside_are [] around bindings are found h = subst AreBindings (same_Some around bindings h) are
  inside_are (raw ∷ raws) around bindings are found h =
      let a = bind_some (with_binding around raw) _ bindings h in
      inside_are raws a.0 bindings (one_more around a.0 raw are found.0 a.1) found.1 a.2

-- ---- names

record IsRead (found : Name) : Type 0 where
  name : Name
  bytes : found ≡ name_bytes name
  is : is_name name ≡ true

without : (local : List ℕ) → is_ncname local ≡ true → IsRead (named [] (encode_utf8_all local))
without local h = record { name = named [] local; bytes = refl; is = rw h refl }

with_prefix : (prefix namespace local : List ℕ) → IsNamespace prefix namespace → bytes_eq prefix (codes "xmlns") ≡ false → is_ncname local ≡ true → IsRead (named namespace (encode_utf8_all local))
with_prefix prefix namespace local is other h = record {
  name = named is.characters local;
  bytes = ap (λ (n : List ℕ). named n (encode_utf8_all local)) is.bytes;
  is = rw (h, is.chars, is.other other) refl;
}

prefixed_is : (inside : List Binding) (name : QName) (found : Name) → AreBindings inside → bytes_eq name.prefix (codes "xmlns") ≡ false → is_ncname name.local ≡ true
    → prefixed_name inside name ≡ Some found → IsRead found
unfolding prefixed_name
prefixed_is inside name found are other h e = go (bound_namespace name.prefix inside) (bound_is name.prefix inside are) e
  where
    go : (o : Option (List ℕ)) → IsBound name.prefix o → (o >>= λ namespace. Some (named namespace (encode_utf8_all name.local))) ≡ Some found → IsRead found
    go (Some namespace) is i = subst IsRead (same_Some (named namespace (encode_utf8_all name.local)) found i) (with_prefix name.prefix namespace name.local is other h)
    go None is i = absurd (none-some found i)

element_is : (inside : List Binding) (name : QName) (found : Name) → AreBindings inside → is_ncname name.local ≡ true → element_name inside name ≡ Some found → IsRead found
unfolding element_name
element_is inside name found are h e = go (is_nil name.prefix) (bytes_eq name.prefix (codes "xmlns")) refl e
  where
    by_default : (o : Option (List ℕ)) → IsBound [] o → IsRead (named (unwrap_or o []) (encode_utf8_all name.local))
    by_default None is = without name.local h
    by_default (Some namespace) is = with_prefix [] namespace name.local is refl h

    go : (a b : Bool) → bytes_eq name.prefix (codes "xmlns") ≡ b
        → cond a (Some (named (unwrap_or (bound_namespace [] inside) []) (encode_utf8_all name.local))) (cond b None (prefixed_name inside name)) ≡ Some found → IsRead found
    go true b is i = subst IsRead (same_Some _ found i) (by_default (bound_namespace [] inside) (bound_is [] inside are))
    go false true is i = absurd (none-some found i)
    go false false is i = prefixed_is inside name found are is h i

-- ---- attributes

record IsPlain (found : Name) : Type 0 where
  name : Name
  bytes : found ≡ name_bytes name
  is : is_name name ≡ true
  plain : (is_nil name.namespace && bytes_eq name.local (codes "xmlns")) ≡ false

when_none : {A : Type 0} (b : Bool) (x : A) → when b x ≡ None → b ≡ false
when_none true x h = absurd (none-some x (sym h))
when_none false x h = refl

plain_prefixed : (inside : List Binding) (name : QName) (found : Name) → AreBindings inside → bytes_eq name.prefix (codes "xmlns") ≡ false → is_nil name.prefix ≡ false → is_ncname name.local ≡ true
    → prefixed_name inside name ≡ Some found → IsPlain found
unfolding prefixed_name with_prefix
plain_prefixed inside name found are other some h e = go (bound_namespace name.prefix inside) (bound_is name.prefix inside are) e
  where
    go : (o : Option (List ℕ)) → IsBound name.prefix o → (o >>= λ namespace. Some (named namespace (encode_utf8_all name.local))) ≡ Some found → IsPlain found
    go (Some namespace) is i =
        let read = with_prefix name.prefix namespace name.local is other h in
        subst IsPlain (same_Some (named namespace (encode_utf8_all name.local)) found i)
        (record { name = read.name; bytes = read.bytes; is = read.is; plain = ap (λ b. b && bytes_eq name.local (codes "xmlns")) (is.some some) })
    go None is i = absurd (none-some found i)

attribute_is : (inside : List Binding) (name : QName) (found : Name) → AreBindings inside → is_ncname name.local ≡ true → declares name ≡ None → attribute_name inside name ≡ Some found → IsPlain found
unfolding attribute_name declares without
attribute_is inside name found are h none e = go (is_nil name.prefix) refl none e
  where
    go : (a : Bool) → is_nil name.prefix ≡ a → cond a (when (bytes_eq name.local (codes "xmlns")) []) (when (bytes_eq name.prefix (codes "xmlns")) name.local) ≡ None
        → cond a (Some (named [] (encode_utf8_all name.local))) (prefixed_name inside name) ≡ Some found → IsPlain found
    go true is d i =
        let read = without name.local h in
        subst IsPlain (same_Some (named [] (encode_utf8_all name.local)) found i) (record { name = read.name; bytes = refl; is = read.is; plain = when_none (bytes_eq name.local (codes "xmlns")) [] d })
    go false is d i = plain_prefixed inside name found are (when_none (bytes_eq name.prefix (codes "xmlns")) name.local d) is h i

-- of those that are none of the first list, none is in the second
Covered : List Name → List Name → Type 0
Covered seen plain = (x : Name) → list_any (same_name x) seen ≡ false → list_any (same_name x) plain ≡ false

or_false : (a b : Bool) → (a || b) ≡ false → (a ≡ false) × (b ≡ false)
or_false true b h = absurd (false≢true (sym h))
or_false false b h = (refl, h)

append_false : (x name : Name) (seen : List Name) → list_any (same_name x) (seen ++ name ∷ []) ≡ false → (list_any (same_name x) seen ≡ false) × (list_any (same_name x) (name ∷ []) ≡ false)
append_false x name seen h = or_false _ _ (sym (list_any-append (same_name x) seen (name ∷ [])) ∙ h)

covered_more : (seen plain : List Name) (name : Name) → Covered seen plain → Covered (seen ++ name ∷ []) plain
unfolding Covered
covered_more seen plain name c x h = c x (append_false x name seen h).0

covered_both : (seen plain : List Name) (name : Name) → Covered seen plain → Covered (seen ++ name ∷ []) (plain ++ name ∷ [])
unfolding Covered
covered_both seen plain name c x h =
    let p = append_false x name seen h in
    list_any-append (same_name x) plain (name ∷ []) ∙ rw (c x p.0, p.1) refl

by_cover : (x : Name) (seen plain : List Name) → Covered seen plain → list_any (same_name x) seen ≡ false → list_any (same_name x) plain ≡ false
unfolding Covered
by_cover x seen plain c h = c x h

negated : (b : Bool) → b ≡ false → not b ≡ true
negated true h = sym h
negated false h = refl

-- the attributes that declare nothing, and that their names are distinct where all are
record Kept (names : List Name) (all : List Attribute) (count : ℕ) : Type 0 where
  attributes : List Attribute
  bytes : all ≡ map attribute_bytes attributes
  are : list_all is_attribute attributes ≡ true
  few : length attributes ≤ count
  distinct : (seen plain : List Name) → Covered seen plain → distinct_behind seen names ≡ true → distinct_behind plain (names_bytes attributes) ≡ true

abbrev attribute : Name → List ℕ → Attribute
attribute name value = record { name = name; value = value }

module _ (n : ℕ) (inside : List Binding) (are : AreBindings inside) where
  declared : (raw : RawAttribute) (name : Name) (names : List Name) (all : List Attribute) (count : ℕ) → Kept names all count → Kept (name ∷ names) all (suc count)
  declared raw name names all count rest = record {
    attributes = rest.attributes;
    bytes = rest.bytes;
    are = rest.are;
    few = omega (arith, rest.few);
    distinct = λ seen plain c d.
        rest.distinct (seen ++ name ∷ []) plain (covered_more seen plain name c) (and_parts (not (list_any (same_name name) seen)) (distinct_behind (seen ++ name ∷ []) names) d).1;
  }

  said : (name : Name) (value : List ℕ) (names : List Name) (others : List Attribute) (count : ℕ) → IsPlain name → list_all is_char value ≡ true → Kept names others count
      → Kept (name ∷ names) (attribute name (encode_utf8_all value) ∷ others) (suc count)
  said name value names others count plain chars rest = record {
    attributes = attribute plain.name value ∷ rest.attributes;
    bytes = ap (λ (x : Name). attribute x (encode_utf8_all value) ∷ others) plain.bytes ∙ ap (λ (l : List Attribute). attribute_bytes (attribute plain.name value) ∷ l) rest.bytes;
    are = rw (plain.is, chars, negated _ plain.plain, rest.are) refl;
    few = omega (arith, rest.few);
    distinct = λ seen before c d.
        let p = and_parts (not (list_any (same_name name) seen)) (distinct_behind (seen ++ name ∷ []) names) d in
        let more = rest.distinct (seen ++ name ∷ []) (before ++ name ∷ []) (covered_both seen before name c) p.1 in
        subst (λ (x : Name). distinct_behind before (x ∷ names_bytes rest.attributes) ≡ true) plain.bytes
        (rw (by_cover name seen before c (not_true _ p.0), more) refl);
  }

  kept : (raws : List RawAttribute) (names : List Name) (all : List Attribute) → AreFound n raws → attribute_names inside raws ≡ Some names → attributes_of inside raws ≡ Some all
      → Kept names all (length raws)
  unfolding bound_attribute
  kept [] names all found h i = record { attributes = []; bytes = sym (same_Some [] all i); are = refl; few = omega arith; distinct = λ seen plain c d. refl }
  kept (raw ∷ raws) names all found h i =
      let a = bind_some (attribute_name inside raw.name) _ names h in
      let b = bind_some (attribute_names inside raws) _ names a.2 in
      subst (λ (x : List Name). Kept x all (suc (length raws))) (same_Some (a.0 ∷ b.0) names b.2)
      (go (declares raw.name) refl a.0 a.1 b.0 (λ others e. kept raws b.0 others found.1 b.1 e) i)
    where
      go : (o : Option (List ℕ)) → declares raw.name ≡ o → (name : Name) → attribute_name inside raw.name ≡ Some name → (more : List Name)
          → ((others : List Attribute) → attributes_of inside raws ≡ Some others → Kept more others (length raws))
          → cond (choose o (λ prefix. true) false) (attributes_of inside raws) (bound_attribute inside raw >>= λ first. attributes_of inside raws >>= λ others. Some (first ∷ others)) ≡ Some all
          → Kept (name ∷ more) all (suc (length raws))
      go (Some prefix) d name is more rest e = declared raw name more all (length raws) (rest all e)
      go None d name is more rest e =
          let x = bind_some (bound_attribute inside raw) _ all e in
          let y = bind_some (attributes_of inside raws) _ all x.2 in
          let u = bind_some (attribute_name inside raw.name) _ x.0 x.1 in
          let v = bind_some (value_of raw.raw) _ x.0 u.2 in
          let first : attribute name (encode_utf8_all v.0) ≡ x.0 =
          ap (λ (w : Name). attribute w (encode_utf8_all v.0)) (same_Some name u.0 (sym is ∙ u.1)) ∙ same_Some (attribute u.0 (encode_utf8_all v.0)) x.0 v.2 in
          let plain = attribute_is inside raw.name name are found.0.0 d is in
          subst (λ (l : List Attribute). Kept (name ∷ more) l (suc (length raws))) (ap (λ (w : Attribute). w ∷ y.0) first ∙ same_Some (x.0 ∷ y.0) all y.2)
          (said name v.0 more y.0 (length raws) plain (value_chars raw.raw v.0 found.0.1 v.1) (rest y.0 y.1))

-- ---- the start

-- with at most so many attributes
pub record StartIs (limit : ℕ) (start : Started) : Type 0 where
  pub name : Name
  pub attributes : List Attribute
  pub few : length attributes ≤ limit
  pub name_is : start.name ≡ name_bytes name
  pub attributes_are : start.attributes ≡ map attribute_bytes attributes
  pub is : is_start name attributes ≡ true
  pub bindings : AreBindings start.bindings

nothing_seen : Covered [] []
unfolding Covered
nothing_seen x h = refl

pub start_is : (n : ℕ) (around : List Binding) (name : QName) (raws : List RawAttribute) (start : Started) → n < 2 ^ 64 → AreBindings around → is_ncname name.local ≡ true
    → AreFound n raws → length raws ≤ n → started_of around name raws ≡ Some start → StartIs n start
unfolding started_of are_distinct
start_is n around name raws start small are local found few h =
    let a = bind_some (with_bindings around raws) _ start h in
    let b = bind_some (element_name a.0 name) _ start a.2 in
    let d = bind_some (attribute_names a.0 raws) _ start b.2 in
    let e = bind_some (when (distinct_behind [] d.0) d.0) _ start d.2 in
    let w = when_some (distinct_behind [] d.0) d.0 e.0 e.1 in
    let f = bind_some (attributes_of a.0 raws) _ start e.2 in
    let inside = inside_are n raws around a.0 are found a.1 in
    let read = element_is a.0 name b.0 inside local b.1 in
    let all = kept n a.0 inside raws d.0 f.0 found d.1 f.1 in
    let size : nat_lt (length all.attributes) (2 ^ 64) ≡ true = lt-ltb (length all.attributes) (2 ^ 64) (omega (arith, all.few)) in
    let is : is_start read.name all.attributes ≡ true = rw (read.is, all.are, all.distinct [] [] nothing_seen w.0, size) refl in
    subst (StartIs n) (same_Some (record { bindings = a.0; name = b.0; attributes = f.0 }) start f.2)
    (record { name = read.name; attributes = all.attributes; few = omega (arith, all.few, few); name_is = read.bytes; attributes_are = all.bytes; is = is; bindings = inside })
