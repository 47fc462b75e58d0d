-- In each front of a document `xml` and `xmlns` are bound as they always are.
use Rattle.std.proofs.Common.{◌≡◌, refl, sym, ap, subst, ◌∙◌, ℕ, suc, Bool, true, false, ◌&&◌, ◌||◌, not, cond, List, [], ◌∷◌, ◌++◌, take, length, Option, None, Some, append_assoc}
use Rattle.std.specs.Prelude.{codes, bytes_eq, encode_utf8_all}
use Rattle.std.proofs.lemmas.Bool.{and_parts, false≢true}
use Rattle.std.proofs.lemmas.Option.{same_Some}
use Rattle.std.proofs.lemmas.Slice.Eq.{bytes_eq-Decides}
use Rattle.dav_xml_core.specs.Markup.{RawAttribute, Piece}
use Rattle.dav_xml_core.specs.Names.{QName}
use Rattle.dav_xml_core.specs.Namespaces.{Binding, Started, always_bound, xml_namespace, xmlns_namespace, bound_from, bound_namespace, declares, may_bind, declared_binding, with_binding, with_bindings, element_name, attribute_names, are_distinct, attributes_of, started_of}
use Rattle.dav_xml_core.specs.Optional.{◌>>=◌, when, choose}
use Rattle.dav_xml_core.specs.Reading.{Front, Element, nothing, is_empty, last_of, same_qname, with_start_tag, with_end_tag, with_pieces}
use Rattle.dav_xml_core.specs.References.{value_of}
use Rattle.dav_xml_core.specs.Scanning.{is_nil}
use Rattle.dav_xml_core.proofs.BindingLemmas.{binding, lacks, bound_before, not_true}
use Rattle.dav_xml_core.proofs.BuilderLemmas.{after_end}
use Rattle.dav_xml_core.proofs.EachLemmas.{Each, each_append, each_split, each_take}
use Rattle.dav_xml_core.proofs.ElementLemmas.{bind_some, when_some, after, last_is}
use Rattle.dav_xml_core.proofs.WalkLemmas.{with_text, by_pieces}

-- ---- bindings

record IsLawful (b : Binding) : Type 0 where
  xml : bytes_eq b.prefix (codes "xml") ≡ true → b.namespace ≡ xml_namespace
  xmlns : bytes_eq b.prefix (codes "xmlns") ≡ false

-- what is always bound, and what may be bound behind it
record Always (bindings : List Binding) : Type 0 where
  more : List Binding
  is : bindings ≡ always_bound ++ more
  each : Each IsLawful more

abbrev some_text : List ℕ → Option (List ℕ)
some_text text = Some text

xml_from : (more : List Binding) → Each IsLawful more → bound_from (codes "xml") (Some xml_namespace) more ≡ Some xml_namespace
xml_from [] h = refl
xml_from (b ∷ more) h = ap (λ (o : Option (List ℕ)). bound_from (codes "xml") o more) (go (bytes_eq b.prefix (codes "xml")) refl) ∙ xml_from more h.1
  where
    go : (t : Bool) → bytes_eq b.prefix (codes "xml") ≡ t → cond t (Some b.namespace) (Some xml_namespace) ≡ Some xml_namespace
    go true e = ap some_text (h.0.xml e)
    go false e = refl

xmlns_lacks : (more : List Binding) → Each IsLawful more → lacks (codes "xmlns") more ≡ true
xmlns_lacks [] h = refl
xmlns_lacks (b ∷ more) h = rw (h.0.xmlns, xmlns_lacks more h.1) refl

xml_bound : (bindings : List Binding) → Always bindings → bound_namespace (codes "xml") bindings ≡ Some xml_namespace
unfolding bound_namespace
xml_bound bindings always = ap (bound_namespace (codes "xml")) always.is ∙ xml_from always.more always.each

xmlns_bound : (bindings : List Binding) → Always bindings → bound_namespace (codes "xmlns") bindings ≡ Some xmlns_namespace
unfolding bound_namespace
xmlns_bound bindings always = ap (bound_namespace (codes "xmlns")) always.is ∙ bound_before (codes "xmlns") always_bound always.more (xmlns_lacks always.more always.each)

may_lawful : (prefix namespace : List ℕ) → may_bind prefix namespace ≡ true → IsLawful (binding prefix namespace)
unfolding may_bind
may_lawful prefix namespace h = go (bytes_eq prefix (codes "xml")) refl h
  where
    go : (b : Bool) → bytes_eq prefix (codes "xml") ≡ b
        → cond b (bytes_eq namespace xml_namespace) (not (bytes_eq prefix (codes "xmlns")) && not (bytes_eq namespace xml_namespace) && not (bytes_eq namespace xmlns_namespace) && (is_nil prefix || not (is_nil namespace))) ≡ true
        → IsLawful (binding prefix namespace)
    go true is e = record {
      xml = λ _. (bytes_eq-Decides namespace xml_namespace).0 e;
      xmlns = ap (λ (p : List ℕ). bytes_eq p (codes "xmlns")) ((bytes_eq-Decides prefix (codes "xml")).0 is);
    }
    go false is e =
        let p = and_parts (not (bytes_eq prefix (codes "xmlns")) && not (bytes_eq namespace xml_namespace) && not (bytes_eq namespace xmlns_namespace)) (is_nil prefix || not (is_nil namespace)) e in
        let q = and_parts (not (bytes_eq prefix (codes "xmlns")) && not (bytes_eq namespace xml_namespace)) (not (bytes_eq namespace xmlns_namespace)) p.0 in
        let r = and_parts (not (bytes_eq prefix (codes "xmlns"))) (not (bytes_eq namespace xml_namespace)) q.0 in
        record { xml = λ f. absurd (false≢true (sym is ∙ f)); xmlns = not_true (bytes_eq prefix (codes "xmlns")) r.0 }

one_lawful : (prefix raw : List ℕ) (found : Binding) → declared_binding prefix raw ≡ Some found → IsLawful found
unfolding declared_binding
one_lawful prefix raw found h =
    let a = bind_some (value_of raw) _ found h in
    let w = when_some (may_bind prefix (encode_utf8_all a.0)) (binding prefix (encode_utf8_all a.0)) found a.2 in
    subst IsLawful w.1 (may_lawful prefix (encode_utf8_all a.0) w.0)

pushed : (around : List Binding) (b : Binding) → Always around → IsLawful b → Always (around ++ b ∷ [])
pushed around b always h = record {
  more = always.more ++ b ∷ [];
  is = ap (λ (l : List Binding). l ++ b ∷ []) always.is ∙ append_assoc always_bound always.more (b ∷ []);
  each = each_append IsLawful always.more (b ∷ []) always.each (h, tt);
}

with_one : (around bindings : List Binding) (raw : RawAttribute) → Always around → with_binding around raw ≡ Some bindings → Always bindings
unfolding with_binding
with_one around bindings raw always h = go (declares raw.name) h
  where
    go : (o : Option (List ℕ)) → choose o (λ prefix. declared_binding prefix raw.raw >>= λ b. Some (around ++ b ∷ [])) (Some around) ≡ Some bindings → Always bindings
    go (Some prefix) e =
        let a = bind_some (declared_binding prefix raw.raw) _ bindings e in
        subst Always (same_Some (around ++ a.0 ∷ []) bindings a.2) (pushed around a.0 always (one_lawful prefix raw.raw a.0 a.1))
    go None e = subst Always (same_Some around bindings e) always

with_all : (raws : List RawAttribute) (around bindings : List Binding) → Always around → with_bindings around raws ≡ Some bindings → Always bindings
with_all [] around bindings always h = subst Always (same_Some around bindings h) always
with_all (raw ∷ raws) around bindings always h =
    let a = bind_some (with_binding around raw) _ bindings h in
    with_all raws a.0 bindings (with_one around a.0 raw always a.1) a.2

start_always : (around : List Binding) (name : QName) (raws : List RawAttribute) (start : Started) → Always around → started_of around name raws ≡ Some start → Always start.bindings
unfolding started_of
start_always around name raws start always h =
    let a = bind_some (with_bindings around raws) _ start h in
    let b = bind_some (element_name a.0 name) _ start a.2 in
    let d = bind_some (attribute_names a.0 raws) _ start b.2 in
    let e = bind_some (when (are_distinct d.0) d.0) _ start d.2 in
    let f = bind_some (attributes_of a.0 raws) _ start e.2 in
    subst (λ (s : Started). Always s.bindings) {x = record { bindings = a.0; name = b.0; attributes = f.0 }} (same_Some (record { bindings = a.0; name = b.0; attributes = f.0 }) start f.2) (with_all raws around a.0 always a.1)

-- ---- fronts

-- as many bindings as are always there hold around an element
abbrev IsAround : Element → Type 0
IsAround element = (k : ℕ) × (element.around ≡ suc (suc k))

record FrontAlways (front : Front) : Type 0 where
  bindings : Always front.bindings
  elements : Each IsAround front.elements

length_around : (around : List Binding) → Always around → (k : ℕ) × (length around ≡ suc (suc k))
length_around around always = (length always.more, ap length always.is)

taken : (around : ℕ) (k : ℕ) (bindings : List Binding) → around ≡ suc (suc k) → Always bindings → Always (take around bindings)
taken around k bindings e always = record {
  more = take k always.more;
  is = ap (λ (n : ℕ). take n bindings) e ∙ ap (take (suc (suc k))) always.is;
  each = each_take IsLawful k always.more always.each;
}

by_start : (front more : Front) (name : QName) (raws : List RawAttribute) → FrontAlways front → with_start_tag front name raws ≡ Some more → FrontAlways more
unfolding with_start_tag
by_start front more name raws always h =
    let allowed = not (is_empty front.elements) || is_empty front.nodes in
    let a = bind_some (when allowed front.bindings) _ more h in
    let w = when_some allowed front.bindings a.0 a.1 in
    let around = subst Always w.1 always.bindings in
    let b : (start : Started) × (started_of a.0 name raws ≡ Some start) × (some (after front name a.0 start) ≡ some more) = bind_some _ _ more a.2 in
    subst FrontAlways (same_Some (after front name a.0 b.0) more b.2) (record {
      bindings = start_always a.0 name raws b.0 around b.1;
      elements = each_append IsAround front.elements (record { name = name; around = length a.0 } ∷ []) always.elements (length_around a.0 around, tt);
    })
  where
    some : Front → Option Front
    some f = Some f

by_end : (front more : Front) (name : QName) → FrontAlways front → with_end_tag front name ≡ Some more → FrontAlways more
unfolding with_end_tag
by_end front more name always h =
    let a = bind_some (last_of front.elements) _ more h in
    let w = when_some (same_qname a.0.1.name name) (after_end front a.0.0 a.0.1.around) more a.2 in
    let all = each_split IsAround a.0.0 (a.0.1 ∷ []) (subst (λ (e : List Element). Each IsAround e) (last_is front.elements a.0.0 a.0.1 a.1) always.elements) in
    subst FrontAlways w.1 (record { bindings = taken a.0.1.around all.1.0.0 front.bindings all.1.0.1 always.bindings; elements = all.0 })

by_text : (front : Front) (text : List ℕ) → Unit {0} → FrontAlways front → FrontAlways (with_text front text)
by_text front text u always = record { bindings = always.bindings; elements = always.elements }

any_pieces : (pieces : List Piece) → Each (λ (p : Piece). Unit {0}) pieces
any_pieces [] = tt
any_pieces (piece ∷ pieces) = (tt, any_pieces pieces)

first_always : FrontAlways nothing
first_always = record { bindings = record { more = []; is = refl; each = tt }; elements = tt }

pub always_bound_so : (pieces : List Piece) (front : Front) → with_pieces nothing pieces ≡ Some front
    → (bound_namespace (codes "xml") front.bindings ≡ Some xml_namespace) × (bound_namespace (codes "xmlns") front.bindings ≡ Some xmlns_namespace)
always_bound_so pieces front h =
    let always : FrontAlways front =
    by_pieces FrontAlways (λ (p : Piece). Unit {0}) (λ (text : List ℕ). Unit {0}) (λ front more name raws empty u always h. by_start front more name raws always h) by_end by_text (λ raw text u h. tt) (λ raw u. tt)
    pieces nothing front (any_pieces pieces) first_always h in
    (xml_bound front.bindings always.bindings, xmlns_bound front.bindings always.bindings)
