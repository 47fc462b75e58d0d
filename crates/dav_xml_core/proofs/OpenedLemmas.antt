-- Elements that have begun, and what is read inside them.
use Rattle.std.proofs.Common.{◌≡◌, refl, sym, ap, ◌∙◌, ℕ, true, false, ◌||◌, not, cond, List, [], ◌∷◌, ◌++◌, map, take, length, Option, None, Some, append_assoc, append-nil}
use Rattle.std.specs.Prelude.{flat_map}
use Rattle.std.specs.List.{list_all}
use Rattle.std.proofs.Math.Seq.{take-append_seam}
use Rattle.std.proofs.lemmas.Option.{same_Some}
use Rattle.std.proofs.lemmas.Slice.Eq.{bytes_eq-Decides}
use Rattle.dav_xml_core.specs.Characters.{is_white}
use Rattle.dav_xml_core.specs.Documents.{Name, Attribute, Node, Start, End}
use Rattle.dav_xml_core.specs.Markup.{RawAttribute, Piece, Tag, EndTag, Characters, piece_at}
use Rattle.dav_xml_core.specs.Names.{QName}
use Rattle.dav_xml_core.specs.Namespaces.{Binding, Started, with_binding, with_bindings, element_name, attribute_names, are_distinct, attributes_of, declared_binding, declares, started_of}
use Rattle.dav_xml_core.specs.Optional.{◌>>=◌, when, choose}
use Rattle.dav_xml_core.specs.Places.{read_from_front}
use Rattle.dav_xml_core.specs.Readable.{HoldWritten as Holds, IsReadBack, name_bytes, attribute_bytes}
use Rattle.dav_xml_core.specs.Reading.{Front, Element, is_empty, text_nodes, same_qname, with_start_tag, with_tag, content_of, with_characters, with_piece}
use Rattle.dav_xml_core.specs.Scanning.{is_nil}
use Rattle.dav_xml_core.specs.Writing.{escaped_character, start_text}
use Rattle.dav_xml_core.proofs.BuilderLemmas.{ended_with}
use Rattle.dav_xml_core.proofs.ElementLemmas.{bind_some, after}
use Rattle.dav_xml_core.proofs.EscapeLemmas.{text_again}
use Rattle.dav_xml_core.proofs.PlaceLemmas.{step_on}
use Rattle.dav_xml_core.proofs.TagLemmas.{text_piece_again}
use Rattle.dav_xml_core.proofs.WrittenLemmas.{end_text}

-- ---- the bindings inside an element extend those around it

-- the bindings begin with these
abbrev pub Extends : List Binding → List Binding → Type 0
Extends around bindings = (more : List Binding) × (bindings ≡ around ++ more)

by_one : (around bindings : List Binding) (attribute : RawAttribute) → with_binding around attribute ≡ Some bindings → Extends around bindings
unfolding with_binding
by_one around bindings attribute h = go (declares attribute.name) h
  where
    go : (o : Option (List ℕ)) → choose o (λ prefix. declared_binding prefix attribute.raw >>= λ binding. Some (around ++ binding ∷ [])) (Some around) ≡ Some bindings → Extends around bindings
    go (Some prefix) e =
        let a = bind_some (declared_binding prefix attribute.raw) _ bindings e in
        (a.0 ∷ [], sym (same_Some (around ++ a.0 ∷ []) bindings a.2))
    go None e = ([], sym (same_Some around bindings e) ∙ sym (append-nil around))

by_all : (attributes : List RawAttribute) (around bindings : List Binding) → with_bindings around attributes ≡ Some bindings → Extends around bindings
by_all [] around bindings h = ([], sym (same_Some around bindings h) ∙ sym (append-nil around))
by_all (attribute ∷ attributes) around bindings h =
    let a = bind_some (with_binding around attribute) _ bindings h in
    let one = by_one around a.0 attribute a.1 in
    let all = by_all attributes a.0 bindings a.2 in
    (one.0 ++ all.0, all.1 ∙ ap (λ (b : List Binding). b ++ all.0) one.1 ∙ append_assoc around one.0 all.0)

by_start : (around : List Binding) (name : QName) (attributes : List RawAttribute) (start : Started) → started_of around name attributes ≡ Some start → Extends around start.bindings
unfolding started_of
by_start around name attributes start h =
    let a = bind_some (with_bindings around attributes) _ start h in
    let b = bind_some (element_name a.0 name) _ start a.2 in
    let d = bind_some (attribute_names a.0 attributes) _ start b.2 in
    let e = bind_some (when (are_distinct d.0) d.0) _ start d.2 in
    let f = bind_some (attributes_of a.0 attributes) _ start e.2 in
    let all = by_all attributes around a.0 a.1 in
    (all.0, sym (ap (λ (s : Started). s.bindings) (same_Some (record { bindings = a.0; name = b.0; attributes = f.0 }) start f.2)) ∙ all.1)

-- ---- fronts

abbrev pub front_of : List Node → List ℕ → List Element → List Binding → Front
front_of nodes text elements bindings = record { nodes = nodes; text = text; elements = elements; bindings = bindings }

tagged_as : (front : Front) (name : QName) (attributes : List RawAttribute) (start : Started) → (not (is_empty front.elements) || is_empty front.nodes) ≡ true
    → started_of front.bindings name attributes ≡ Some start → with_piece front (Tag name attributes false) ≡ Some (after front name front.bindings start)
unfolding with_tag with_start_tag
tagged_as front name attributes start allowed h =
    ap (λ b. (when b front.bindings >>= λ around. started_of around name attributes >>= λ s. some (after front name around s)) >>= λ begun. some begun) allowed
    ∙ ap (λ (o : Option Started). (o >>= λ s. some (after front name front.bindings s)) >>= λ begun. some begun) h
  where
    some : Front → Option Front
    some f = Some f

text_as : (nodes : List Node) (elements : List Element) (bindings : List Binding) (text : List ℕ) → is_empty elements ≡ false
    → with_piece (front_of nodes [] elements bindings) (Characters (flat_map (escaped_character false) text)) ≡ Some (front_of nodes text elements bindings)
unfolding with_characters
text_as nodes elements bindings text h =
    ap (λ b. cond b (when (list_all is_white raw) (front_of nodes [] elements bindings)) (content_of raw >>= λ t. some (front_of nodes t elements bindings))) h
    ∙ ap (λ (o : Option (List ℕ)). o >>= λ t. some (front_of nodes t elements bindings)) (text_again text)
  where
    raw : List ℕ
    raw = flat_map (escaped_character false) text

    some : Front → Option Front
    some f = Some f

same_name : (name : QName) → same_qname name name ≡ true
same_name name = rw ((bytes_eq-Decides name.prefix name.prefix).1 refl, (bytes_eq-Decides name.local name.local).1 refl) refl

-- ---- elements that have begun

-- its name, its tag's name, and the bindings around it
pub record Opened : Type 0 where
  pub name : Name
  pub tag : QName
  pub around : List Binding

pub record IsOpen (opened : Opened) (bindings : List Binding) : Type 0 where
  pub hold : Holds bindings
  pub extends : Extends opened.around bindings
  pub ends : (rest : List ℕ) → piece_at (end_text opened.name ++ rest) ≡ Some (EndTag opened.tag, rest)

-- inside each of them, the last first, hold the bindings that are around the next, and inside the last these
abbrev pub AreOpen : List Opened → List Binding → List Binding → Type 0
AreOpen [] outer bindings = bindings ≡ outer
AreOpen (last ∷ opened) outer bindings = IsOpen last bindings × AreOpen opened outer last.around

abbrev pub names : List Opened → List Name
names opened = map (λ o. o.name) opened

abbrev pub element : Opened → Element
element opened = record { name = opened.tag; around = length opened.around }

abbrev pub elements_of : List Element → List Opened → List Element
elements_of base [] = base
elements_of base (last ∷ opened) = elements_of base opened ++ element last ∷ []

abbrev found : Piece → List ℕ → Option (Piece × List ℕ)
found piece left = Some (piece, left)

pub none_of : (text : List ℕ) → text ≡ [] → (nodes : List Node) → nodes ++ text_nodes text ≡ nodes
none_of text e nodes = ap (λ (t : List ℕ). nodes ++ text_nodes t) e ∙ append-nil nodes

pub opened_as : (around : List Binding) (first : List ℕ) (name : Name) (attributes : List Attribute) (back : IsReadBack around first name attributes)
    → IsOpen (record { name = name; tag = back.tag; around = around }) back.inside
opened_as around first name attributes back = record { hold = back.hold; extends = by_start around back.tag back.written _ back.element; ends = back.end }

-- ---- one more piece inside them

abbrev pub node_of : Name → List Attribute → Node
node_of name attributes = Start (name_bytes name) (map attribute_bytes attributes)

-- an element begins
pub start_on : (first : List ℕ) (name : Name) (attributes : List Attribute) (before : List Node) (text : List ℕ) (elements : List Element) (bindings : List Binding) (behind : List ℕ)
    → (not (is_empty elements) || is_empty before) ≡ true → (back : IsReadBack bindings first name attributes)
    → read_from_front (front_of before text elements bindings) (start_text first name attributes ++ behind)
    ≡ read_from_front (front_of (before ++ text_nodes text ++ node_of name attributes ∷ []) [] (elements ++ element (record { name = name; tag = back.tag; around = bindings }) ∷ []) back.inside) behind
start_on first name attributes before text elements bindings behind allowed back =
    step_on (front_of before text elements bindings) _ (start_text first name attributes ++ behind) behind (Tag back.tag back.written false) (back.start behind)
    (tagged_as (front_of before text elements bindings) back.tag back.written _ allowed back.element)

-- text, behind which stands a tag
pub text_on : (before : List Node) (elements : List Element) (bindings : List Binding) (text behind after : List ℕ) → is_empty elements ≡ false → is_nil text ≡ false → behind ≡ 60 ∷ after
    → read_from_front (front_of before [] elements bindings) (flat_map (escaped_character false) text ++ behind) ≡ read_from_front (front_of before text elements bindings) behind
text_on before elements bindings text behind after some nonempty next =
    step_on (front_of before [] elements bindings) (front_of before text elements bindings) (raw ++ behind) behind (Characters raw)
    (ap (λ (t : List ℕ). piece_at (raw ++ t)) next ∙ text_piece_again text after nonempty ∙ ap (λ (t : List ℕ). found (Characters raw) t) (sym next))
    (text_as before elements bindings text some)
  where
    raw : List ℕ
    raw = flat_map (escaped_character false) text

-- an element ends
pub end_on : (last : Opened) (before : List Node) (text : List ℕ) (elements : List Element) (bindings : List Binding) (behind : List ℕ) → IsOpen last bindings
    → read_from_front (front_of before text (elements ++ element last ∷ []) bindings) (end_text last.name ++ behind)
    ≡ read_from_front (front_of (before ++ text_nodes text ++ End ∷ []) [] elements last.around) behind
end_on last before text elements bindings behind is =
    let front = front_of before text (elements ++ element last ∷ []) bindings in
    let left : take (length last.around) bindings ≡ last.around = ap (take (length last.around)) is.extends.1 ∙ take-append_seam last.around is.extends.0 in
    step_on front (front_of (before ++ text_nodes text ++ End ∷ []) [] elements (take (length last.around) bindings)) (end_text last.name ++ behind) behind (EndTag last.tag) (is.ends behind)
    (ended_with front last.tag elements (element last) refl (same_name last.tag))
    ∙ ap (λ (b : List Binding). read_from_front (front_of (before ++ text_nodes text ++ End ∷ []) [] elements b) behind) left
