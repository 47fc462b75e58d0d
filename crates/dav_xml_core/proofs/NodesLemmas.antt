-- The text that is written for an element is read as its nodes, and so are the bytes of a document.
use Rattle.std.proofs.Common.{◌≡◌, refl, sym, ap, ◌∙◌, ℕ, suc, arith, Bool, true, false, ◌&&◌, ◌||◌, not, cond, nat_eq, List, [], ◌∷◌, ◌++◌, map, drop, length, Option, Some, append_assoc, append-nil}
use Rattle.std.specs.Prelude.{codes, flat_map, encode_utf8_all}
use Rattle.std.specs.List.{list_all, starts_with}
use Rattle.std.proofs.lemmas.Bool.{and_parts, false≢true}
use Rattle.std.proofs.lemmas.Cmp.{nat_eq_equiv}
use Rattle.std.proofs.lemmas.List.{map-append}
use Rattle.std.proofs.lemmas.List.Folds.{list_all-append}
use Rattle.dav_xml_core.specs.Characters.{characters, is_char, is_white}
use Rattle.dav_xml_core.specs.Declarations.{declaration_at, fields_at, are_fields, after_declaration}
use Rattle.dav_xml_core.specs.Documents.{Name, Attribute, Node, Start, Text, End, closes, is_element}
use Rattle.dav_xml_core.specs.Names.{is_name_start}
use Rattle.dav_xml_core.specs.Namespaces.{Binding, always_bound, bound_namespace, xml_namespace, xmlns_namespace}
use Rattle.dav_xml_core.specs.Optional.{◌>>=◌, when, choose}
use Rattle.dav_xml_core.specs.Parts.{Part, Made, Kept, nodes_in, with_parts, written_parts, part_bytes, is_part, are_parts, PartsCouldBeRead}
use Rattle.dav_xml_core.specs.Places.{read_from_front, may_begin, with_element}
use Rattle.dav_xml_core.specs.Readable.{IsReadBack, is_start}
use Rattle.dav_xml_core.specs.ReadableDocuments.{node_bytes, is_node, are_apart, is_readable, CouldBeRead}
use Rattle.dav_xml_core.specs.Reading.{Front, Element, nothing, is_empty, text_nodes, finished_nodes, nodes_of, content_nodes, document_of}
use Rattle.dav_xml_core.specs.Scanning.{begins, is_nil}
use Rattle.dav_xml_core.specs.Sequences.{many, sequence}
use Rattle.dav_xml_core.specs.Writing.{Writing, escaped_character, declaration_bytes, attributes_text, element_prefix, start_text, in_document, alone, new_writing, document_bytes, written_alone}
use Rattle.dav_xml_core.proofs.ElementLemmas.{some_pushed}
use Rattle.dav_xml_core.proofs.AroundLemmas.{characters_around}
use Rattle.dav_xml_core.proofs.BindingLemmas.{not_true}
use Rattle.dav_xml_core.proofs.BytesLemmas.{is_kept}
use Rattle.dav_xml_core.proofs.InsideLemmas.{EachKept, made, nodes_made, with_made, bytes_made, nodes_bytes, part_made, each_made, each_kept, element_closes, element_apart, not_outside}
use Rattle.dav_xml_core.proofs.OpenedLemmas.{Opened, AreOpen, front_of, names, element, elements_of, none_of, opened_as, node_of, start_on, text_on, end_on}
use Rattle.dav_xml_core.proofs.PlaceLemmas.{whole_document}
use Rattle.dav_xml_core.proofs.StartLemmas.{is_nil_is}
use Rattle.dav_xml_core.proofs.StartTextLemmas.{read_back_first, read_back_alone, read_back_inside, tag_name_is, prefix_is, name_local}
use Rattle.dav_xml_core.proofs.TagBytesLemmas.{whole, lone, read_as}
use Rattle.dav_xml_core.proofs.TagLemmas.{spelled_starts, differs}
use Rattle.dav_xml_core.proofs.WrittenLemmas.{SpellsAlone, IsOne, begun, end_text, text_of, written_is, start_name, is_one, whole_spells}

-- ---- the parts of an element

-- an element that is written to stand alone is read as it is wherever one may begin
record ReadsAlone (nodes : List Node) : Type 0 where
  read : (front : Front) (rest : List ℕ) → may_begin front ≡ true → bound_namespace (codes "xml") front.bindings ≡ Some xml_namespace → bound_namespace (codes "xmlns") front.bindings ≡ Some xmlns_namespace
      → read_from_front front (written_alone nodes ++ rest) ≡ read_from_front (with_element front (map node_bytes nodes)) rest
  tag : (after : List ℕ) × (written_alone nodes ≡ 60 ∷ after)

one_of : (text : List ℕ) → is_nil text ≡ false → text_nodes text ≡ Text (encode_utf8_all text) ∷ []
one_of text h = ap (λ b. cond b [] (Text (encode_utf8_all text) ∷ [])) h

not_not : (b : Bool) → not (not b) ≡ true → b ≡ true
not_not true h = refl
not_not false h = h

-- the text inside an element goes on with a tag
tag_next : (parts : List Part) (last : Name) (others : List Name) (n : ℕ) (rest : List ℕ) → closes (suc n) (nodes_in parts) ≡ true → are_apart true (nodes_in parts) ≡ true
    → EachKept ReadsAlone parts → (after : List ℕ) × (text_of (last ∷ others) parts ++ rest ≡ 60 ∷ after)
unfolding start_text
tag_next [] last others n rest h apart each = absurd (false≢true h)
tag_next (Made (Start name attributes) ∷ parts) last others n rest h apart each = (_, refl)
tag_next (Made (Text text) ∷ parts) last others n rest h apart each = absurd (false≢true apart)
tag_next (Made End ∷ parts) last others n rest h apart each = (_, refl)
tag_next (Kept nodes ∷ parts) last others n rest h apart each = (_, ap (λ (t : List ℕ). (t ++ text_of (last ∷ others) parts) ++ rest) each.0.tag.1)

rejoined : (start more last : List Node) → (start ++ more) ++ [] ++ last ≡ start ++ (more ++ last)
rejoined start more last = ap (λ (n : List Node). n ++ last) (append-nil (start ++ more)) ∙ append_assoc start more last

-- what is read at the parts inside elements that have begun, is what is read behind them
inside_on : (parts : List Part) (opened : List Opened) (base : List Element) (outer bindings : List Binding) (before : List Node) (text rest : List ℕ)
    → AreOpen opened outer bindings → closes (length opened) (nodes_in parts) ≡ true → list_all is_node (nodes_in parts) ≡ true → are_apart (not (is_nil text)) (nodes_in parts) ≡ true
    → list_all is_part parts ≡ true → EachKept ReadsAlone parts → (length opened ≡ 0 → text ≡ [])
    → read_from_front (front_of before text (elements_of base opened) bindings) (text_of (names opened) parts ++ rest)
    ≡ read_from_front (front_of (before ++ text_nodes text ++ map node_bytes (nodes_in parts)) [] base outer) rest
inside_on [] [] base outer bindings before text rest is h nodes apart are each over =
    ap (λ (t : List ℕ). read_from_front (front_of before t base bindings) rest) (over refl)
    ∙ ap (λ (b : List Binding). read_from_front (front_of before [] base b) rest) is
    ∙ ap (λ (n : List Node). read_from_front (front_of n [] base outer) rest) (sym (append-nil (before ++ text_nodes text) ∙ none_of text (over refl) before))
inside_on [] (last ∷ opened) base outer bindings before text rest is h nodes apart are each over = absurd (false≢true h)
inside_on (Made node ∷ parts) [] base outer bindings before text rest is h nodes apart are each over = absurd (false≢true h)
inside_on (Kept inner ∷ parts) [] base outer bindings before text rest is h nodes apart are each over =
    absurd (not_outside inner (nodes_in parts) (and_parts (is_element inner) (list_all is_part parts) are).0 h)
inside_on (Made (Start name attributes) ∷ parts) (last ∷ opened) base outer bindings before text rest is h nodes apart are each over =
    let p = and_parts (is_start name attributes) (list_all is_node (nodes_in parts)) nodes in
    let back = read_back_inside bindings name attributes is.0.hold p.0 in
    let all = last ∷ opened in
    let elements = elements_of base all in
    let new : Opened = record { name = name; tag = back.tag; around = bindings } in
    let node = node_of name attributes in
    let behind = text_of (name ∷ names all) parts in
    ap (read_from_front (front_of before text elements bindings)) (append_assoc (start_text [] name attributes) behind rest)
    ∙ start_on [] name attributes before text elements bindings (behind ++ rest) (ap (λ b. not b || is_empty before) (some_pushed (elements_of base opened) (element last))) back
    ∙ inside_on parts (new ∷ all) base outer back.inside (before ++ text_nodes text ++ node ∷ []) [] rest (opened_as bindings [] name attributes back, is) h p.1 apart are each (λ e. absurd (omega arith))
    ∙ ap (λ (n : List Node). read_from_front (front_of n [] base outer) rest) (rejoined (before ++ text_nodes text) (node ∷ []) (map node_bytes (nodes_in parts)))
inside_on (Made (Text more) ∷ parts) (last ∷ opened) base outer bindings before text rest is h nodes apart are each over =
    let p = and_parts (is_node (Text more)) (list_all is_node (nodes_in parts)) nodes in
    let some = not_true (is_nil more) (and_parts (not (is_nil more)) (list_all is_char more) p.0).0 in
    let r = and_parts (not (not (is_nil text))) (are_apart true (nodes_in parts)) apart in
    let none = is_nil_is text (not_not (is_nil text) r.0) in
    let all = last ∷ opened in
    let elements = elements_of base all in
    let raw = flat_map (escaped_character false) more in
    let behind = text_of (names all) parts in
    let next = tag_next parts last.name (names opened) (length opened) rest h r.1 each in
    ap (λ (t : List ℕ). read_from_front (front_of before t elements bindings) ((raw ++ behind) ++ rest)) none
    ∙ ap (read_from_front (front_of before [] elements bindings)) (append_assoc raw behind rest)
    ∙ text_on before elements bindings more (behind ++ rest) next.0 (some_pushed (elements_of base opened) (element last)) some next.1
    ∙ inside_on parts all base outer bindings before more rest is h p.1 (ap (λ b. are_apart (not b) (nodes_in parts)) some ∙ r.1) are each (λ e. absurd (omega arith))
    ∙ ap (λ (n : List Node). read_from_front (front_of n [] base outer) rest)
    (ap (λ (n : List Node). before ++ n ++ map node_bytes (nodes_in parts)) (one_of more some) ∙ append_assoc before (Text (encode_utf8_all more) ∷ []) (map node_bytes (nodes_in parts))
    ∙ ap (λ (n : List Node). n ++ Text (encode_utf8_all more) ∷ map node_bytes (nodes_in parts)) (sym (none_of text none before)))
inside_on (Made End ∷ parts) (last ∷ opened) base outer bindings before text rest is h nodes apart are each over =
    let behind = text_of (names opened) parts in
    ap (read_from_front (front_of before text (elements_of base (last ∷ opened)) bindings)) (append_assoc (end_text last.name) behind rest)
    ∙ end_on last before text (elements_of base opened) bindings (behind ++ rest) is.0
    ∙ inside_on parts opened base outer last.around (before ++ text_nodes text ++ End ∷ []) [] rest is.1 h nodes apart are each (λ e. refl)
    ∙ ap (λ (n : List Node). read_from_front (front_of n [] base outer) rest) (rejoined (before ++ text_nodes text) (End ∷ []) (map node_bytes (nodes_in parts)))
inside_on (Kept inner ∷ parts) (last ∷ opened) base outer bindings before text rest is h nodes apart are each over =
    let p = and_parts (is_element inner) (list_all is_part parts) are in
    let q = and_parts (list_all is_node inner) (list_all is_node (nodes_in parts)) (sym (list_all-append is_node inner (nodes_in parts)) ∙ nodes) in
    let r = element_apart inner (not (is_nil text)) (nodes_in parts) p.0 apart in
    let all = last ∷ opened in
    let elements = elements_of base all in
    let behind = text_of (names all) parts in
    let bytes = map node_bytes inner in
    ap (read_from_front (front_of before text elements bindings)) (append_assoc (written_alone inner) behind rest)
    ∙ each.0.read (front_of before text elements bindings) (behind ++ rest) (ap (λ b. not b || is_empty before) (some_pushed (elements_of base opened) (element last))) is.0.hold.xml is.0.hold.xmlns
    ∙ inside_on parts all base outer bindings (before ++ text_nodes text ++ bytes) [] rest is (sym (element_closes inner (length opened) (nodes_in parts) p.0) ∙ h) q.1 r.1 p.1 each.1 (λ e. absurd (omega arith))
    ∙ ap (λ (n : List Node). read_from_front (front_of n [] base outer) rest)
    (rejoined (before ++ text_nodes text) bytes (map node_bytes (nodes_in parts)) ∙ ap (λ (n : List Node). before ++ text_nodes text ++ n) (sym (map-append node_bytes inner (nodes_in parts))))

-- ---- an element

-- what is read at an element is what is read behind it
element_on : (front : Front) (first : List ℕ) (name : Name) (attributes : List Attribute) (parts : List Part) (rest : List ℕ) → may_begin front ≡ true
    → IsReadBack front.bindings first name attributes → IsOne name attributes parts → EachKept ReadsAlone parts
    → read_from_front front ((with_parts (new_writing first) (begun name attributes parts)).bytes ++ rest) ≡ read_from_front (with_element front (map node_bytes (Start name attributes ∷ nodes_in parts))) rest
element_on front first name attributes parts rest allowed back one each =
    let new : Opened = record { name = name; tag = back.tag; around = front.bindings } in
    let node = node_of name attributes in
    let start = front.nodes ++ text_nodes front.text in
    let behind = text_of (name ∷ []) parts in
    ap (λ (t : List ℕ). read_from_front front (t ++ rest)) (written_is first name attributes parts one.closed one.are)
    ∙ ap (read_from_front front) (append_assoc (start_text first name attributes) behind rest)
    ∙ start_on first name attributes front.nodes front.text front.elements front.bindings (behind ++ rest) allowed back
    ∙ inside_on parts (new ∷ []) front.elements front.bindings back.inside (start ++ node ∷ []) [] rest (opened_as front.bindings first name attributes back, refl) one.closed one.each one.apart one.are each
    (λ e. absurd (omega arith))
    ∙ ap (λ (n : List Node). read_from_front (front_of n [] front.elements front.bindings) rest) (rejoined start (node ∷ []) (map node_bytes (nodes_in parts)))

alone_is : (nodes : List Node) → written_alone nodes ≡ (with_parts (new_writing alone) (made nodes)).bytes
unfolding written_alone
alone_is nodes = sym (ap (λ (w : Writing). w.bytes) (with_made nodes (new_writing alone)))

-- a readable element is not empty, and begins with its start
one_made : (name : Name) (attributes : List Attribute) (nodes : List Node) → is_readable (Start name attributes ∷ nodes) ≡ true → IsOne name attributes (made nodes)
one_made name attributes nodes h = is_one name attributes (made nodes) (ap (λ (n : List Node). is_readable (Start name attributes ∷ n)) (nodes_made nodes) ∙ h) (part_made nodes)

pub alone_on : (front : Front) (nodes : List Node) (rest : List ℕ) → may_begin front ≡ true → bound_namespace (codes "xml") front.bindings ≡ Some xml_namespace
    → bound_namespace (codes "xmlns") front.bindings ≡ Some xmlns_namespace → is_readable nodes ≡ true
    → read_from_front front (written_alone nodes ++ rest) ≡ read_from_front (with_element front (map node_bytes nodes)) rest
alone_on front [] rest may xml xmlns h = absurd (false≢true h)
alone_on front (Text text ∷ nodes) rest may xml xmlns h = absurd (false≢true h)
alone_on front (End ∷ nodes) rest may xml xmlns h = absurd (false≢true h)
alone_on front (Start name attributes ∷ nodes) rest may xml xmlns h =
    let one = one_made name attributes nodes h in
    ap (λ (t : List ℕ). read_from_front front (t ++ rest)) (alone_is (Start name attributes ∷ nodes))
    ∙ element_on front alone name attributes (made nodes) rest may (read_back_alone front.bindings name attributes xml xmlns one.start) one (each_made ReadsAlone nodes)
    ∙ ap (λ (n : List Node). read_from_front (with_element front (map node_bytes (Start name attributes ∷ n))) rest) (nodes_made nodes)

alone_spells : (nodes : List Node) → is_readable nodes ≡ true → SpellsAlone nodes
alone_spells [] h = absurd (false≢true h)
alone_spells (Text text ∷ nodes) h = absurd (false≢true h)
alone_spells (End ∷ nodes) h = absurd (false≢true h)
alone_spells (Start name attributes ∷ nodes) h =
    let all = Start name attributes ∷ nodes in
    let s = whole_spells alone name attributes (made nodes) lone (one_made name attributes nodes h) (each_made SpellsAlone nodes) in
    let bytes = alone_is (map node_bytes all) ∙ ap (λ (p : List Part). (with_parts (new_writing alone) p).bytes) (sym (bytes_made all)) in
    record { is = bytes ∙ s.is ∙ ap encode_utf8_all (sym (alone_is all)); kept = ap (list_all is_kept) (alone_is all) ∙ s.kept }

alone_tag : (nodes : List Node) → is_readable nodes ≡ true → (after : List ℕ) × (written_alone nodes ≡ 60 ∷ after)
unfolding start_text
alone_tag [] h = absurd (false≢true h)
alone_tag (Text text ∷ nodes) h = absurd (false≢true h)
alone_tag (End ∷ nodes) h = absurd (false≢true h)
alone_tag (Start name attributes ∷ nodes) h =
    let one = one_made name attributes nodes h in
    (_, alone_is (Start name attributes ∷ nodes) ∙ written_is alone name attributes (made nodes) one.closed one.are)

-- and its bytes are read as its characters, between any others
pub alone_bytes : (before behind front rest : List ℕ) (nodes : List Node) → is_readable nodes ≡ true → characters before ≡ Some front → characters behind ≡ Some rest
    → characters (before ++ written_alone (map node_bytes nodes) ++ behind) ≡ Some (front ++ written_alone nodes ++ rest)
alone_bytes before behind front rest nodes h i j =
    let s = alone_spells nodes h in
    let tag = alone_tag nodes h in
    ap (λ (b : List ℕ). characters (before ++ b ++ behind)) s.is ∙ characters_around before behind front rest (written_alone nodes) tag.0 tag.1 s.kept i j

reads_alone : (nodes : List Node) → is_readable nodes ≡ true → ReadsAlone nodes
reads_alone nodes h = record { read = λ front rest may xml xmlns. alone_on front nodes rest may xml xmlns h; tag = alone_tag nodes h }

-- ---- a document

-- a text that begins with a tag has no declaration
pub tag_undeclared : (first : ℕ) (others : List ℕ) → is_name_start first ≡ true → after_declaration (60 ∷ first ∷ others) ≡ Some (60 ∷ first ∷ others)
unfolding after_declaration declaration_at
tag_undeclared first others h =
    ap (λ b. choose ((when (b && starts_with nat_eq others (codes "xml")) (drop (length (codes "<?xml")) text)) >>= λ rest. when (begins is_white rest) rest) (λ rest. fields_at rest >>= λ found. when (are_fields found.0) found.1) (Some text))
    (nat_eq_equiv.symm 63 first ∙ differs is_name_start first 63 h refl)
  where
    text : List ℕ
    text = 60 ∷ first ∷ others

no_declaration : (first : ℕ) (others : List ℕ) → is_name_start first ≡ true → content_nodes (60 ∷ first ∷ others) ≡ nodes_of (60 ∷ first ∷ others)
unfolding content_nodes
no_declaration first others h = ap (λ (o : Option (List ℕ)). o >>= nodes_of) (tag_undeclared first others h)

start_first : (first : List ℕ) (name : Name) (attributes : List Attribute) (rest : List ℕ) → is_start name attributes ≡ true
    → (c : ℕ) × (others : List ℕ) × (is_name_start c ≡ true) × (start_text first name attributes ++ rest ≡ 60 ∷ c ∷ others)
unfolding start_text
start_first first name attributes rest h =
    let is = start_name name attributes h in
    let s = spelled_starts _ name.local (prefix_is element_prefix name refl) (name_local name is) in
    (s.first, _, s.start, ap start_by (tag_name_is element_prefix name ([], refl) ∙ s.is))
  where
    start_by : List ℕ → List ℕ
    start_by t = (codes "<" ++ t ++ first ++ declaration_bytes element_prefix name ++ attributes_text 0 attributes ++ codes ">") ++ rest

at_last : (front : Front) → read_from_front front [] ≡ finished_nodes front
unfolding read_from_front sequence many
at_last front = refl

-- a document of parts, in characters
written_text : (first : List ℕ) (name : Name) (attributes : List Attribute) (parts : List Part) → IsReadBack always_bound first name attributes → IsOne name attributes parts → EachKept ReadsAlone parts
    → content_nodes (with_parts (new_writing first) (begun name attributes parts)).bytes ≡ Some (map node_bytes (Start name attributes ∷ nodes_in parts))
written_text first name attributes parts back one each =
    let text = (with_parts (new_writing first) (begun name attributes parts)).bytes in
    let start = start_first first name attributes (text_of (name ∷ []) parts) one.start in
    let is = written_is first name attributes parts one.closed one.are ∙ start.3 in
    ap content_nodes is ∙ no_declaration start.0 start.1 start.2 ∙ ap nodes_of (sym is)
    ∙ whole_document text ∙ ap (read_from_front nothing) (sym (append-nil text))
    ∙ element_on nothing first name attributes parts [] refl back one each
    ∙ at_last (with_element nothing (map node_bytes (Start name attributes ∷ nodes_in parts)))

parts_document : (parts : List Part) → is_readable (nodes_in parts) ≡ true → are_parts parts ≡ true → document_of (written_parts (map part_bytes parts)) ≡ Some (map node_bytes (nodes_in parts))
unfolding written_parts document_of
parts_document [] h are = absurd (false≢true are)
parts_document (Kept nodes ∷ parts) h are = absurd (false≢true are)
parts_document (Made (Text text) ∷ parts) h are = absurd (false≢true h)
parts_document (Made End ∷ parts) h are = absurd (false≢true h)
parts_document (Made (Start name attributes) ∷ parts) h are =
    let one = is_one name attributes parts h are in
    ap (λ (o : Option (List ℕ)). o >>= content_nodes) (read_as _ _ (whole_spells in_document name attributes parts whole one (each_kept SpellsAlone alone_spells parts false are one.each one.apart)))
    ∙ written_text in_document name attributes parts (read_back_first name attributes one.start) one (each_kept ReadsAlone reads_alone parts false are one.each one.apart)

abbrev some_nodes : List Node → Option (List Node)
some_nodes nodes = Some nodes

-- what is written of parts that could have been read is read as their nodes
pub parts_again : (parts : List Part) → PartsCouldBeRead parts → document_of (written_parts parts) ≡ Some (nodes_in parts)
parts_again parts could =
    ap (λ (p : List Part). document_of (written_parts p)) could.bytes ∙ parts_document could.characters could.readable could.kept
    ∙ ap some_nodes (sym (nodes_bytes could.characters) ∙ ap nodes_in (sym could.bytes))

made_parts : (nodes : List Node) → is_readable nodes ≡ true → are_parts (made nodes) ≡ true
made_parts [] h = absurd (false≢true h)
made_parts (node ∷ nodes) h = part_made nodes

-- and what is written for nodes that could have been read is read as they are
pub written_again : (nodes : List Node) → CouldBeRead nodes → document_of (document_bytes nodes) ≡ Some nodes
unfolding document_bytes written_parts
written_again nodes could =
    let parts : PartsCouldBeRead (made nodes) = record {
      characters = made could.characters;
      bytes = ap made could.bytes ∙ sym (bytes_made could.characters);
      readable = ap is_readable (nodes_made could.characters) ∙ could.readable;
      kept = made_parts could.characters could.readable;
    } in
    ap (λ (w : Writing). document_of w.bytes) (sym (with_made nodes (new_writing in_document))) ∙ parts_again (made nodes) parts ∙ ap some_nodes (nodes_made nodes)

alone_document : (nodes : List Node) → is_readable nodes ≡ true → document_of (written_alone (map node_bytes nodes)) ≡ Some (map node_bytes nodes)
unfolding document_of bound_namespace
alone_document [] h = absurd (false≢true h)
alone_document (Text text ∷ nodes) h = absurd (false≢true h)
alone_document (End ∷ nodes) h = absurd (false≢true h)
alone_document (Start name attributes ∷ nodes) h =
    let all = Start name attributes ∷ nodes in
    let one = one_made name attributes nodes h in
    ap (λ (o : Option (List ℕ)). o >>= content_nodes) (read_as _ _ (alone_spells all h)) ∙ ap content_nodes (alone_is all)
    ∙ written_text alone name attributes (made nodes) (read_back_alone always_bound name attributes refl refl one.start) one (each_made ReadsAlone nodes)
    ∙ ap (λ (n : List Node). some_nodes (map node_bytes (Start name attributes ∷ n))) (nodes_made nodes)

-- and what is written for an element that stands alone is read by itself as it is
pub alone_again : (nodes : List Node) → CouldBeRead nodes → document_of (written_alone nodes) ≡ Some nodes
alone_again nodes could =
    ap (λ (n : List Node). document_of (written_alone n)) could.bytes ∙ alone_document could.characters could.readable ∙ ap some_nodes (sym could.bytes)

-- its characters, and any behind them, begin with a tag
pub alone_first : (nodes : List Node) (rest : List ℕ) → is_readable nodes ≡ true
    → (c : ℕ) × (others : List ℕ) × (is_name_start c ≡ true) × (written_alone nodes ++ rest ≡ 60 ∷ c ∷ others)
alone_first [] rest h = absurd (false≢true h)
alone_first (Text text ∷ nodes) rest h = absurd (false≢true h)
alone_first (End ∷ nodes) rest h = absurd (false≢true h)
alone_first (Start name attributes ∷ nodes) rest h =
    let one = one_made name attributes nodes h in
    let behind = text_of (name ∷ []) (made nodes) in
    let first = start_first alone name attributes (behind ++ rest) one.start in (
      first.0,
      first.1,
      first.2,
      ap (λ (t : List ℕ). t ++ rest) (alone_is (Start name attributes ∷ nodes) ∙ written_is alone name attributes (made nodes) one.closed one.are)
          ∙ append_assoc (start_text alone name attributes) behind rest ∙ first.3,
    )
