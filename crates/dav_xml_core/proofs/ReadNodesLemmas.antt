-- The nodes that are read could have been read: they are those of characters.
use Rattle.std.proofs.Common.{◌≡◌, refl, sym, ap, subst, ◌∙◌, ℕ, suc, ◌+◌, ◌<◌, ◌≤◌, ◌^◌, arith, Bool, true, false, ◌&&◌, ◌||◌, not, cond, eqb, List, [], ◌∷◌, ◌++◌, map, take, length, Option, None, Some, append_assoc, append-nil}
use Rattle.std.specs.Prelude.{codes, nat_lt}
use Rattle.std.specs.List.{list_all}
use Rattle.std.proofs.lemmas.Bool.{lt-ltb}
use Rattle.std.proofs.lemmas.List.{length-map, map-append}
use Rattle.std.proofs.lemmas.List.Folds.{list_all-append}
use Rattle.std.proofs.lemmas.Option.{none-some, same_Some}
use Rattle.dav_xml_core.specs.Characters.{is_char, is_white, characters}
use Rattle.dav_xml_core.specs.Declarations.{declaration_at, fields_at, are_fields, after_declaration}
use Rattle.dav_xml_core.specs.Documents.{Name, Attribute, Node, Start, Text, End, is_element}
use Rattle.dav_xml_core.specs.Markup.{RawAttribute, Piece, attribute_at, piece_at}
use Rattle.dav_xml_core.specs.Names.{QName, is_ncname}
use Rattle.dav_xml_core.specs.Namespaces.{Binding, Started, started_of}
use Rattle.dav_xml_core.specs.Optional.{◌>>=◌, when, choose}
use Rattle.dav_xml_core.specs.ReadableDocuments.{node_bytes, is_node, has_room, are_apart, CouldBeRead}
use Rattle.dav_xml_core.specs.Reading.{Front, nothing, is_empty, last_of, text_nodes, same_qname, with_start_tag, with_end_tag, with_pieces, finished_nodes, nodes_of, without_mark, content_nodes, document_of}
use Rattle.dav_xml_core.specs.Readable.{attribute_bytes}
use Rattle.dav_xml_core.specs.Scanning.{begins, skip_white, after_mark, is_nil}
use Rattle.dav_xml_core.specs.Sequences.{sequence, at_end}
use Rattle.dav_xml_core.proofs.EachLemmas.{Each, each_take}
use Rattle.dav_xml_core.proofs.ElementLemmas.{bind_some, when_some, after, one_element}
use Rattle.dav_xml_core.proofs.ProductionLemmas.{Fine, PieceIs, IsFound, many_found, first_passes, others_pass, white, marked, attribute_found, piece_found}
use Rattle.dav_xml_core.proofs.ReadNamesLemmas.{IsBinding, AreBindings, AreFound, always_are, start_is}
use Rattle.dav_xml_core.proofs.ReadValuesLemmas.{content_chars, characters_read}
use Rattle.dav_xml_core.proofs.WalkLemmas.{with_text, by_pieces}
use Rattle.dav_xml_core.proofs.WrittenLemmas.{element_bytes}

-- ---- a front

-- the nodes so far are those of characters, and so is the text since the last of them
record IsRead (nodes : List Node) (text : List ℕ) (bindings : List Binding) : Type 0 where
  characters : List Node
  bytes : nodes ≡ map node_bytes characters
  each : list_all is_node characters ≡ true
  room : list_all has_room characters ≡ true
  apart : (more : List Node) → are_apart false (characters ++ more) ≡ are_apart false more
  said : list_all is_char text ≡ true
  named : AreBindings bindings

abbrev FrontIs : Front → Type 0
FrontIs front = IsRead front.nodes front.text front.bindings

abbrev text_chars : List ℕ → List Node
text_chars text = cond (is_nil text) [] (Text text ∷ [])

-- no text, so that one may stand right before it and right behind it
Divides : Node → Type 0
Divides node = (after_text : Bool) (more : List Node) → are_apart after_text (node ∷ more) ≡ are_apart false more

bytes_of : (text : List ℕ) → text_nodes text ≡ map node_bytes (text_chars text)
bytes_of [] = refl
bytes_of (c ∷ text) = refl

text_each : (text : List ℕ) → list_all is_char text ≡ true → list_all is_node (text_chars text) ≡ true
text_each [] h = refl
text_each (c ∷ text) h = rw h refl

text_room : (text : List ℕ) → list_all has_room (text_chars text) ≡ true
text_room [] = refl
text_room (c ∷ text) = refl

text_apart : (text : List ℕ) (node : Node) (more : List Node) → Divides node → are_apart false (text_chars text ++ node ∷ more) ≡ are_apart false more
unfolding Divides
text_apart [] node more d = d false more
text_apart (c ∷ text) node more d = d true more

-- one more node behind the text
pushed : (nodes : List Node) (text : List ℕ) (bindings inside : List Binding) (node found : Node) → IsRead nodes text bindings → found ≡ node_bytes node → is_node node ≡ true → has_room node ≡ true → Divides node
    → AreBindings inside → IsRead (nodes ++ text_nodes text ++ found ∷ []) [] inside
pushed nodes text bindings inside node found read is h room d are =
    let all = read.characters ++ text_chars text ++ node ∷ [] in
    record {
      characters = all;
      bytes = ap (λ (n : List Node). n ++ text_nodes text ++ found ∷ []) read.bytes
          ∙ ap (λ (n : List Node). map node_bytes read.characters ++ n ++ found ∷ []) (bytes_of text)
          ∙ ap (λ (n : Node). map node_bytes read.characters ++ map node_bytes (text_chars text) ++ n ∷ []) is
          ∙ ap (λ (n : List Node). n ++ node_bytes node ∷ []) (sym (map-append node_bytes read.characters (text_chars text)))
          ∙ sym (map-append node_bytes (read.characters ++ text_chars text) (node ∷ []));
      each = list_all-append is_node (read.characters ++ text_chars text) (node ∷ [])
          ∙ ap (λ b. b && list_all is_node (node ∷ [])) (list_all-append is_node read.characters (text_chars text))
          ∙ rw (read.each, text_each text read.said, h) refl;
      room = list_all-append has_room (read.characters ++ text_chars text) (node ∷ [])
          ∙ ap (λ b. b && list_all has_room (node ∷ [])) (list_all-append has_room read.characters (text_chars text))
          ∙ rw (read.room, text_room text, room) refl;
      apart = λ more.
          ap (are_apart false) (append_assoc (read.characters ++ text_chars text) (node ∷ []) more ∙ append_assoc read.characters (text_chars text) (node ∷ more))
          ∙ read.apart (text_chars text ++ node ∷ more) ∙ text_apart text node more d;
      said = refl;
      named = are;
    }

moved : (front more : Front) → front ≡ more → FrontIs front → FrontIs more
moved front more e read = subst FrontIs e read

same_start : (name other : Name) (attributes others : List Attribute) → name ≡ other → attributes ≡ others → Start name attributes ≡ Start other others
same_start name other attributes others e f = ap (λ (n : Name). Start n attributes) e ∙ ap (λ (a : List Attribute). Start other a) f

start_divides : (name : Name) (attributes : List Attribute) → Divides (Start name attributes)
unfolding Divides
start_divides name attributes after_text more = refl

end_divides : Divides End
unfolding Divides
end_divides after_text more = refl

-- ---- one more piece

module _ (n : ℕ) (small : n + 1 < 2 ^ 64) where
  by_start : (front more : Front) (name : QName) (raws : List RawAttribute) → FrontIs front → is_ncname name.local ≡ true → AreFound n raws → length raws ≤ n
      → with_start_tag front name raws ≡ Some more → FrontIs more
  unfolding with_start_tag
  by_start front more name raws read local found few h =
      let allowed = not (is_empty front.elements) || is_empty front.nodes in
      let a = bind_some (when allowed front.bindings) _ more h in
      let w = when_some allowed front.bindings a.0 a.1 in
      let b : (start : Started) × (started_of a.0 name raws ≡ Some start) × (some (after front name a.0 start) ≡ some more) = bind_some _ _ more a.2 in
      let is = start_is n a.0 name raws b.0 (omega (arith, small)) (subst AreBindings w.1 read.named) local found few b.1 in
      moved _ more (same_Some (after front name a.0 b.0) more b.2)
      (pushed front.nodes front.text front.bindings b.0.bindings (Start is.name is.attributes) (Start b.0.name b.0.attributes) read (same_start _ _ _ _ is.name_is is.attributes_are) is.is
      (lt-ltb (length is.attributes + 1) (2 ^ 64) (omega (arith, is.few, small)))
      (start_divides is.name is.attributes) is.bindings)
    where
      some : Front → Option Front
      some f = Some f

  by_end : (front more : Front) (name : QName) → FrontIs front → with_end_tag front name ≡ Some more → FrontIs more
  unfolding with_end_tag
  by_end front more name read h =
      let a = bind_some (last_of front.elements) _ more h in
      let same = when_some (same_qname a.0.1.name name) _ more a.2 in
      moved _ more same.1 (pushed front.nodes front.text front.bindings (take a.0.1.around front.bindings) End End read refl refl refl end_divides (each_take IsBinding a.0.1.around front.bindings read.named))

  by_text : (front : Front) (text : List ℕ) → list_all is_char text ≡ true → FrontIs front → FrontIs (with_text front text)
  by_text front text h read = record {
    characters = read.characters;
    bytes = read.bytes;
    each = read.each;
    room = read.room;
    apart = read.apart;
    said = list_all-append is_char front.text text ∙ rw (read.said, h) refl;
    named = read.named;
  }

  all_pieces : (pieces : List Piece) (front more : Front) → Each (PieceIs is_char n) pieces → FrontIs front → with_pieces front pieces ≡ Some more → FrontIs more
  unfolding PieceIs
  all_pieces =
      by_pieces FrontIs (PieceIs is_char n) (λ (text : List ℕ). list_all is_char text ≡ true) (λ front more name raws empty is read h. by_start front more name raws read is.0 is.1 is.2 h) by_end by_text
      (λ raw text is h. content_chars raw text is h) (λ raw is. is)

  -- ---- the whole

  one_piece : (text : List ℕ) (found : Piece × List ℕ) → Fine is_char (suc n) text → piece_at text ≡ Some found → PieceIs is_char n found.0 × Fine is_char (suc n) found.1
  unfolding piece_at
  one_piece [] found f h = absurd (none-some found h)
  one_piece (c ∷ text) found f h =
      let others = others_pass is_char (suc n) c text f in
      let at = piece_found is_char n c text found (first_passes is_char (suc n) c text f) (record { chars = others.chars; short = omega (arith, f.short) }) h in
      (at.0, record { chars = at.1.chars; short = omega (arith, at.1.short) })

  pieces_are : (text : List ℕ) (found : List Piece × List ℕ) → Fine is_char (suc n) text → sequence at_end piece_at text ≡ Some found → Each (PieceIs is_char n) found.0
  unfolding sequence
  pieces_are text found f h =
      (many_found at_end piece_at (Fine is_char (suc n)) (λ (x : List ℕ). Unit {0}) (PieceIs is_char n) (λ t e g i. tt) one_piece (suc (length text)) text found f h).0

  nothing_is : FrontIs nothing
  nothing_is = record { characters = []; bytes = refl; each = refl; room = refl; apart = λ more. refl; said = refl; named = always_are }

  nodes_are : (text : List ℕ) (nodes : List Node) → Fine is_char (suc n) text → nodes_of text ≡ Some nodes → IsRead nodes [] []
  unfolding nodes_of
  nodes_are text nodes f h =
      let a : (pieces : List Piece) × ((sequence at_end piece_at text >>= λ found. Some found.0) ≡ Some pieces) × ((with_pieces nothing pieces >>= finished_nodes) ≡ Some nodes) = bind_some _ _ nodes h in
      let p = bind_some (sequence at_end piece_at text) _ a.0 a.1 in
      let each = subst (λ (x : List Piece). Each (PieceIs is_char n) x) (same_Some p.0.0 a.0 p.2) (pieces_are text p.0 f p.1) in
      let b = bind_some (with_pieces nothing a.0) finished_nodes nodes a.2 in
      let w = when_some (is_empty b.0.elements && not (is_empty b.0.nodes)) b.0.nodes nodes b.2 in
      let read = all_pieces a.0 nothing b.0 each nothing_is b.1 in
      record { characters = read.characters; bytes = sym w.1 ∙ read.bytes; each = read.each; room = read.room; apart = read.apart; said = refl; named = tt }

  unmarked : (text : List ℕ) → Fine is_char (suc n) text → Fine is_char (suc n) (without_mark text)
  unmarked [] f = f
  unmarked (c ∷ text) f = go (eqb c 0xFEFF)
    where
      go : (b : Bool) → Fine is_char (suc n) (cond b text (c ∷ text))
      go true = others_pass is_char (suc n) c text f
      go false = f

  fields_left : (text : List ℕ) (found : List RawAttribute × List ℕ) → Fine is_char (suc n) text → fields_at text ≡ Some found → Fine is_char (suc n) found.1
  unfolding fields_at sequence
  fields_left text found f h =
      (many_found (λ rest. after_mark (codes "?>") (skip_white rest)) attribute_at (Fine is_char (suc n)) (Fine is_char (suc n)) (IsFound is_char (suc n))
      (λ rest left g i. marked is_char (suc n) (codes "?>") (skip_white rest) left (white is_char (suc n) rest g) i) (attribute_found is_char (suc n)) (suc (length text)) text found f h).2

  undeclared : (text rest : List ℕ) → Fine is_char (suc n) text → after_declaration text ≡ Some rest → Fine is_char (suc n) rest
  unfolding after_declaration declaration_at
  undeclared text rest f h = go (declaration_at text) refl h
    where
      go : (o : Option (List ℕ)) → declaration_at text ≡ o → choose o (λ behind. fields_at behind >>= λ found. when (are_fields found.0) found.1) (Some text) ≡ Some rest → Fine is_char (suc n) rest
      go (Some behind) is e =
          let d = bind_some (after_mark (codes "<?xml") text) _ behind is in
          let w = when_some (begins is_white d.0) d.0 behind d.2 in
          let g = subst (Fine is_char (suc n)) w.1 (marked is_char (suc n) (codes "<?xml") text d.0 f d.1) in
          let a = bind_some (fields_at behind) _ rest e in
          subst (Fine is_char (suc n)) (when_some (are_fields a.0.0) a.0.1 rest a.2).1 (fields_left behind a.0 g a.1)
      go None is e = subst (Fine is_char (suc n)) (same_Some text rest e) f

  document_is : (bytes : List ℕ) (nodes : List Node) → length bytes ≤ suc n → document_of bytes ≡ Some nodes → IsRead nodes [] []
  unfolding document_of content_nodes
  document_is bytes nodes short h =
      let a = bind_some (characters bytes) content_nodes nodes h in
      let b = bind_some (after_declaration (without_mark a.0)) nodes_of nodes a.2 in
      nodes_are b.0 nodes (undeclared (without_mark a.0) b.0 (unmarked a.0 (characters_read (suc n) bytes a.0 short a.1)) b.1) b.2

read_is : (bytes : List ℕ) (nodes : List Node) → length bytes < 2 ^ 64 → document_of bytes ≡ Some nodes → IsRead nodes [] []
read_is [] nodes short h = document_is 0 (omega arith) [] nodes (omega arith) h
read_is (b ∷ bytes) nodes short h = document_is (length bytes) (omega (arith, short)) (b ∷ bytes) nodes (omega arith) h

-- each document that is read could have been read, where its bytes fit memory
pub read_could : (bytes : List ℕ) (nodes : List Node) → length bytes < 2 ^ 64 → document_of bytes ≡ Some nodes → CouldBeRead nodes
read_could bytes nodes short h =
    let read = read_is bytes nodes short h in
    let one : is_element read.characters ≡ true = sym (element_bytes read.characters) ∙ ap is_element (sym read.bytes) ∙ one_element bytes nodes h in
    let apart : are_apart false read.characters ≡ true = ap (are_apart false) (sym (append-nil read.characters)) ∙ read.apart [] in
    record { characters = read.characters; bytes = read.bytes; readable = rw (one, read.each, apart) refl }

room_bytes : (nodes : List Node) → list_all has_room (map node_bytes nodes) ≡ list_all has_room nodes
room_bytes [] = refl
room_bytes (Start name attributes ∷ nodes) =
    ap (λ (k : ℕ). nat_lt (k + 1) (2 ^ 64) && list_all has_room (map node_bytes nodes)) (length-map attributes attribute_bytes)
    ∙ ap (λ b. nat_lt (length attributes + 1) (2 ^ 64) && b) (room_bytes nodes)
room_bytes (Text text ∷ nodes) = room_bytes nodes
room_bytes (End ∷ nodes) = room_bytes nodes

-- and its starts are shorter than its bytes, so one more attribute of each fits memory
pub read_room : (bytes : List ℕ) (nodes : List Node) → length bytes < 2 ^ 64 → document_of bytes ≡ Some nodes → list_all has_room nodes ≡ true
read_room bytes nodes short h =
    let read = read_is bytes nodes short h in ap (list_all has_room) read.bytes ∙ room_bytes read.characters ∙ read.room
