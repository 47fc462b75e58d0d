-- The text that is written for the parts of a document, and its bytes.
use Rattle.std.proofs.Common.{◌≡◌, refl, sym, ap, ◌∙◌, ℕ, zero, suc, ◌^◌, true, false, ◌&&◌, cond, List, [], ◌∷◌, ◌++◌, map, length, append_assoc, append-nil}
use Rattle.std.specs.Prelude.{codes, flat_map, nat_lt, encode_utf8_all}
use Rattle.std.specs.Char.{encode_utf8}
use Rattle.std.specs.List.{list_all}
use Rattle.std.proofs.lemmas.Bool.{and_parts, false≢true}
use Rattle.std.proofs.lemmas.List.Folds.{list_all-append}
use Rattle.dav_xml_core.specs.Characters.{is_char}
use Rattle.dav_xml_core.specs.Documents.{Name, Attribute, Node, Start, Text, End, closes, is_element}
use Rattle.dav_xml_core.specs.Namespaces.{are_distinct}
use Rattle.dav_xml_core.specs.Parts.{Part, Made, Kept, nodes_in, with_parts, part_bytes, is_part}
use Rattle.dav_xml_core.specs.Readable.{is_name, is_attribute, is_start, name_bytes, attribute_bytes, names_bytes}
use Rattle.dav_xml_core.specs.ReadableDocuments.{node_bytes, is_node, are_apart, is_readable}
use Rattle.dav_xml_core.specs.Writing.{Writing, escaped_character, tag_name, element_prefix, start_text, new_writing, with_start, with_text, written_alone}
use Rattle.dav_xml_core.proofs.BytesLemmas.{is_kept, escaped_bytes, escaped_kept}
use Rattle.dav_xml_core.proofs.ElementLemmas.{some_pushed}
use Rattle.dav_xml_core.proofs.InsideLemmas.{EachKept, element_closes, not_outside, nodes_bytes}
use Rattle.dav_xml_core.proofs.TagBytesLemmas.{Spells, both, greater, none, tag_bytes, own, start_spells}
use Rattle.dav_xml_core.proofs.WriterLemmas.{writing, end_of}

abbrev pub tag_of : Name → List ℕ
tag_of name = tag_name element_prefix name

abbrev pub end_text : Name → List ℕ
end_text name = codes "</" ++ tag_of name ++ codes ">"

-- the text of parts inside elements of these names, the last that began first
abbrev pub text_of : List Name → List Part → List ℕ
text_of names [] = []
text_of names (Made (Start name attributes) ∷ parts) = start_text [] name attributes ++ text_of (name ∷ names) parts
text_of names (Made (Text text) ∷ parts) = flat_map (escaped_character false) text ++ text_of names parts
text_of [] (Made End ∷ parts) = text_of [] parts
text_of (name ∷ names) (Made End ∷ parts) = end_text name ++ text_of names parts
text_of names (Kept nodes ∷ parts) = written_alone nodes ++ text_of names parts

-- ---- what is written

abbrev begun_of : List Name → List (List ℕ)
begun_of [] = []
begun_of (name ∷ names) = begun_of names ++ tag_of name ∷ []

regrouped : (bytes a name b rest : List ℕ) → (bytes ++ a ++ name ++ b) ++ rest ≡ bytes ++ ((a ++ name ++ b) ++ rest)
regrouped bytes a name b rest =
    ap (λ (x : List ℕ). (x ++ b) ++ rest) (append_assoc bytes a name)
    ∙ ap (λ (x : List ℕ). x ++ rest) (append_assoc bytes (a ++ name) b)
    ∙ append_assoc bytes (a ++ name ++ b) rest

written_inside : (parts : List Part) (names : List Name) (first bytes : List ℕ) → closes (length names) (nodes_in parts) ≡ true → list_all is_part parts ≡ true
    → (with_parts (writing first bytes (begun_of names)) parts).bytes ≡ bytes ++ text_of names parts
unfolding with_start with_text
written_inside [] names first bytes h are = sym (append-nil bytes)
written_inside (Made (Start name attributes) ∷ parts) [] first bytes h are = absurd (false≢true h)
written_inside (Made (Text text) ∷ parts) [] first bytes h are = absurd (false≢true h)
written_inside (Made End ∷ parts) [] first bytes h are = absurd (false≢true h)
written_inside (Kept nodes ∷ parts) [] first bytes h are = absurd (not_outside nodes (nodes_in parts) (and_parts (is_element nodes) (list_all is_part parts) are).0 h)
written_inside (Made (Start name attributes) ∷ parts) (last ∷ names) first bytes h are =
    ap (λ b. (with_parts (writing first (bytes ++ start_text (cond b first []) name attributes) (begun_of (last ∷ names) ++ tag_of name ∷ [])) parts).bytes)
    (some_pushed (begun_of names) (tag_of last))
    ∙ written_inside parts (name ∷ last ∷ names) first (bytes ++ start_text [] name attributes) h are
    ∙ append_assoc bytes (start_text [] name attributes) (text_of (name ∷ last ∷ names) parts)
written_inside (Made (Text text) ∷ parts) (last ∷ names) first bytes h are =
    written_inside parts (last ∷ names) first (bytes ++ flat_map (escaped_character false) text) h are
    ∙ append_assoc bytes (flat_map (escaped_character false) text) (text_of (last ∷ names) parts)
written_inside (Made End ∷ parts) (last ∷ names) first bytes h are =
    ap (λ (w : Writing). (with_parts w parts).bytes) (end_of first bytes (begun_of (last ∷ names)) (begun_of names) (tag_of last) refl)
    ∙ written_inside parts names first (bytes ++ codes "</" ++ tag_of last ++ codes ">") h are
    ∙ regrouped bytes (codes "</") (tag_of last) (codes ">") (text_of names parts)
written_inside (Kept nodes ∷ parts) (last ∷ names) first bytes h are =
    let p = and_parts (is_element nodes) (list_all is_part parts) are in
    written_inside parts (last ∷ names) first (bytes ++ written_alone nodes) (sym (element_closes nodes (length names) (nodes_in parts) p.0) ∙ h) p.1
    ∙ append_assoc bytes (written_alone nodes) (text_of (last ∷ names) parts)

abbrev pub begun : Name → List Attribute → List Part → List Part
begun name attributes parts = Made (Start name attributes) ∷ parts

pub written_is : (first : List ℕ) (name : Name) (attributes : List Attribute) (parts : List Part) → closes 1 (nodes_in parts) ≡ true → list_all is_part parts ≡ true
    → (with_parts (new_writing first) (begun name attributes parts)).bytes ≡ start_text first name attributes ++ text_of (name ∷ []) parts
unfolding with_start
written_is first name attributes parts h are = written_inside parts (name ∷ []) first (start_text first name attributes) h are

-- ---- its bytes

slash : Spells (codes "</") (codes "</")
unfolding encode_utf8
slash = record { is = refl; kept = refl }

text_spells : (text : List ℕ) → list_all is_char text ≡ true → Spells (flat_map (escaped_character false) (encode_utf8_all text)) (flat_map (escaped_character false) text)
text_spells text h = record { is = escaped_bytes false text; kept = escaped_kept false text h }

end_spells : (name : Name) → is_name name ≡ true → Spells (end_text (name_bytes name)) (end_text name)
end_spells name h = both _ _ _ _ (both _ _ _ _ slash (tag_bytes element_prefix name own h)) greater

pub start_name : (name : Name) (attributes : List Attribute) → is_start name attributes ≡ true → is_name name ≡ true
start_name name attributes h =
    let p = and_parts (is_name name && list_all is_attribute attributes && are_distinct (names_bytes attributes)) (nat_lt (length attributes) (2 ^ 64)) h in
    let q = and_parts (is_name name && list_all is_attribute attributes) (are_distinct (names_bytes attributes)) p.0 in
    (and_parts (is_name name) (list_all is_attribute attributes) q.0).0

abbrev pub SpellsAlone : List Node → Type 0
SpellsAlone nodes = Spells (written_alone (map node_bytes nodes)) (written_alone nodes)

parts_spell : (parts : List Part) (names : List Name) → list_all is_name names ≡ true → list_all is_node (nodes_in parts) ≡ true → EachKept SpellsAlone parts
    → Spells (text_of (map name_bytes names) (map part_bytes parts)) (text_of names parts)
parts_spell [] names n h each = none
parts_spell (Made (Start name attributes) ∷ parts) names n h each =
    let p = and_parts (is_start name attributes) (list_all is_node (nodes_in parts)) h in
    both _ _ _ _ (start_spells [] name attributes none p.0) (parts_spell parts (name ∷ names) (rw (start_name name attributes p.0, n) refl) p.1 each)
parts_spell (Made (Text text) ∷ parts) names n h each =
    let p = and_parts (is_node (Text text)) (list_all is_node (nodes_in parts)) h in
    both _ _ _ _ (text_spells text (and_parts _ (list_all is_char text) p.0).1) (parts_spell parts names n p.1 each)
parts_spell (Made End ∷ parts) [] n h each = parts_spell parts [] n h each
parts_spell (Made End ∷ parts) (name ∷ names) n h each =
    let p = and_parts (is_name name) (list_all is_name names) n in
    both _ _ _ _ (end_spells name p.0) (parts_spell parts names p.1 h each)
parts_spell (Kept nodes ∷ parts) names n h each =
    let p = and_parts (list_all is_node nodes) (list_all is_node (nodes_in parts)) (sym (list_all-append is_node nodes (nodes_in parts)) ∙ h) in
    both _ _ _ _ each.0 (parts_spell parts names n p.1 each.1)

pub closes_bytes : (nodes : List Node) (n : ℕ) → closes n (map node_bytes nodes) ≡ closes n nodes
closes_bytes [] n = refl
closes_bytes (node ∷ nodes) zero = refl
closes_bytes (Start name attributes ∷ nodes) (suc n) = closes_bytes nodes (suc (suc n))
closes_bytes (Text text ∷ nodes) (suc n) = closes_bytes nodes (suc n)
closes_bytes (End ∷ nodes) (suc n) = closes_bytes nodes n

pub element_bytes : (nodes : List Node) → is_element (map node_bytes nodes) ≡ is_element nodes
element_bytes [] = refl
element_bytes (Start name attributes ∷ nodes) = closes_bytes nodes 1
element_bytes (Text text ∷ nodes) = refl
element_bytes (End ∷ nodes) = refl

part_again : (parts : List Part) → list_all is_part (map part_bytes parts) ≡ list_all is_part parts
part_again [] = refl
part_again (Made node ∷ parts) = part_again parts
part_again (Kept nodes ∷ parts) = ap (λ b. b && list_all is_part (map part_bytes parts)) (element_bytes nodes) ∙ ap (λ b. is_element nodes && b) (part_again parts)

-- an element that is readable: its start, and the parts behind that
pub record IsOne (name : Name) (attributes : List Attribute) (parts : List Part) : Type 0 where
  pub closed : closes 1 (nodes_in parts) ≡ true
  pub start : is_start name attributes ≡ true
  pub each : list_all is_node (nodes_in parts) ≡ true
  pub apart : are_apart false (nodes_in parts) ≡ true
  pub are : list_all is_part parts ≡ true

pub is_one : (name : Name) (attributes : List Attribute) (parts : List Part) → is_readable (Start name attributes ∷ nodes_in parts) ≡ true → list_all is_part parts ≡ true → IsOne name attributes parts
is_one name attributes parts h are =
    let nodes = nodes_in parts in
    let all = Start name attributes ∷ nodes in
    let p = and_parts (is_element all && list_all is_node all) (are_apart false all) h in
    let q = and_parts (is_element all) (list_all is_node all) p.0 in
    let r = and_parts (is_start name attributes) (list_all is_node nodes) q.1 in
    record { closed = q.0; start = r.0; each = r.1; apart = p.1; are = are }

pub whole_spells : (first : List ℕ) (name : Name) (attributes : List Attribute) (parts : List Part) → Spells first first → IsOne name attributes parts → EachKept SpellsAlone parts
    → Spells (with_parts (new_writing first) (map part_bytes (begun name attributes parts))).bytes (with_parts (new_writing first) (begun name attributes parts)).bytes
whole_spells first name attributes parts s one each =
    let said = both _ _ _ _ (start_spells first name attributes s one.start) (parts_spell parts (name ∷ []) (rw (start_name name attributes one.start) refl) one.each each) in
    let bytes = written_is first (name_bytes name) (map attribute_bytes attributes) (map part_bytes parts)
    (ap (closes 1) (nodes_bytes parts) ∙ closes_bytes (nodes_in parts) 1 ∙ one.closed) (part_again parts ∙ one.are) in
    let text = written_is first name attributes parts one.closed one.are in
    record { is = bytes ∙ said.is ∙ ap encode_utf8_all (sym text); kept = ap (list_all is_kept) text ∙ said.kept }
