-- Pieces that can stand inside an element, one behind another: a document of them is read.
use Rattle.std.proofs.Common.{◌≡◌, refl, sym, ap, subst, ◌∙◌, ℕ, suc, Bool, true, false, cond, ◌&&◌, List, [], ◌∷◌, ◌++◌, map, Some, append_assoc, append-nil}
use Rattle.std.specs.Prelude.{flat_map}
use Rattle.std.specs.List.{AllByRecursion, list_all}
use Rattle.std.proofs.lemmas.Bool.{and_parts}
use Rattle.std.proofs.lemmas.List.{map-append}
use Rattle.std.proofs.lemmas.List.Folds.{list_all-append}
use Rattle.dav_xml_core.specs.Documents.{Name, Node, Start, Text, End, closes, is_element}
use Rattle.dav_xml_core.specs.Namespaces.{are_distinct}
use Rattle.dav_xml_core.specs.Parts as part
use Rattle.dav_xml_core.specs.Parts.{Part, PartsCouldBeRead, is_part, nodes_in, part_bytes, with_parts, written_parts}
use Rattle.dav_xml_core.specs.Readable.{is_start, name_bytes}
use Rattle.dav_xml_core.specs.ReadableDocuments.{are_apart, is_node, node_bytes}
use Rattle.dav_xml_core.specs.Reading.{document_of}
use Rattle.dav_xml_core.specs.Writing.{Writing, in_document, new_writing, document_bytes, written_alone}
use Rattle.dav_xml_core.proofs.InsideLemmas.{element_behind, element_closes}
use Rattle.dav_xml_core.proofs.NodesLemmas.{parts_again}
use Rattle.dav_documents_core.specs.KeptElements.{IsDocument, IsElementName, IsElementText, IsVisible}
use Rattle.dav_documents_core.specs.Pieces.{DocumentPiece, Made, Kept, enclosed_pieces, made_pieces, and_piece, and_pieces, written_pieces}
use Rattle.dav_documents_core.specs.RefusalBodies.{dav_name, element}
use Rattle.dav_documents_core.proofs.PieceLemmas.{of_nodes}
use Rattle.dav_documents_core.proofs.VisibleTextLemmas.{all_chars, same_bytes}

-- the bytes of what is known in characters
abbrev piece_of : Part → DocumentPiece
piece_of (part.Made node) = Made (node_bytes node)
piece_of (part.Kept nodes) = Kept (written_alone (map node_bytes nodes))

-- whole elements, each of which could have been read
pub record AreFine (pieces : List DocumentPiece) : Type 0 where
  pub parts : List Part
  pub spelled : pieces ≡ map piece_of parts
  pub each : list_all is_node (nodes_in parts) ≡ true
  pub kept : list_all is_part parts ≡ true
  pub closed : (n : ℕ) (more : List Node) → closes (suc n) (nodes_in parts ++ more) ≡ closes (suc n) more
  pub apart : (more : List Node) → are_apart false (nodes_in parts ++ more) ≡ are_apart false more

nodes_joined : (before behind : List Part) → nodes_in (before ++ behind) ≡ nodes_in before ++ nodes_in behind
nodes_joined [] behind = refl
nodes_joined (part.Made node ∷ before) behind = ap (λ (ns : List Node). node ∷ ns) (nodes_joined before behind)
nodes_joined (part.Kept nodes ∷ before) behind =
    ap (λ (ns : List Node). nodes ++ ns) (nodes_joined before behind) ∙ sym (append_assoc nodes (nodes_in before) (nodes_in behind))

pub none : AreFine []
none = record { parts = []; spelled = refl; each = refl; kept = refl; closed = λ n more. refl; apart = λ more. refl }

pub both : (before behind : List DocumentPiece) → AreFine before → AreFine behind → AreFine (before ++ behind)
both before behind h k = record {
  parts = h.parts ++ k.parts;
  spelled = ap (λ (ps : List DocumentPiece). ps ++ behind) h.spelled ∙ ap (λ (ps : List DocumentPiece). map piece_of h.parts ++ ps) k.spelled ∙ sym (map-append piece_of h.parts k.parts);
  each = ap (list_all is_node) (nodes_joined h.parts k.parts) ∙ list_all-append is_node (nodes_in h.parts) (nodes_in k.parts) ∙ rw (h.each, k.each) refl;
  kept = list_all-append is_part h.parts k.parts ∙ rw (h.kept, k.kept) refl;
  closed = λ n more.
      ap (λ (ns : List Node). closes (suc n) (ns ++ more)) (nodes_joined h.parts k.parts)
      ∙ ap (closes (suc n)) (append_assoc (nodes_in h.parts) (nodes_in k.parts) more) ∙ h.closed n (nodes_in k.parts ++ more) ∙ k.closed n more;
  apart = λ more.
      ap (λ (ns : List Node). are_apart false (ns ++ more)) (nodes_joined h.parts k.parts)
      ∙ ap (are_apart false) (append_assoc (nodes_in h.parts) (nodes_in k.parts) more) ∙ h.apart (nodes_in k.parts ++ more) ∙ k.apart more;
}

pub either : (b : Bool) (this that : List DocumentPiece) → AreFine this → AreFine that → AreFine (cond b this that)
either true this that h k = h
either false this that h k = k

pub all_of : {A : Type 0} (f : A → List DocumentPiece) (xs : List A) → AllByRecursion (λ x. AreFine (f x)) xs → AreFine (flat_map f xs)
all_of f [] h = none
all_of f (x ∷ xs) h = both (f x) (flat_map f xs) h.0 (all_of f xs h.1)

-- ---- one element

inside_out : (parts : List Part) (more : List Node) → nodes_in (parts ++ part.Made End ∷ []) ++ more ≡ nodes_in parts ++ End ∷ more
inside_out parts more = ap (λ (ns : List Node). ns ++ more) (nodes_joined parts (part.Made End ∷ [])) ∙ append_assoc (nodes_in parts) (End ∷ []) more

within_name : (name : Name) (inside : List DocumentPiece) → is_start name [] ≡ true → AreFine inside → AreFine (Made (Start (name_bytes name) []) ∷ (inside ++ Made End ∷ []))
within_name name inside start h = record {
  parts = part.Made (Start name []) ∷ (h.parts ++ part.Made End ∷ []);
  spelled = ap (λ (ps : List DocumentPiece). Made (Start (name_bytes name) []) ∷ (ps ++ Made End ∷ [])) h.spelled
      ∙ ap (λ (ps : List DocumentPiece). Made (Start (name_bytes name) []) ∷ ps) (sym (map-append piece_of h.parts (part.Made End ∷ [])));
  each = ap (λ b. b && list_all is_node (nodes_in (h.parts ++ part.Made End ∷ []))) start
      ∙ ap (list_all is_node) (nodes_joined h.parts (part.Made End ∷ [])) ∙ list_all-append is_node (nodes_in h.parts) (End ∷ []) ∙ rw h.each refl;
  kept = list_all-append is_part h.parts (part.Made End ∷ []) ∙ rw h.kept refl;
  closed = λ n more. ap (closes (suc (suc n))) (inside_out h.parts more) ∙ h.closed (suc n) (End ∷ more);
  apart = λ more. ap (are_apart false) (inside_out h.parts more) ∙ h.apart (End ∷ more);
}

-- a word that names an element of `DAV:`
pub record IsWord (local : List ℕ) : Type 0 where
  pub start : is_start (dav_name local) [] ≡ true
  pub same : name_bytes (dav_name local) ≡ dav_name local

pub within : (local : List ℕ) (inside : List DocumentPiece) → IsWord local → AreFine inside → AreFine (enclosed_pieces local inside)
within local inside word h =
    subst (λ (name : Name). AreFine (Made (Start name []) ∷ (inside ++ Made End ∷ []))) word.same (within_name (dav_name local) inside word.start h)

pub text : (local words : List ℕ) → IsWord local → IsVisible words → AreFine (made_pieces (element local (Text words ∷ [])))
text local words word h = record {
  parts = part.Made (Start (dav_name local) []) ∷ part.Made (Text words) ∷ part.Made End ∷ [];
  spelled = ap (λ (name : Name). Made (Start name []) ∷ Made (Text words) ∷ Made End ∷ []) (sym word.same)
      ∙ ap (λ (t : List ℕ). Made (Start (name_bytes (dav_name local)) []) ∷ Made (Text t) ∷ Made End ∷ []) (sym (same_bytes words h.each));
  each = rw (word.start, h.some, all_chars words h.each) refl;
  kept = refl;
  closed = λ n more. refl;
  apart = λ more. refl;
}

pub named : (name : Name) → IsElementName name → AreFine (made_pieces (Start name [] ∷ End ∷ []))
unfolding are_distinct
named name h =
    subst (λ (n : Name). AreFine (made_pieces (Start n [] ∷ End ∷ []))) (sym h.bytes) (within_name h.characters [] (rw h.is refl) none)

pub kept : (xml : List ℕ) → IsElementText xml → AreFine (Kept xml ∷ [])
kept xml h =
    let nodes = h.could.characters in
    let all = and_parts (is_element nodes && list_all is_node nodes) (are_apart false nodes) h.could.readable in
    let parts = and_parts (is_element nodes) (list_all is_node nodes) all.0 in
    record {
      parts = part.Kept nodes ∷ [];
      spelled = ap (λ (bytes : List ℕ). Kept bytes ∷ []) (h.written ∙ ap written_alone h.could.bytes);
      each = ap (list_all is_node) (append-nil nodes) ∙ parts.1;
      kept = rw parts.0 refl;
      closed = λ n more. ap (λ (ns : List Node). closes (suc n) (ns ++ more)) (append-nil nodes) ∙ element_closes nodes n more parts.0;
      apart = λ more. ap (λ (ns : List Node). are_apart false (ns ++ more)) (append-nil nodes) ∙ element_behind nodes more parts.0 all.1;
    }

-- ---- nodes

abbrev pub AreFineNodes : List Node → Type 0
AreFineNodes nodes = AreFine (made_pieces nodes)

pub nodes_both : (before behind : List Node) → AreFineNodes before → AreFineNodes behind → AreFineNodes (before ++ behind)
nodes_both before behind h k = subst AreFine (sym (map-append Made before behind)) (both (made_pieces before) (made_pieces behind) h k)

pub nodes_within : (local : List ℕ) (inside : List Node) → IsWord local → AreFineNodes inside → AreFineNodes (element local inside)
nodes_within local inside word h =
    subst AreFine (ap (λ (ps : List DocumentPiece). Made (Start (dav_name local) []) ∷ ps) (sym (map-append Made inside (End ∷ []))))
    (within local (made_pieces inside) word h)

pub nodes_either : (b : Bool) (this that : List Node) → AreFineNodes this → AreFineNodes that → AreFineNodes (cond b this that)
nodes_either true this that h k = h
nodes_either false this that h k = k

pub nodes_of : {A : Type 0} (f : A → List Node) (xs : List A) → AllByRecursion (λ x. AreFineNodes (f x)) xs → AreFineNodes (flat_map f xs)
nodes_of f [] h = none
nodes_of f (x ∷ xs) h = nodes_both (f x) (flat_map f xs) h.0 (nodes_of f xs h.1)

-- ---- the document

same_writing : (writing : Writing) (parts : List Part) → and_pieces writing (map piece_of parts) ≡ with_parts writing (map part_bytes parts)
same_writing writing [] = refl
same_writing writing (part.Made node ∷ parts) = same_writing (and_piece writing (Made (node_bytes node))) parts
same_writing writing (part.Kept nodes ∷ parts) = same_writing (and_piece writing (Kept (written_alone (map node_bytes nodes)))) parts

could_be : (name : Name) (parts : List Part) → is_start name [] ≡ true → list_all is_node (nodes_in parts) ≡ true → list_all is_part parts ≡ true
    → ((n : ℕ) (more : List Node) → closes (suc n) (nodes_in parts ++ more) ≡ closes (suc n) more)
    → ((more : List Node) → are_apart false (nodes_in parts ++ more) ≡ are_apart false more)
    → PartsCouldBeRead (map part_bytes (part.Made (Start name []) ∷ (parts ++ part.Made End ∷ [])))
could_be name parts start each kept closed apart =
    let nodes = nodes_in (parts ++ part.Made End ∷ []) in
    let is = nodes_joined parts (part.Made End ∷ []) in
    let one : closes 1 nodes ≡ true = ap (closes 1) is ∙ closed 0 (End ∷ []) in
    let all : list_all is_node nodes ≡ true = ap (list_all is_node) is ∙ list_all-append is_node (nodes_in parts) (End ∷ []) ∙ rw each refl in
    let texts : are_apart false nodes ≡ true = ap (are_apart false) is ∙ apart (End ∷ []) in
    record {
      characters = part.Made (Start name []) ∷ (parts ++ part.Made End ∷ []);
      bytes = refl;
      readable = rw (one, start, all, texts) refl;
      kept = list_all-append is_part parts (part.Made End ∷ []) ∙ rw kept refl;
    }

-- the nodes that are read, and of which parts they are
record IsRead (pieces : List DocumentPiece) (bytes : List ℕ) : Type 0 where
  parts : List Part
  spelled : pieces ≡ map piece_of parts
  is : document_of bytes ≡ Some (nodes_in (map part_bytes parts))

read_name : (name : Name) (inside : List DocumentPiece) → is_start name [] ≡ true → AreFine inside
    → IsRead (Made (Start (name_bytes name) []) ∷ (inside ++ Made End ∷ [])) (written_pieces (Made (Start (name_bytes name) []) ∷ (inside ++ Made End ∷ [])))
unfolding written_pieces written_parts within_name
read_name name inside start h =
    let fine = within_name name inside start h in
    let could = could_be name h.parts start h.each h.kept h.closed h.apart in
    record {
      parts = fine.parts;
      spelled = fine.spelled;
      is = ap (λ (ps : List DocumentPiece). document_of (and_pieces (new_writing in_document) ps).bytes) fine.spelled
          ∙ ap (λ (w : Writing). document_of w.bytes) (same_writing (new_writing in_document) fine.parts)
          ∙ parts_again (map part_bytes fine.parts) could;
    }

read_within : (local : List ℕ) (inside : List DocumentPiece) → IsWord local → AreFine inside → IsRead (enclosed_pieces local inside) (written_pieces (enclosed_pieces local inside))
read_within local inside word h =
    let P : Name → Type 0 = λ (name : Name). IsRead (Made (Start name []) ∷ (inside ++ Made End ∷ [])) (written_pieces (Made (Start name []) ∷ (inside ++ Made End ∷ []))) in
    subst P word.same (read_name (dav_name local) inside word.start h)

-- a document with pieces in it is read
pub document : (local : List ℕ) (inside : List DocumentPiece) → IsWord local → AreFine inside → IsDocument (written_pieces (enclosed_pieces local inside))
document local inside word h =
    let read = read_within local inside word h in record { nodes = nodes_in (map part_bytes read.parts); is = read.is }

same_nodes : (nodes : List Node) (parts : List Part) → made_pieces nodes ≡ map piece_of parts → nodes_in (map part_bytes parts) ≡ nodes
same_nodes [] [] h = refl
same_nodes [] (p ∷ parts) h = absurd (cc)
same_nodes (node ∷ nodes) [] h = absurd (cc)
same_nodes (node ∷ nodes) (part.Kept kept ∷ parts) h = absurd (cc)
same_nodes (node ∷ nodes) (part.Made other ∷ parts) h =
    let first : node ≡ node_bytes other = cc in
    let others : made_pieces nodes ≡ map piece_of parts = cc in
    ap (λ (n : Node). n ∷ nodes_in (map part_bytes parts)) (sym first) ∙ ap (λ (ns : List Node). node ∷ ns) (same_nodes nodes parts others)

-- and one of nodes is read as them
pub document_again : (local : List ℕ) (inside : List Node) → IsWord local → AreFineNodes inside → document_of (document_bytes (element local inside)) ≡ Some (element local inside)
unfolding document_bytes written_pieces
document_again local inside word h =
    let is : made_pieces (element local inside) ≡ enclosed_pieces local (made_pieces inside) =
    ap (λ (ps : List DocumentPiece). Made (Start (dav_name local) []) ∷ ps) (map-append Made inside (End ∷ [])) in
    let read = read_within local (made_pieces inside) word h in
    ap (λ (w : Writing). document_of w.bytes) (sym (of_nodes (new_writing in_document) (element local inside)))
    ∙ ap (λ (ps : List DocumentPiece). document_of (and_pieces (new_writing in_document) ps).bytes) is ∙ read.is
    ∙ ap (λ (ns : List Node). Some ns) (same_nodes (element local inside) read.parts (is ∙ read.spelled))
