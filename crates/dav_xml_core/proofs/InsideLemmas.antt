-- The nodes of an element, with others behind them.
use Rattle.std.proofs.Common.{◌≡◌, refl, sym, ap, ◌∙◌, ℕ, zero, suc, Bool, true, false, ◌&&◌, not, List, [], ◌∷◌, ◌++◌, map}
use Rattle.std.proofs.lemmas.Bool.{and_parts, false≢true}
use Rattle.std.specs.List.{list_all}
use Rattle.std.proofs.lemmas.List.{map-append}
use Rattle.std.proofs.lemmas.List.Folds.{list_all-append}
use Rattle.dav_xml_core.specs.Documents.{Node, Start, Text, End, closes, is_element}
use Rattle.dav_xml_core.specs.Parts.{Part, Made, Kept, nodes_in, with_parts, part_bytes, is_part}
use Rattle.dav_xml_core.specs.ReadableDocuments.{node_bytes, is_node, are_apart, is_readable}
use Rattle.dav_xml_core.specs.Writing.{Writing, with_node, with_nodes}

-- so many more
abbrev above : ℕ → ℕ → ℕ
above zero n = n
above (suc k) n = suc (above k n)

closes_behind : (nodes : List Node) (k n : ℕ) (rest : List Node) → closes (suc k) nodes ≡ true → closes (above (suc k) n) (nodes ++ rest) ≡ closes n rest
closes_behind [] k n rest h = absurd (false≢true h)
closes_behind (Start name attributes ∷ nodes) k n rest h = closes_behind nodes (suc k) n rest h
closes_behind (Text text ∷ nodes) k n rest h = closes_behind nodes k n rest h
closes_behind (End ∷ []) zero n rest h = refl
closes_behind (End ∷ node ∷ nodes) zero n rest h = absurd (false≢true h)
closes_behind (End ∷ nodes) (suc k) n rest h = closes_behind nodes k n rest h

-- an element inside others leaves them open
pub element_closes : (nodes : List Node) (n : ℕ) (rest : List Node) → is_element nodes ≡ true → closes (suc n) (nodes ++ rest) ≡ closes (suc n) rest
element_closes [] n rest h = absurd (false≢true h)
element_closes (Start name attributes ∷ nodes) n rest h = closes_behind nodes zero (suc n) rest h
element_closes (Text text ∷ nodes) n rest h = absurd (false≢true h)
element_closes (End ∷ nodes) n rest h = absurd (false≢true h)

abbrev Split : Bool → List Node → List Node → Type 0
Split after_text nodes rest = (are_apart after_text nodes ≡ true) × (are_apart false rest ≡ true)

apart_behind : (nodes : List Node) (k : ℕ) (after_text : Bool) (rest : List Node) → closes (suc k) nodes ≡ true → are_apart after_text (nodes ++ rest) ≡ true → Split after_text nodes rest
apart_behind [] k after_text rest h i = absurd (false≢true h)
apart_behind (Start name attributes ∷ nodes) k after_text rest h i = apart_behind nodes (suc k) false rest h i
apart_behind (Text text ∷ nodes) k after_text rest h i =
    let p = and_parts (not after_text) (are_apart true (nodes ++ rest)) i in
    let more = apart_behind nodes k true rest h p.1 in
    (rw (p.0, more.0) refl, more.1)
apart_behind (End ∷ []) zero after_text rest h i = (refl, i)
apart_behind (End ∷ node ∷ nodes) zero after_text rest h i = absurd (false≢true h)
apart_behind (End ∷ nodes) (suc k) after_text rest h i = apart_behind nodes k false rest h i

-- the texts of an element are apart, and so are those behind it
pub element_apart : (nodes : List Node) (after_text : Bool) (rest : List Node) → is_element nodes ≡ true → are_apart after_text (nodes ++ rest) ≡ true → Split false nodes rest
element_apart [] after_text rest h i = absurd (false≢true h)
element_apart (Start name attributes ∷ nodes) after_text rest h i = apart_behind nodes zero false rest h i
element_apart (Text text ∷ nodes) after_text rest h i = absurd (false≢true h)
element_apart (End ∷ nodes) after_text rest h i = absurd (false≢true h)

behind_apart : (nodes : List Node) (k : ℕ) (after_text : Bool) (rest : List Node) → closes (suc k) nodes ≡ true → are_apart after_text nodes ≡ true
    → are_apart after_text (nodes ++ rest) ≡ are_apart false rest
behind_apart [] k after_text rest h i = absurd (false≢true h)
behind_apart (Start name attributes ∷ nodes) k after_text rest h i = behind_apart nodes (suc k) false rest h i
behind_apart (Text text ∷ nodes) k after_text rest h i =
    let p = and_parts (not after_text) (are_apart true nodes) i in
    ap (λ b. b && are_apart true (nodes ++ rest)) p.0 ∙ behind_apart nodes k true rest h p.1
behind_apart (End ∷ []) zero after_text rest h i = refl
behind_apart (End ∷ node ∷ nodes) zero after_text rest h i = absurd (false≢true h)
behind_apart (End ∷ nodes) (suc k) after_text rest h i = behind_apart nodes k false rest h i

-- what stands right behind an element stands behind no text
pub element_behind : (nodes rest : List Node) → is_element nodes ≡ true → are_apart false nodes ≡ true → are_apart false (nodes ++ rest) ≡ are_apart false rest
element_behind [] rest h i = absurd (false≢true h)
element_behind (Start name attributes ∷ nodes) rest h i = behind_apart nodes zero false rest h i
element_behind (Text text ∷ nodes) rest h i = absurd (false≢true h)
element_behind (End ∷ nodes) rest h i = absurd (false≢true h)

pub not_outside : (nodes rest : List Node) → is_element nodes ≡ true → closes zero (nodes ++ rest) ≡ true → ⊥
not_outside [] rest h i = false≢true h
not_outside (node ∷ nodes) rest h i = false≢true i

-- ---- nodes as parts

abbrev pub made : List Node → List Part
made nodes = map (λ node. Made node) nodes

pub nodes_made : (nodes : List Node) → nodes_in (made nodes) ≡ nodes
nodes_made [] = refl
nodes_made (node ∷ nodes) = ap (λ (n : List Node). node ∷ n) (nodes_made nodes)

pub with_made : (nodes : List Node) (writing : Writing) → with_parts writing (made nodes) ≡ with_nodes writing nodes
with_made [] writing = refl
with_made (node ∷ nodes) writing = with_made nodes (with_node writing node)

pub bytes_made : (nodes : List Node) → map part_bytes (made nodes) ≡ made (map node_bytes nodes)
bytes_made [] = refl
bytes_made (node ∷ nodes) = ap (λ (p : List Part). Made (node_bytes node) ∷ p) (bytes_made nodes)

pub nodes_bytes : (parts : List Part) → nodes_in (map part_bytes parts) ≡ map node_bytes (nodes_in parts)
nodes_bytes [] = refl
nodes_bytes (Made node ∷ parts) = ap (λ (n : List Node). node_bytes node ∷ n) (nodes_bytes parts)
nodes_bytes (Kept nodes ∷ parts) = ap (λ (n : List Node). map node_bytes nodes ++ n) (nodes_bytes parts) ∙ sym (map-append node_bytes nodes (nodes_in parts))

pub part_made : (nodes : List Node) → list_all is_part (made nodes) ≡ true
part_made [] = refl
part_made (node ∷ nodes) = part_made nodes

-- a property of each element that was kept
abbrev pub EachKept : (List Node → Type 0) → List Part → Type 0
EachKept P [] = Unit {0}
EachKept P (Made node ∷ parts) = EachKept P parts
EachKept P (Kept nodes ∷ parts) = P nodes × EachKept P parts

pub each_made : (P : List Node → Type 0) (nodes : List Node) → EachKept P (made nodes)
each_made P [] = tt
each_made P (node ∷ nodes) = each_made P nodes

pub each_kept : (P : List Node → Type 0) → ((nodes : List Node) → is_readable nodes ≡ true → P nodes) → (parts : List Part) (after_text : Bool) → list_all is_part parts ≡ true
    → list_all is_node (nodes_in parts) ≡ true → are_apart after_text (nodes_in parts) ≡ true → EachKept P parts
each_kept P f [] after_text h i j = tt
each_kept P f (Made (Start name attributes) ∷ parts) after_text h i j = each_kept P f parts false h (and_parts _ (list_all is_node (nodes_in parts)) i).1 j
each_kept P f (Made (Text text) ∷ parts) after_text h i j =
    each_kept P f parts true h (and_parts _ (list_all is_node (nodes_in parts)) i).1 (and_parts _ (are_apart true (nodes_in parts)) j).1
each_kept P f (Made End ∷ parts) after_text h i j = each_kept P f parts false h i j
each_kept P f (Kept nodes ∷ parts) after_text h i j =
    let p = and_parts (is_element nodes) (list_all is_part parts) h in
    let q = and_parts (list_all is_node nodes) (list_all is_node (nodes_in parts)) (sym (list_all-append is_node nodes (nodes_in parts)) ∙ i) in
    let r = element_apart nodes after_text (nodes_in parts) p.0 j in
    (f nodes (rw (p.0, q.0, r.0) refl), each_kept P f parts false p.1 q.1 r.1)
