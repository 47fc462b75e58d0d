-- Nodes that are written as the same bytes wherever an element has begun.
use Rattle.std.proofs.Common.{◌≡◌, refl, ℕ, false, true, List, [], ◌∷◌, ◌++◌, codes, ap, sym, ◌∙◌, subst, append-nil, append_assoc}
use Rattle.dav_xml_core.specs.Documents.{Node}
use Rattle.dav_xml_core.specs.Reading.{is_empty}
use Rattle.dav_xml_core.specs.Writing.{Writing, declaration_bytes, element_prefix, start_text, tag_name, with_end, with_nodes, with_start}
use Rattle.dav_xml_core.proofs.WriterLemmas.{end_of, writing}
use Rattle.dav_documents_core.specs.LockDocuments.{kind_nodes, supported_locks}
use Rattle.dav_documents_core.specs.RefusalBodies.{dav_name, element}
use Rattle.dav_documents_core.proofs.PieceLemmas.{nodes_in_turn}
use Rattle.dav_documents_core.proofs.WritingLemmas.{ends_behind}

-- ---- any nodes

abbrev pub AreFixed : List Node → List ℕ → Type 0
AreFixed nodes text =
    (first bytes : List ℕ) (begun : List (List ℕ)) → is_empty begun ≡ false → with_nodes (writing first bytes begun) nodes ≡ writing first (bytes ++ text) begun

nothing_fixed : AreFixed [] []
nothing_fixed first bytes begun h = ap (λ text. writing first text begun) (sym (append-nil bytes))

in_turn_fixed : (xs ys : List Node) (one two : List ℕ) → AreFixed xs one → AreFixed ys two → AreFixed (xs ++ ys) (one ++ two)
in_turn_fixed xs ys one two x y first bytes begun h =
    nodes_in_turn (writing first bytes begun) xs ys ∙ ap (λ (w : Writing). with_nodes w ys) (x first bytes begun h) ∙ y first (bytes ++ one) begun h
    ∙ ap (λ text. writing first text begun) (append_assoc bytes one two)

-- ---- an element of `DAV:` with some in it

still_inside : (begun : List (List ℕ)) (tag : List ℕ) → is_empty (begun ++ tag ∷ []) ≡ false
still_inside [] tag = refl
still_inside (other ∷ begun) tag = refl

starts : (first bytes local : List ℕ) (begun : List (List ℕ)) → is_empty begun ≡ false
    → with_start (writing first bytes begun) (dav_name local) [] ≡ writing first (bytes ++ start_text [] (dav_name local) []) (begun ++ tag_name element_prefix (dav_name local) ∷ [])
unfolding with_start
starts first bytes local (other ∷ begun) h = refl
starts first bytes local [] h = cc

all_in_turn : (bytes front inside begins tag ends : List ℕ) → ((((bytes ++ front) ++ inside) ++ begins) ++ tag) ++ ends ≡ bytes ++ ((((front ++ inside) ++ begins) ++ tag) ++ ends)
all_in_turn [] front inside begins tag ends = refl
all_in_turn (b ∷ bytes) front inside begins tag ends = ap (λ (rest : List ℕ). b ∷ rest) (all_in_turn bytes front inside begins tag ends)

-- how it is written
abbrev element_text : List ℕ → List ℕ → List ℕ
element_text local inside =
    (((start_text [] (dav_name local) [] ++ inside) ++ codes "</") ++ tag_name element_prefix (dav_name local)) ++ codes ">"

element_fixed : (local : List ℕ) (inside : List Node) (text : List ℕ) → AreFixed inside text → AreFixed (element local inside) (element_text local text)
element_fixed local inside text fixed first bytes begun h =
    let tag = tag_name element_prefix (dav_name local) in
    let front = start_text [] (dav_name local) [] in
    sym (ends_behind local inside (writing first bytes begun))
    ∙ ap (λ (w : Writing). with_end (with_nodes w inside)) (starts first bytes local begun h)
    ∙ ap with_end (fixed first (bytes ++ front) (begun ++ tag ∷ []) (still_inside begun tag))
    ∙ end_of first ((bytes ++ front) ++ text) (begun ++ tag ∷ []) begun tag refl
    ∙ ap (λ all. writing first all begun) (all_in_turn bytes front text (codes "</") tag (codes ">"))

-- ---- the kinds of locks

abbrev kind_text : List ℕ → List ℕ
kind_text scope = element_text (codes "lockscope") (element_text scope []) ++ element_text (codes "locktype") (element_text (codes "write") [])

kind_fixed : (scope : List ℕ) → AreFixed (element (codes "lockscope") (element scope []) ++ element (codes "locktype") (element (codes "write") [])) (kind_text scope)
kind_fixed scope =
    in_turn_fixed (element (codes "lockscope") (element scope [])) (element (codes "locktype") (element (codes "write") []))
    (element_text (codes "lockscope") (element_text scope [])) (element_text (codes "locktype") (element_text (codes "write") []))
    (element_fixed (codes "lockscope") (element scope []) (element_text scope []) (element_fixed scope [] [] nothing_fixed))
    (element_fixed (codes "locktype") (element (codes "write") []) (element_text (codes "write") []) (element_fixed (codes "write") [] [] nothing_fixed))

abbrev entry_text : List ℕ → List ℕ
entry_text scope = element_text (codes "lockentry") (kind_text scope)

abbrev pub supported_text : List ℕ
supported_text = codes "<D:supportedlock><D:lockentry><D:lockscope><D:exclusive></D:exclusive></D:lockscope><D:locktype><D:write></D:write></D:locktype></D:lockentry><D:lockentry><D:lockscope><D:shared></D:shared></D:lockscope><D:locktype><D:write></D:write></D:locktype></D:lockentry></D:supportedlock>"

spelled : element_text (codes "supportedlock") (entry_text (codes "exclusive") ++ entry_text (codes "shared")) ≡ supported_text
unfolding start_text tag_name declaration_bytes
spelled = refl

pub supported_fixed : AreFixed supported_locks supported_text
supported_fixed = subst (AreFixed supported_locks) spelled
    (element_fixed (codes "supportedlock") (element (codes "lockentry") (kind_nodes false) ++ element (codes "lockentry") (kind_nodes true))
    (entry_text (codes "exclusive") ++ entry_text (codes "shared"))
    (in_turn_fixed (element (codes "lockentry") (kind_nodes false)) (element (codes "lockentry") (kind_nodes true)) (entry_text (codes "exclusive")) (entry_text (codes "shared"))
    (element_fixed (codes "lockentry") (kind_nodes false) (kind_text (codes "exclusive")) (kind_fixed (codes "exclusive")))
    (element_fixed (codes "lockentry") (kind_nodes true) (kind_text (codes "shared")) (kind_fixed (codes "shared")))))
