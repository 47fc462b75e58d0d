-- What is told of properties, one behind another.
use Rattle.std.proofs.Common.{◌≡◌, ◌∙◌, refl, sym, ap, ℕ, Bool, ◌||◌, ◌+◌, ◌<◌, List, [], ◌∷◌, ◌++◌, length, map, drop, get_or}
use Rattle.std.specs.Prelude.{codes}
use Rattle.std.specs.List.{flat_map, list_any}
use Rattle.std.proofs.lemmas.List.{drop_more}
use Rattle.dav_xml_core.specs.Writing.{Writing, with_end, with_nodes, with_start}
use Rattle.dav_documents_core.specs.Pieces.{DocumentPiece, enclosed_pieces, made_pieces, and_pieces}
use Rattle.dav_documents_core.specs.PropertyDocuments.{propstat, text_element}
use Rattle.dav_documents_core.specs.RefusalBodies.{dav_name}
use Rattle.dav_documents_core.proofs.PieceLemmas.{in_element, in_turn}

-- what is told of one, before the others
pub next_told : {A B : Type 0} (shown : B → List DocumentPiece) (view : A → B) (xs : List A) (i : ℕ) (x : A) (old new whole : Writing) → i < length xs → x ≡ get_or xs i x
    → new ≡ and_pieces old (shown (view x)) → and_pieces old (flat_map shown (map view (drop i xs))) ≡ whole
    → and_pieces new (flat_map shown (map view (drop (i + 1) xs))) ≡ whole
next_told shown view xs i x old new whole lt is told all =
    ap (λ (w : Writing). and_pieces w (flat_map shown (map view (drop (i + 1) xs)))) told
    ∙ sym (in_turn old (shown (view x)) (flat_map shown (map view (drop (i + 1) xs))))
    ∙ ap (λ ys. and_pieces old (flat_map shown (map view ys))) (sym (drop_more xs i x lt ∙ ap (λ y. y ∷ drop (i + 1) xs) (sym is))) ∙ all

-- properties with one status
pub with_propstat : (writing : Writing) (status : List ℕ) (inside : List DocumentPiece) → and_pieces writing (propstat status inside)
    ≡ with_end (with_nodes (with_end (and_pieces (with_start (with_start writing (dav_name (codes "propstat")) []) (dav_name (codes "prop")) []) inside))
    (text_element (codes "status") status))
with_propstat writing status inside =
    let begun = with_start writing (dav_name (codes "propstat")) [] in
    in_element writing (codes "propstat") (enclosed_pieces (codes "prop") inside ++ made_pieces (text_element (codes "status") status))
    ∙ ap with_end (in_turn begun (enclosed_pieces (codes "prop") inside) (made_pieces (text_element (codes "status") status))
    ∙ ap (λ (w : Writing). with_nodes w (text_element (codes "status") status)) (in_element begun (codes "prop") inside))
