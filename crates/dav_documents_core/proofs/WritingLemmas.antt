-- Nodes that are written one after another.
use Rattle.std.proofs.Common.{◌≡◌, refl, ℕ, List, [], ◌∷◌, ◌++◌, ap, sym, ◌∙◌}
use Rattle.dav_xml_core.specs.Documents.{Node, End}
use Rattle.dav_xml_core.specs.Writing.{Writing, with_end, with_node, with_nodes, with_start}
use Rattle.dav_documents_core.specs.RefusalBodies.{dav_name, element}
use Rattle.dav_documents_core.proofs.PieceLemmas.{nodes_in_turn}

-- an element with these nodes in it
pub ends_behind : (local : List ℕ) (inside : List Node) (w : Writing) → with_end (with_nodes (with_start w (dav_name local) []) inside) ≡ with_nodes w (element local inside)
ends_behind local inside w = sym (nodes_in_turn (with_start w (dav_name local) []) inside (End ∷ []))

-- ---- by what calls leave, one after another

pub one_after : (xs ys : List Node) (w a b : Writing) → a ≡ with_nodes w xs → b ≡ with_nodes a ys → b ≡ with_nodes w (xs ++ ys)
one_after xs ys w a b first second = second ∙ ap (λ (v : Writing). with_nodes v ys) first ∙ sym (nodes_in_turn w xs ys)

pub in_element : (local : List ℕ) (inside : List Node) (w a b : Writing) → a ≡ with_start w (dav_name local) [] → b ≡ with_nodes a inside
    → with_end b ≡ with_nodes w (element local inside)
in_element local inside w a b starts told = ap with_end (told ∙ ap (λ (v : Writing). with_nodes v inside) starts) ∙ ends_behind local inside w
