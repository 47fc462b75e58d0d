-- The elements in a document, each as the list of its nodes (XML 1.0 section 3, RFC 4918 section 17).
use Rattle.std.specs.Prelude.{ℕ, zero, suc, Bool, false, ◌&&◌, bytes_eq, List, [], ◌∷◌, ◌++◌, map, Option, None, Some}
use Rattle.std.specs.Borrow.{Bor}
use Rattle.std.specs.List.{filter}
use Rattle.std.specs.Option.{option_map_or}
use Rattle.dav_xml_core.specs.declared.davxml.documents.Node as code
use Rattle.dav_xml_core.specs.Documents.{Name, Node, Start, Text, End}
use Rattle.dav_xml_core.specs.Optional.{◌>>=◌}
use Rattle.dav_xml_core.specs.Views.{node_of}
use Rattle.dav_xml_core.specs.Writing.{dav_namespace}

-- The elements among nodes in order, each from its start to its end, without the texts between them. Where so many have begun before, inside each other,
-- the first of them has the nodes so far.
abbrev pub elements_from : ℕ → List Node → List Node → List (List Node)
elements_from zero so_far [] = []
elements_from zero so_far (Start name attributes ∷ nodes) = elements_from 1 (Start name attributes ∷ []) nodes
elements_from zero so_far (Text text ∷ nodes) = elements_from zero [] nodes
elements_from zero so_far (End ∷ nodes) = elements_from zero [] nodes
elements_from (suc n) so_far [] = []
elements_from (suc n) so_far (Start name attributes ∷ nodes) = elements_from (suc (suc n)) (so_far ++ Start name attributes ∷ []) nodes
elements_from (suc n) so_far (Text text ∷ nodes) = elements_from (suc n) (so_far ++ Text text ∷ []) nodes
elements_from (suc zero) so_far (End ∷ nodes) = (so_far ++ End ∷ []) ∷ elements_from zero [] nodes
elements_from (suc (suc n)) so_far (End ∷ nodes) = elements_from (suc n) (so_far ++ End ∷ []) nodes

-- the elements right inside an element
abbrev pub children : List Node → List (List Node)
children [] = []
children (Start name attributes ∷ nodes) = elements_from 0 [] nodes
children (Text text ∷ nodes) = []
children (End ∷ nodes) = []

abbrev pub name_of_element : List Node → Option Name
name_of_element [] = None
name_of_element (Start name attributes ∷ nodes) = Some name
name_of_element (Text text ∷ nodes) = None
name_of_element (End ∷ nodes) = None

abbrev pub is_dav_name : List ℕ → Name → Bool
is_dav_name local name = bytes_eq name.namespace dav_namespace && bytes_eq name.local local

-- it is one of `DAV:` with this local name
abbrev pub is_dav : List ℕ → List Node → Bool
is_dav local element = option_map_or (is_dav_name local) (name_of_element element) false

-- those of them
abbrev pub elements_named : List ℕ → List (List Node) → List (List Node)
elements_named local elements = filter (is_dav local) elements

-- none of a list, or the only one, and not where there are several
abbrev pub at_most_one : {A : Type 0} → List A → Option (Option A)
at_most_one [] = Some None
at_most_one (x ∷ []) = Some (Some x)
at_most_one (x ∷ y ∷ xs) = None

abbrev pub the_one : {A : Type 0} → List A → Option A
the_one xs = at_most_one xs >>= λ found. found

-- ---- what contracts see of the code's values

abbrev pub element_nodes : Bor (List code.Node) → List Node
element_nodes element = map node_of element.now
