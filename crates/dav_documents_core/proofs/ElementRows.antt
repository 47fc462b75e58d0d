-- Worked rows of the elements in a document.
use Rattle.std.proofs.Common.{◌≡◌, refl, true, false, [], ◌∷◌, ◌++◌, codes}
use Rattle.dav_xml_core.specs.Documents.{Start, Text, End}
use Rattle.dav_documents_core.specs.Elements.{children, is_dav}
use Rattle.dav_documents_core.specs.RefusalBodies.{dav_name, element}

-- texts between elements are left out, and what is inside of one is not parted
two_of_three : children (element (codes "a") (Text (codes "t") ∷ element (codes "b") (element (codes "c") [] ++ Text (codes "u") ∷ []) ++ Text (codes "v") ∷ element (codes "d") []))
    ≡ element (codes "b") (element (codes "c") [] ++ Text (codes "u") ∷ []) ∷ element (codes "d") [] ∷ []
two_of_three = refl

one_below_another : children (element (codes "a") (element (codes "b") (element (codes "b") []))) ≡ element (codes "b") (element (codes "b") []) ∷ []
one_below_another = refl

none_in_text : children (element (codes "a") (Text (codes "t") ∷ [])) ≡ []
none_in_text = refl

-- nodes that are no element have none, and neither has one that doesn't end
none_of_text : children (Text (codes "t") ∷ element (codes "b") []) ≡ []
none_of_text = refl

not_ended : children (Start (dav_name (codes "a")) [] ∷ Start (dav_name (codes "b")) [] ∷ Text (codes "t") ∷ []) ≡ []
not_ended = refl

is_a : is_dav (codes "a") (element (codes "a") []) ≡ true
is_a = refl

is_no_b : is_dav (codes "b") (element (codes "a") []) ≡ false
is_no_b = refl

-- the same local name in another namespace, or in none
is_anothers : is_dav (codes "a") (Start (record { namespace = codes "urn:x"; local = codes "a" }) [] ∷ End ∷ []) ≡ false
is_anothers = refl

is_in_none : is_dav (codes "a") (Start (record { namespace = []; local = codes "a" }) [] ∷ End ∷ []) ≡ false
is_in_none = refl
