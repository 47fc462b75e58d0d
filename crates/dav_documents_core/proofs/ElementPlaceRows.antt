-- Worked rows of where elements stand in a document, and which of them a PROPPATCH and a LOCK name.
use Rattle.std.proofs.Common.{◌≡◌, refl, true, false, ℕ, arith, List, [], ◌∷◌, ◌++◌, None, codes}
use Rattle.dav_xml_core.specs.Documents.{Attribute, Node, Start, Text, End}
use Rattle.dav_documents_core.specs.ElementPlaces.{ElementPlace, StandsBefore, element_with_lang, lang_around, names_around}
use Rattle.dav_documents_core.specs.PropertyUpdates.{lang_attribute}
use Rattle.dav_documents_core.specs.RefusalBodies.{dav_name, element}
use Rattle.dav_documents_core.specs.SentOwners.{IsOwnerOf}
use Rattle.dav_documents_core.specs.SentUpdates.{IsPropertyOf}

abbrev begin : List ℕ → List Node
begin local = Start (dav_name local) [] ∷ []

-- an element in the namespace `urn:x`
abbrev other : List ℕ → List Attribute → List Node
other local attributes = Start (record {
  namespace = codes "urn:x";
  local = local;
}) attributes ∷ Text (codes "1") ∷ End ∷ []

abbrev first : List Node
first = Start (dav_name (codes "propertyupdate")) (lang_attribute (codes "de") ∷ []) ∷ (begin
    (codes "set") ++ begin (codes "prop"))

abbrev a : List Node
a = other (codes "a") []

abbrev b : List Node
b = other (codes "b") (lang_attribute (codes "fr") ∷ [])

-- sets `a` and `b`, and removes `a`
abbrev body : List Node
body = first ++ a ++ b ++ End ∷ End ∷ (begin (codes "remove") ++ begin
    (codes "prop") ++ a ++ End ∷ End ∷ End ∷ [])

abbrev place_of_a : ElementPlace
place_of_a = record { before = first; element = a }

a_is_set : IsPropertyOf body true place_of_a
a_is_set = record {
  stands = record {
    behind = b ++ End ∷ End ∷ (begin (codes "remove") ++ begin
        (codes "prop") ++ a ++ End ∷ End ∷ End ∷ []);
    split = refl;
    whole = refl;
  };
  within = refl;
}

-- in the language of the root
a_in_german : element_with_lang place_of_a ≡ other (codes "a") (lang_attribute (codes "de") ∷ [])
a_in_german = refl

abbrev place_of_b : ElementPlace
place_of_b = record { before = first ++ a; element = b }

b_is_set : IsPropertyOf body true place_of_b
b_is_set = record {
  stands = record {
    behind = End ∷ End ∷ (begin (codes "remove") ++ begin
        (codes "prop") ++ a ++ End ∷ End ∷ End ∷ []);
    split = refl;
    whole = refl;
  };
  within = refl;
}

-- in its own
b_in_french : element_with_lang place_of_b ≡ b
b_in_french = refl

a_before_b : StandsBefore place_of_a place_of_b
a_before_b = omega arith

-- the same element at its other place
abbrev place_removed : ElementPlace
place_removed = record {
  before = first ++ a ++ b ++ End ∷ End ∷ (begin (codes "remove") ++ begin
      (codes "prop"));
  element = a;
}

a_is_removed : IsPropertyOf body false place_removed
a_is_removed = record {
  stands = record {
    behind = End ∷ End ∷ End ∷ [];
    split = refl;
    whole = refl;
  };
  within = refl;
}

-- the `prop` stands around properties, and is none
prop_is_none : names_around (record {
  before = Start (dav_name (codes "propertyupdate")) [] ∷ begin
      (codes "set");
  element = element (codes "prop") [];
})
    ≡ dav_name (codes "set") ∷ dav_name (codes "propertyupdate") ∷ []
prop_is_none = refl

no_language : lang_around (record { before = begin (codes "propertyupdate"); element = a }) ≡ None
no_language = refl

-- ---- an owner

abbrev info : List Node
info = begin (codes "lockinfo") ++ element (codes "locktype")
    (element (codes "write") []) ++ element (codes "owner") (Text (codes "me") ∷ []) ++ End ∷ []

is_owner : IsOwnerOf info (record {
  before = begin (codes "lockinfo") ++ element (codes "locktype")
      (element (codes "write") []);
  element = element (codes "owner") (Text (codes "me") ∷ []);
})
is_owner = record {
  stands = record { behind = End ∷ []; split = refl; whole = refl };
  within = refl;
  named = refl;
}
