-- What a PROPPATCH asks for is what its body has: each property at its place there (RFC 4918
-- sections 4.3, 4.4, 9.2, 14.19 and 14.26).
use Rattle.std.specs.Prelude.{◌≡◌, ℕ, Bool, List, [], ◌∷◌, Contains, Some, codes, if◌then◌else◌}
use Rattle.std.specs.List.{AllPairs, AllZip}
use Rattle.dav_xml_core.specs.Documents.{Name, Node}
use Rattle.dav_xml_core.specs.Reading.{document_of}
use Rattle.dav_documents_core.specs.Elements.{name_of_element}
use Rattle.dav_documents_core.specs.ElementPlaces.{ElementPlace, StandsBefore, HasElementAt, element_with_lang, lang_around, names_around}
use Rattle.dav_documents_core.specs.PropertyUpdates.{Update, kept_property}
use Rattle.dav_documents_core.specs.RefusalBodies.{dav_name}

-- the elements around a property that is to be set, or removed, the innermost first
abbrev pub names_around_property : Bool → List Name
names_around_property set =
    dav_name (codes "prop") ∷ dav_name (if set then codes "set" else codes "remove")
    ∷ dav_name (codes "propertyupdate") ∷ []

-- such a property has its place there
pub record IsPropertyOf (nodes : List Node) (set : Bool) (place : ElementPlace) : Type 0 where
  pub stands : HasElementAt nodes place
  pub within : names_around place ≡ names_around_property set

-- The update is that of the element at the place: of one that is set the element is kept, in the
-- language around it, and the bytes are read as this.
pub record IsUpdateAt (nodes : List Node) (place : ElementPlace) (update : Update) : Type 0 where
  pub property : IsPropertyOf nodes update.0 place
  pub name : Name
  pub named : name_of_element place.element ≡ Some name
  pub kept : update.1 ≡ kept_property update.0 (lang_around place) name place.element
  pub is_read : (xml : List ℕ) → update.1.xml ≡ Some xml
      → document_of xml ≡ Some (element_with_lang place)

-- The updates are those of the properties in a body, in order, and none is left out.
pub record AreSentUpdates (body : List ℕ) (updates : List Update) : Type 0 where
  pub nodes : List Node
  pub spelled : document_of body ≡ Some nodes
  pub places : List ElementPlace
  pub each : AllZip (IsUpdateAt nodes) places updates
  pub order : AllPairs StandsBefore places
  pub all : (set : Bool) (place : ElementPlace) → IsPropertyOf nodes set place
      → Contains places place
