-- What a LOCK keeps of its owner is what its body has (RFC 4918 sections 4.3, 14.11 and 14.17).
use Rattle.std.specs.Prelude.{◌≡◌, ℕ, List, [], ◌∷◌, Option, None, Some, codes}
use Rattle.dav_xml_core.specs.Documents.{Node}
use Rattle.dav_xml_core.specs.Reading.{document_of}
use Rattle.dav_xml_core.specs.Writing.{written_alone}
use Rattle.dav_documents_core.specs.Elements.{name_of_element}
use Rattle.dav_documents_core.specs.ElementPlaces.{ElementPlace, HasElementAt, element_with_lang, names_around}
use Rattle.dav_documents_core.specs.RefusalBodies.{dav_name}

-- an `owner` has its place there, right in the `lockinfo`
pub record IsOwnerOf (nodes : List Node) (place : ElementPlace) : Type 0 where
  pub stands : HasElementAt nodes place
  pub within : names_around place ≡ dav_name (codes "lockinfo") ∷ []
  pub named : name_of_element place.element ≡ Some (dav_name (codes "owner"))

-- The text is written of the only one, in the language around it, and is read as this.
pub record IsOwnerText (nodes : List Node) (text : List ℕ) : Type 0 where
  pub place : ElementPlace
  pub owner : IsOwnerOf nodes place
  pub only : (other : ElementPlace) → IsOwnerOf nodes other → other ≡ place
  pub kept : text ≡ written_alone (element_with_lang place)
  pub is_read : document_of text ≡ Some (element_with_lang place)

-- none is kept where none is there
abbrev pub IsOwnerIn : List Node → Option (List ℕ) → Type 0
IsOwnerIn nodes None = (place : ElementPlace) → ¬ IsOwnerOf nodes place
IsOwnerIn nodes (Some text) = IsOwnerText nodes text

-- what is kept is the owner in a body
pub record IsSentOwner (body : List ℕ) (kept : Option (List ℕ)) : Type 0 where
  pub nodes : List Node
  pub spelled : document_of body ≡ Some nodes
  pub owner : IsOwnerIn nodes kept
