-- What the answer to a PROPFIND tells of resources (RFC 4918 sections 9.1, 14 and 15).
use Rattle.std.specs.Prelude.{ℕ, Bool, true, not, ◌&&◌, ◌||◌, List, [], ◌∷◌, ◌++◌, codes, decimal, flat_map, bytes_eq, Option, None, Some, is_some, unwrap_or, if◌then◌else◌}
use Rattle.std.specs.List.{list_any}
use Rattle.dav_xml_core.specs.Documents.{Name, Node, Start, Text, End}
use Rattle.dav_xml_core.specs.Reading.{is_empty}
use Rattle.dav_files_core.specs.Resources.{Property}
use Rattle.dav_locks_core.specs.Lock.{Lock}
use Rattle.dav_documents_core.specs.declared.live_properties.Live.{Live}
use Rattle.dav_documents_core.specs.declared.live_properties.Live.TheVariants as live
use Rattle.dav_documents_core.specs.LiveProperties.{has_live, live_named, live_properties, live_word}
use Rattle.dav_documents_core.specs.LockDocuments.{lock_discovery, supported_locks}
use Rattle.dav_documents_core.specs.Pieces.{DocumentPiece, Kept, enclosed_pieces, made_pieces}
use Rattle.dav_documents_core.specs.PropertyQuestions.{Question, All, Names, Listed, asked_names}
use Rattle.dav_documents_core.specs.RefusalBodies.{dav_name, element}

-- what may be told of a resource; the dates are texts
pub record Description : Type 0 where
  pub url : List ℕ
  pub folder : Bool
  pub size : ℕ
  pub content_type : List ℕ
  pub tag : List ℕ
  pub created : List ℕ
  pub modified : List ℕ
  pub props : List Property
  pub locks : List Lock

-- ---- live properties

abbrev pub text_element : List ℕ → List ℕ → List Node
text_element local text = element local (Text text ∷ [])

abbrev pub type_nodes : Bool → List Node
type_nodes folder =
    if folder then element (codes "resourcetype") (element (codes "collection") []) else element (codes "resourcetype") []

-- as the principal sees it at a moment, behind the prefix of the server
abbrev pub live_pieces : List ℕ → Option (List ℕ) → ℕ → Description → Live → List DocumentPiece
live_pieces prefix principal now d live.CreationDate = made_pieces (text_element (codes "creationdate") d.created)
live_pieces prefix principal now d live.ContentLength = made_pieces (text_element (codes "getcontentlength") (decimal d.size))
live_pieces prefix principal now d live.ContentType = made_pieces (text_element (codes "getcontenttype") d.content_type)
live_pieces prefix principal now d live.Tag = made_pieces (text_element (codes "getetag") d.tag)
live_pieces prefix principal now d live.LastModified = made_pieces (text_element (codes "getlastmodified") d.modified)
live_pieces prefix principal now d live.Locks = lock_discovery prefix principal now d.locks
live_pieces prefix principal now d live.ResourceType = made_pieces (type_nodes d.folder)
live_pieces prefix principal now d live.SupportedLocks = made_pieces supported_locks

-- where the resource has it
abbrev pub own_pieces : List ℕ → Option (List ℕ) → ℕ → Description → Live → List DocumentPiece
own_pieces prefix principal now d property = if has_live d.folder property then live_pieces prefix principal now d property else []

-- ---- dead properties

abbrev pub name_of_property : Property → Name
name_of_property p = record { namespace = unwrap_or p.namespace []; local = p.name }

abbrev pub is_named : Name → Property → Bool
is_named name p = bytes_eq (unwrap_or p.namespace []) name.namespace && bytes_eq p.name name.local

-- the element that was set with the name
abbrev pub dead_value : List Property → Name → Option (List ℕ)
dead_value [] name = None
dead_value (p ∷ props) name = if is_named name p then p.xml else dead_value props name

abbrev pub kept_pieces : Option (List ℕ) → List DocumentPiece
kept_pieces None = []
kept_pieces (Some xml) = Kept xml ∷ []

-- the server makes none with its name, and it has an element
abbrev pub is_dead : Property → Bool
is_dead p = not (is_some (live_named (name_of_property p))) && is_some p.xml

abbrev pub dead_pieces : Property → List DocumentPiece
dead_pieces p = if is_dead p then kept_pieces p.xml else []

-- ---- a property by its name

abbrev pub has_value_by : Description → Name → Option Live → Bool
has_value_by d name (Some property) = has_live d.folder property
has_value_by d name None = is_some (dead_value d.props name)

abbrev pub has_value : Description → Name → Bool
has_value d name = has_value_by d name (live_named name)

abbrev pub value_by : List ℕ → Option (List ℕ) → ℕ → Description → Name → Option Live → List DocumentPiece
value_by prefix principal now d name (Some property) = own_pieces prefix principal now d property
value_by prefix principal now d name None = kept_pieces (dead_value d.props name)

abbrev pub value_pieces : List ℕ → Option (List ℕ) → ℕ → Description → Name → List DocumentPiece
value_pieces prefix principal now d name = value_by prefix principal now d name (live_named name)

-- the name alone
abbrev pub name_nodes : Name → List Node
name_nodes name = Start name [] ∷ End ∷ []

abbrev pub missing_nodes : Description → Name → List Node
missing_nodes d name = if has_value d name then [] else name_nodes name

abbrev pub own_name_nodes : Description → Live → List Node
own_name_nodes d property = if has_live d.folder property then name_nodes (dav_name (live_word property)) else []

abbrev pub dead_name_nodes : Property → List Node
dead_name_nodes p = if is_dead p then name_nodes (name_of_property p) else []

-- ---- what a question finds, and what it doesn't

abbrev pub found_pieces : List ℕ → Option (List ℕ) → ℕ → Description → Question → List DocumentPiece
found_pieces prefix principal now d (All included) = flat_map (own_pieces prefix principal now d) live_properties ++ flat_map dead_pieces d.props
found_pieces prefix principal now d Names = made_pieces (flat_map (own_name_nodes d) live_properties ++ flat_map dead_name_nodes d.props)
found_pieces prefix principal now d (Listed names) = flat_map (value_pieces prefix principal now d) names

-- it finds something, or it asks for nothing
abbrev pub finds : Description → Question → Bool
finds d (Listed names) = is_empty names || list_any (has_value d) names
finds d _ = true

abbrev pub lacks : Description → List Name → Bool
lacks d names = list_any (λ name. not (has_value d name)) names

abbrev pub propstat : List ℕ → List DocumentPiece → List DocumentPiece
propstat status inside = enclosed_pieces (codes "propstat") (enclosed_pieces (codes "prop") inside ++ made_pieces (text_element (codes "status") status))

abbrev pub found_stat : List ℕ → Option (List ℕ) → ℕ → Question → Description → List DocumentPiece
found_stat prefix principal now question d =
    if finds d question then propstat (codes "HTTP/1.1 200 OK") (found_pieces prefix principal now d question) else []

-- of these names
abbrev pub missing_of : List Name → Description → List DocumentPiece
missing_of names d = if lacks d names then propstat (codes "HTTP/1.1 404 Not Found") (made_pieces (flat_map (missing_nodes d) names)) else []

abbrev pub missing_stat : Question → Description → List DocumentPiece
missing_stat question d = missing_of (asked_names question) d

-- ---- the document

abbrev pub response_pieces : List ℕ → Option (List ℕ) → ℕ → Question → Description → List DocumentPiece
response_pieces prefix principal now question d =
    enclosed_pieces (codes "response") (made_pieces (text_element (codes "href") d.url) ++ (found_stat prefix principal now question d ++ missing_stat question d))

-- a response for each resource, in order
abbrev pub multistatus : List ℕ → Option (List ℕ) → ℕ → Question → List Description → List DocumentPiece
multistatus prefix principal now question resources =
    enclosed_pieces (codes "multistatus") (flat_map (response_pieces prefix principal now question) resources)
