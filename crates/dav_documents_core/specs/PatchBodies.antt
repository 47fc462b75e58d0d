-- What is told of a PROPPATCH that is served (RFC 4918 sections 9.2.1, 11, 13 and 16).
use Rattle.std.specs.Prelude.{ℕ, Bool, true, false, not, ◌&&◌, bytes_eq, List, [], ◌∷◌, ◌++◌, codes, unwrap_or, if◌then◌else◌}
use Rattle.std.specs.List.{list_all, list_any}
use Rattle.dav_path_core.specs.PathText.{PathText}
use Rattle.dav_files_core.specs.Resources.{Property}
use Rattle.dav_xml_core.specs.Documents.{Node, Start, Text, End}
use Rattle.dav_xml_core.specs.Writing.{dav_namespace}
use Rattle.dav_documents_core.specs.LiveProperties.{is_live_word}
use Rattle.dav_documents_core.specs.PropertyUpdates.{Update}
use Rattle.dav_documents_core.specs.RefusalBodies.{element, href}

-- ---- which properties no request changes

abbrev pub namespace_of : Property → List ℕ
namespace_of p = unwrap_or p.namespace []

-- one that the server keeps itself (section 15)
abbrev pub is_live : Property → Bool
is_live p = bytes_eq (namespace_of p) dav_namespace && is_live_word p.name

abbrev pub is_protected : Update → Bool
is_protected update = is_live update.1

abbrev pub any_protected : List Update → Bool
any_protected updates = list_any is_protected updates

abbrev pub all_protected : List Update → Bool
all_protected updates = list_all is_protected updates

-- ---- the document

-- an empty element with the name of the property
abbrev pub property_name_nodes : Property → List Node
property_name_nodes p = Start (record { namespace = namespace_of p; local = p.name }) [] ∷ End ∷ []

-- protected or not, as asked
abbrev pub is_chosen : Bool → Update → Bool
is_chosen true update = is_protected update
is_chosen false update = not (is_protected update)

-- the names of those, in the order of the body
abbrev pub names_nodes : Bool → List Update → List Node
names_nodes protected [] = []
names_nodes protected (update ∷ updates) = (if is_chosen protected update then property_name_nodes update.1 else []) ++ names_nodes protected updates

abbrev pub prop_nodes : Bool → List Update → List Node
prop_nodes protected updates = element (codes "prop") (names_nodes protected updates)

abbrev pub status_nodes : List ℕ → List Node
status_nodes status = element (codes "status") (Text status ∷ [])

-- those that are not protected have this status
abbrev pub others_nodes : List ℕ → List Update → List Node
others_nodes status updates = element (codes "propstat") (prop_nodes false updates ++ status_nodes status)

-- and the protected ones can't be changed
abbrev pub protected_nodes : List Update → List Node
protected_nodes updates =
    element (codes "propstat") ((prop_nodes true updates ++ status_nodes (codes "HTTP/1.1 403 Forbidden"))
    ++ element (codes "error") (element (codes "cannot-modify-protected-property") []))

-- All are changed. Or some are protected, and then none is.
abbrev pub propstats : List Update → List Node
propstats updates =
    if any_protected updates
    then protected_nodes updates ++ (if all_protected updates then [] else others_nodes (codes "HTTP/1.1 424 Failed Dependency") updates)
    else others_nodes (codes "HTTP/1.1 200 OK") updates

abbrev pub patch_nodes : List ℕ → PathText → List Update → List Node
patch_nodes prefix path updates = element (codes "multistatus") (element (codes "response") (href prefix path ++ propstats updates))
