-- Worked rows of PROPPATCH: what a body asks for, and what is told of it.
use Rattle.std.proofs.Common.{◌≡◌, refl, true, false, ℕ, List, [], ◌∷◌, ◌++◌, Option, None, Some, codes}
use Rattle.dav_files_core.specs.Resources.{Property}
use Rattle.dav_xml_core.specs.Documents.{Attribute, Node, Start, Text, End}
use Rattle.dav_xml_core.specs.Namespaces.{xml_namespace}
use Rattle.dav_xml_core.specs.Writing.{dav_namespace, written_alone}
use Rattle.dav_documents_core.specs.PatchBodies.{is_protected, property_name_nodes, propstats, status_nodes}
use Rattle.dav_documents_core.specs.PropertyUpdates.{Update, instructed_updates, updates_of}
use Rattle.dav_documents_core.specs.RefusalBodies.{dav_name, element}

-- an element in the namespace `urn:x`
abbrev other : List ℕ → List Attribute → List Node
other local attributes = Start (record { namespace = codes "urn:x"; local = local }) attributes ∷ Text (codes "1") ∷ End ∷ []

abbrev lang : List ℕ → Attribute
lang name = record { name = record { namespace = xml_namespace; local = codes "lang" }; value = name }

abbrev prop : List Node → List Node
prop inside = element (codes "prop") inside

abbrev update : List ℕ → List ℕ → Option (List ℕ) → Property
update namespace name xml = record { name = name; prefix = None; namespace = Some namespace; xml = xml }

-- ---- what a body asks for

in_order : updates_of (element (codes "propertyupdate") (element (codes "set") (prop (other (codes "a") [])) ++ Text (codes " ") ∷ element (codes "remove") (prop (other (codes "b") []))))
    ≡ Some ((true, update (codes "urn:x") (codes "a") (Some (written_alone (other (codes "a") [])))) ∷ (false, update (codes "urn:x") (codes "b") None) ∷ [])
unfolding instructed_updates
in_order = refl

-- the language of the nearest element around it
in_language : updates_of (Start (dav_name (codes "propertyupdate")) (lang (codes "de") ∷ []) ∷ (element (codes "set") (prop (other (codes "a") [] ++ other (codes "b") (lang (codes "fr") ∷ []))) ++ End ∷ []))
    ≡ Some ((true, update (codes "urn:x") (codes "a") (Some (written_alone (other (codes "a") (lang (codes "de") ∷ [])))))
    ∷ (true, update (codes "urn:x") (codes "b") (Some (written_alone (other (codes "b") (lang (codes "fr") ∷ []))))) ∷ [])
unfolding instructed_updates
in_language = refl

unknown_ignored : updates_of (element (codes "propertyupdate") (other (codes "set") [])) ≡ Some []
unfolding instructed_updates
unknown_ignored = refl

no_prop : updates_of (element (codes "propertyupdate") (element (codes "set") [])) ≡ None
unfolding instructed_updates
no_prop = refl

two_props : updates_of (element (codes "propertyupdate") (element (codes "set") (prop [] ++ prop []))) ≡ None
unfolding instructed_updates
two_props = refl

no_update : updates_of (element (codes "propfind") (element (codes "set") (prop []))) ≡ None
unfolding instructed_updates
no_update = refl

-- ---- what is told

abbrev tag : Update
tag = (true, update dav_namespace (codes "getetag") None)

abbrev shown : Update
shown = (true, update dav_namespace (codes "displayname") None)

abbrev elsewhere : Update
elsewhere = (false, update (codes "urn:x") (codes "getetag") None)

is_live : is_protected tag ≡ true
is_live = refl

is_dead : is_protected shown ≡ false
is_dead = refl

is_anothers : is_protected elsewhere ≡ false
is_anothers = refl

all_done : propstats (shown ∷ elsewhere ∷ [])
    ≡ element (codes "propstat") (prop (property_name_nodes (update dav_namespace (codes "displayname") None) ++ property_name_nodes (update (codes "urn:x") (codes "getetag") None))
    ++ status_nodes (codes "HTTP/1.1 200 OK"))
all_done = refl

one_protected : propstats (shown ∷ tag ∷ [])
    ≡ element (codes "propstat") (prop (property_name_nodes (update dav_namespace (codes "getetag") None)) ++ status_nodes (codes "HTTP/1.1 403 Forbidden")
    ++ element (codes "error") (element (codes "cannot-modify-protected-property") []))
    ++ element (codes "propstat") (prop (property_name_nodes (update dav_namespace (codes "displayname") None)) ++ status_nodes (codes "HTTP/1.1 424 Failed Dependency"))
one_protected = refl

only_protected : propstats (tag ∷ [])
    ≡ element (codes "propstat") (prop (property_name_nodes (update dav_namespace (codes "getetag") None)) ++ status_nodes (codes "HTTP/1.1 403 Forbidden")
    ++ element (codes "error") (element (codes "cannot-modify-protected-property") []))
only_protected = refl
