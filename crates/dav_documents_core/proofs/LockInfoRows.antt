-- Worked rows of what a LOCK asks for.
use Rattle.std.proofs.Common.{ℕ, ◌≡◌, refl, true, false, List, [], ◌∷◌, ◌++◌, None, Some, codes}
use Rattle.dav_xml_core.specs.Documents.{Attribute, Node, Start, Text, End}
use Rattle.dav_xml_core.specs.Writing.{written_alone}
use Rattle.dav_documents_core.specs.LockInfos.{is_shared, is_write, lock_info_by, lock_info_of}
use Rattle.dav_documents_core.specs.PropertyUpdates.{lang_attribute}
use Rattle.dav_documents_core.specs.RefusalBodies.{dav_name, element}

abbrev scope_of : List Node → List Node
scope_of inside = element (codes "lockscope") inside

abbrev exclusive : List Node
exclusive = scope_of (element (codes "exclusive") [])

abbrev shared : List Node
shared = scope_of (element (codes "shared") [])

abbrev write : List Node
write = element (codes "locktype") (element (codes "write") [])

-- what no reader knows is ignored (RFC 4918 section 17)
abbrev unknown : List Node
unknown = Start (record { namespace = codes "urn:x"; local = codes "lockscope" }) [] ∷ End ∷ []

abbrev info : List Node → List Node
info inside = element (codes "lockinfo") inside

for_one : lock_info_of (info (exclusive ++ Text (codes " ") ∷ write)) ≡ Some (record { shared = false; owner = None })
unfolding lock_info_by is_shared is_write
for_one = refl

for_many : lock_info_of (info (write ++ unknown ++ shared)) ≡ Some (record { shared = true; owner = None })
unfolding lock_info_by is_shared is_write
for_many = refl

no_scope : lock_info_of (info write) ≡ None
unfolding lock_info_by is_shared is_write
no_scope = refl

two_scopes : lock_info_of (info (exclusive ++ shared ++ write)) ≡ None
unfolding lock_info_by is_shared is_write
two_scopes = refl

both_in_one : lock_info_of (info (scope_of (element (codes "exclusive") [] ++ element (codes "shared") []) ++ write)) ≡ None
unfolding lock_info_by is_shared is_write
both_in_one = refl

no_type : lock_info_of (info exclusive) ≡ None
unfolding lock_info_by is_shared is_write
no_type = refl

two_owners : lock_info_of (info (exclusive ++ write ++ element (codes "owner") [] ++ element (codes "owner") [])) ≡ None
unfolding lock_info_by is_shared is_write
two_owners = refl

no_lock_info : lock_info_of (element (codes "propfind") (exclusive ++ write)) ≡ None
unfolding lock_info_by is_shared is_write
no_lock_info = refl

-- an owner has the language that holds around it, where it has none of its own (RFC 4918 section 4.3)
abbrev in_language : List ℕ → List Node → List Node
in_language lang inside = Start (dav_name (codes "lockinfo")) (lang_attribute lang ∷ []) ∷ (inside ++ End ∷ [])

abbrev owner : List Attribute → List Node
owner attributes = Start (dav_name (codes "owner")) attributes ∷ End ∷ []

language_around : lock_info_of (in_language (codes "en") (exclusive ++ write ++ owner []))
    ≡ Some (record { shared = false; owner = Some (written_alone (owner (lang_attribute (codes "en") ∷ []))) })
unfolding lock_info_by is_shared is_write
language_around = refl

own_language : lock_info_of (in_language (codes "en") (exclusive ++ write ++ owner (lang_attribute (codes "fr") ∷ [])))
    ≡ Some (record { shared = false; owner = Some (written_alone (owner (lang_attribute (codes "fr") ∷ []))) })
unfolding lock_info_by is_shared is_write
own_language = refl
