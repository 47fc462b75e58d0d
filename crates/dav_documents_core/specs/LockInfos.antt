-- What the body of a LOCK asks for (RFC 4918 sections 9.10.1 and 14.11).
use Rattle.std.specs.Prelude.{ℕ, Bool, true, false, List, Option, None, Some, codes, is_some, option_map}
use Rattle.dav_xml_core.specs.Documents.{Node}
use Rattle.dav_xml_core.specs.Optional.{◌>>=◌, when}
use Rattle.dav_xml_core.specs.Reading.{document_of}
use Rattle.dav_xml_core.specs.Writing.{written_alone}
use Rattle.dav_documents_core.specs.Elements.{at_most_one, children, is_dav, elements_named, the_one}
use Rattle.dav_documents_core.specs.PropertyUpdates.{own_lang, with_lang}

-- whether others may hold a lock there, too, and the XML that is kept of the owner
pub record LockInfo : Type 0 where
  pub shared : Bool
  pub owner : Option (List ℕ)

-- of the elements `exclusive` and `shared` one is there (section 14.13)
abbrev pub one_scope : Option (List Node) → Option (List Node) → Option Bool
one_scope (Some exclusive) None = Some false
one_scope None (Some shared) = Some true
one_scope (Some exclusive) (Some shared) = None
one_scope None None = None

unfoldable pub is_shared : List Node → Option Bool
is_shared scope =
    at_most_one (elements_named (codes "exclusive") (children scope)) >>= λ exclusive.
    at_most_one (elements_named (codes "shared") (children scope)) >>= λ shared. one_scope exclusive shared

-- the type of a lock has one `write` in it (section 14.15)
unfoldable pub is_write : List Node → Bool
is_write type = is_some (the_one (elements_named (codes "write") (children type)))

-- the owner as XML that means the same in any document (section 14.17), in the language around it (section 4.3)
abbrev pub owner_text : Option (List ℕ) → Option (List Node) → Option (List ℕ)
owner_text lang owner = option_map (λ element. written_alone (with_lang lang element)) owner

-- by the elements inside of a `lockinfo` in a language; others are ignored (section 17)
unfoldable pub lock_info_by : Option (List ℕ) → List (List Node) → Option LockInfo
lock_info_by lang inside =
    the_one (elements_named (codes "lockscope") inside) >>= λ scope. is_shared scope >>= λ shared.
    the_one (elements_named (codes "locktype") inside) >>= λ type. when (is_write type) type >>= λ write.
    at_most_one (elements_named (codes "owner") inside) >>= λ owner. Some (record { shared = shared; owner = owner_text lang owner })

-- by the nodes of a document
abbrev pub lock_info_of : List Node → Option LockInfo
lock_info_of nodes = when (is_dav (codes "lockinfo") nodes) (children nodes) >>= lock_info_by (own_lang nodes)

-- by the bytes of a body
abbrev pub lock_info_in : List ℕ → Option LockInfo
lock_info_in body = document_of body >>= lock_info_of
