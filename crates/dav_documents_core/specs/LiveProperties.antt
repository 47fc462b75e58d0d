-- The properties that the server makes itself, which no client sets (RFC 4918 section 15).
use Rattle.std.specs.Prelude.{ℕ, Bool, true, not, ◌&&◌, List, [], ◌∷◌, Option, bytes_eq, codes}
use Rattle.std.specs.List.{find, list_any}
use Rattle.dav_xml_core.specs.Documents.{Name}
use Rattle.dav_xml_core.specs.Writing.{dav_namespace}
use Rattle.dav_documents_core.specs.declared.live_properties.Live.{Live}
use Rattle.dav_documents_core.specs.declared.live_properties.Live.TheVariants as live

-- all of them, in the order in which they are told
abbrev pub live_properties : List Live
live_properties =
    live.CreationDate ∷ live.ContentLength ∷ live.ContentType ∷ live.Tag ∷ live.LastModified ∷ live.Locks ∷ live.ResourceType ∷ live.SupportedLocks ∷ []

-- the local name, in `DAV:`
abbrev pub live_word : Live → List ℕ
live_word live.CreationDate = codes "creationdate"
live_word live.ContentLength = codes "getcontentlength"
live_word live.ContentType = codes "getcontenttype"
live_word live.Tag = codes "getetag"
live_word live.LastModified = codes "getlastmodified"
live_word live.Locks = codes "lockdiscovery"
live_word live.ResourceType = codes "resourcetype"
live_word live.SupportedLocks = codes "supportedlock"

-- whether it is the local name of one
abbrev pub is_live_word : List ℕ → Bool
is_live_word word = list_any (λ property. bytes_eq (live_word property) word) live_properties

abbrev pub is_live_by : Name → Live → Bool
is_live_by name property = bytes_eq name.namespace dav_namespace && bytes_eq name.local (live_word property)

-- the one with the name
abbrev pub live_named : Name → Option Live
live_named name = find (is_live_by name) live_properties

-- a folder, or a file, has it: a folder has no bytes of its own
abbrev pub has_live : Bool → Live → Bool
has_live folder live.ContentLength = not folder
has_live folder live.ContentType = not folder
has_live folder live.Tag = not folder
has_live folder _ = true
