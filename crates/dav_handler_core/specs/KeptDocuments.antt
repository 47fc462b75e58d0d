-- What the stores keep of XML can be read, and so can each document that the server tells (XML 1.0 section 2.1, RFC 4918 sections 4.4 and 8.2).
use Rattle.std.specs.Prelude.{◌≡◌, ℕ, Bool, true, false, [], ◌∷◌, Option, Some}
use Rattle.std.specs.List.{AllByRecursion}
use Rattle.dav_path_core.specs.declared.util.DavMethod.{DavMethod}
use Rattle.dav_path_core.specs.declared.util.DavMethod.TheVariants as method
use Rattle.dav_path_core.specs.Fronts.{Path}
use Rattle.dav_files_core.specs.Outcomes.{start}
use Rattle.dav_files_core.specs.Resources.{IsResourceMap, Resource, at_path}
use Rattle.dav_locks_core.specs.Exclusive.{Exclusive}
use Rattle.dav_locks_core.specs.Stale.{without_stale}
use Rattle.dav_handler_core.specs.Server.{Server}
use Rattle.dav_fields_core.specs.Fields.{Sent, sent_types}
use Rattle.dav_documents_core.specs.KeptElements.{AreKept, IsDocument, IsKeptLock}
use Rattle.dav_documents_core.specs.RefusalBodies.{xml_type}

-- ---- what is kept

-- what is kept of a server's resources and of its locks that last can be read
pub record KeepsElements (s : Server) : Type 0 where
  pub exclusive : Exclusive s.state.locks
  pub shape : IsResourceMap s.state.map
  pub properties : (p : Path) (r : Resource) → at_path s.state.map p ≡ Some r → AreKept r.node.props
  pub locks : AllByRecursion IsKeptLock (without_stale s.last s.state.locks)

-- a server begins with new stores, and so without a lock or a property
pub record IsNew (s : Server) : Type 0 where
  pub now : ℕ
  pub map : s.state.map ≡ start now
  pub locks : s.state.locks ≡ []

-- ---- what is told

-- what is told is a document, and told to be XML
pub record TellsXml (sent : Sent) : Type 0 where
  pub document : IsDocument sent.body
  pub typed : sent_types sent.fields ≡ xml_type ∷ []

-- what was done by one of these methods is told so
abbrev pub is_told_in_xml : Option DavMethod → Bool
is_told_in_xml (Some method.PropFind) = true
is_told_in_xml (Some method.PropPatch) = true
is_told_in_xml (Some method.Lock) = true
is_told_in_xml _ = false
