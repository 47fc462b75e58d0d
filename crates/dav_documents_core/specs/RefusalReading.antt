-- That what a refusal tells can be read (own).
use Rattle.std.specs.Prelude.{◌≡◌, ℕ, List, ◌∷◌, Some}
use Rattle.dav_path_core.specs.PathText.{PathText}
use Rattle.dav_xml_core.specs.Documents.{Node}
use Rattle.dav_xml_core.specs.Reading.{document_of}
use Rattle.dav_xml_core.specs.Writing.{document_bytes}
use Rattle.dav_faults_core.specs.declared.faults.Fault.{Fault}
use Rattle.dav_faults_core.specs.declared.faults.Fault.TheVariants as fault
use Rattle.dav_documents_core.specs.RefusalBodies.{refusal_nodes}

-- the path that it tells, where it tells one, begins with a slash, as each path that is read does (RFC 3986 section 3.3)
abbrev pub IsRooted : PathText → Type 0
IsRooted path = (rest : List ℕ) × (path.bytes ≡ 47 ∷ rest)

abbrev pub HasPath : Fault → Type 0
HasPath (fault.Locked path) = IsRooted path
HasPath (fault.ConflictingLock path) = IsRooted path
HasPath (fault.MemberLocked path) = IsRooted path
HasPath (fault.ConflictingMember at path) = IsRooted at × IsRooted path
HasPath _ = Unit {0}

-- the bytes of its document are read as the document's nodes
abbrev pub IsReadAsTold : List ℕ → Fault → Type 0
IsReadAsTold prefix e = (nodes : List Node) → refusal_nodes prefix e ≡ Some nodes → document_of (document_bytes nodes) ≡ Some nodes
