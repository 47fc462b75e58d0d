-- What is told of a refusal beside its status: a document that says why (RFC 4918 sections 9.6.2, 13 and 16).
use Rattle.std.specs.Prelude.{ℕ, ◌-◌, List, [], ◌∷◌, ◌++◌, length, take, codes, Option, None, Some, if◌then◌else◌}
use Rattle.dav_path_core.specs.PathText.{PathText}
use Rattle.dav_path_core.specs.PathReading.{ends_in_slash}
use Rattle.dav_path_core.specs.Url.{url}
use Rattle.dav_xml_core.specs.Documents.{Node, Start, Text, End}
pub use Rattle.dav_xml_core.specs.Writing.{dav_name}
use Rattle.dav_faults_core.specs.declared.faults.Fault.{Fault}
use Rattle.dav_faults_core.specs.declared.faults.Fault.TheVariants as fault

-- ---- the documents

-- the prefix as it stands before a path: without a slash at its end
abbrev pub front : List ℕ → List ℕ
front prefix = if ends_in_slash prefix then take (length prefix - 1) prefix else prefix

-- the path of a URL that stands behind the prefix (RFC 4918 section 8.3)
abbrev pub url_path : List ℕ → PathText → List ℕ
url_path prefix path = url (front prefix) ++ url path.bytes

-- an element of `DAV:` with these nodes in it
abbrev pub element : List ℕ → List Node → List Node
element local inside = Start (dav_name local) [] ∷ (inside ++ End ∷ [])

abbrev pub href : List ℕ → PathText → List Node
href prefix path = element (codes "href") (Text (url_path prefix path) ∷ [])

-- a lock stands in the way, at the path
abbrev pub lock_nodes : List ℕ → PathText → List Node
lock_nodes prefix path = element (codes "error") (element (codes "lock-token-submitted") (href prefix path))

-- another lock lets this one not be granted
abbrev pub conflict_nodes : List ℕ → PathText → List Node
conflict_nodes prefix path = element (codes "error") (element (codes "no-conflicting-lock") (href prefix path))

-- a lock of a member stands in the way
abbrev pub member_nodes : List ℕ → PathText → List Node
member_nodes prefix path =
    element (codes "multistatus") (element (codes "response") (href prefix path
    ++ element (codes "status") (Text (codes "HTTP/1.1 423 Locked") ∷ []) ++ element (codes "error") (element (codes "lock-token-submitted") [])))

-- a response that tells of a path by a status, and why (RFC 4918 section 14.24)
abbrev pub told_response : List ℕ → PathText → List ℕ → List Node → List Node
told_response prefix path status why = element (codes "response") (href prefix path ++ (element (codes "status") (Text status ∷ []) ++ why))

-- a lock of a member lets none be granted at the path
abbrev pub conflict_below_nodes : List ℕ → PathText → PathText → List Node
conflict_below_nodes prefix at path =
    element (codes "multistatus") (told_response prefix at (codes "HTTP/1.1 423 Locked") (element (codes "error") (element (codes "no-conflicting-lock") []))
    ++ told_response prefix path (codes "HTTP/1.1 424 Failed Dependency") [])

-- no lock with the token covers the path
abbrev pub no_lock_nodes : List Node
no_lock_nodes = element (codes "error") (element (codes "lock-token-matches-request-uri") [])

-- the server tells of no resources all the way down
abbrev pub finite_nodes : List Node
finite_nodes = element (codes "error") (element (codes "propfind-finite-depth") [])

-- the document of a fault, where it has one; its paths stand behind the prefix
abbrev pub refusal_nodes : List ℕ → Fault → Option (List Node)
refusal_nodes prefix (fault.Locked path) = Some (lock_nodes prefix path)
refusal_nodes prefix (fault.ConflictingLock path) = Some (conflict_nodes prefix path)
refusal_nodes prefix (fault.MemberLocked path) = Some (member_nodes prefix path)
refusal_nodes prefix (fault.ConflictingMember at path) = Some (conflict_below_nodes prefix at path)
refusal_nodes prefix fault.NoSuchLock = Some no_lock_nodes
refusal_nodes prefix fault.InfiniteDepth = Some finite_nodes
refusal_nodes prefix _ = None

-- ---- their type

abbrev pub xml_type : List ℕ
xml_type = codes "application/xml; charset=utf-8"
