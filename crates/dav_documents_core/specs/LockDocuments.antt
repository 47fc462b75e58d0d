-- How locks are told in XML (RFC 4918 sections 14.1, 15.8 and 15.10).
use Rattle.std.specs.Prelude.{ℕ, ◌-◌, ◌/◌, Bool, true, false, List, [], ◌∷◌, ◌++◌, codes, flat_map, Option, None, Some, if◌then◌else◌}
use Rattle.std.specs.Fmt.{decimal}
use Rattle.dav_xml_core.specs.Documents.{Node, Text}
use Rattle.dav_locks_core.specs.Lock.{Lock}
use Rattle.dav_locks_core.specs.Locks.{same_text}
use Rattle.dav_documents_core.specs.Pieces.{DocumentPiece, Kept, enclosed_pieces, made_pieces}
use Rattle.dav_documents_core.specs.RefusalBodies.{element, href}

-- ---- what a lock is

abbrev pub scope_word : Bool → List ℕ
scope_word shared = if shared then codes "shared" else codes "exclusive"

-- its scope and its type (RFC 4918 sections 14.13 and 14.15)
abbrev pub kind_nodes : Bool → List Node
kind_nodes shared = element (codes "lockscope") (element (scope_word shared) []) ++ element (codes "locktype") (element (codes "write") [])

-- the two kinds that can be asked for (RFC 4918 sections 14.11 and 15.10)
abbrev pub supported_locks : List Node
supported_locks = element (codes "supportedlock") (element (codes "lockentry") (kind_nodes false) ++ element (codes "lockentry") (kind_nodes true))

-- ---- a lock that stands

abbrev pub depth_word : Bool → List ℕ
depth_word deep = if deep then codes "infinity" else codes "0"

-- the whole seconds from a moment to another, both in nanoseconds
abbrev pub seconds_between : ℕ → ℕ → ℕ
seconds_between now end = (end - now) / 1000000000

abbrev pub time_left_text : ℕ → Option ℕ → List ℕ
time_left_text now None = codes "Infinite"
time_left_text now (Some end) = codes "Second-" ++ decimal (seconds_between now end)

-- how long the lock stands from a moment on (RFC 4918 sections 10.7 and 14.29)
abbrev pub lock_timeout_text : ℕ → Lock → List ℕ
lock_timeout_text now l = time_left_text now l.timeout_at

-- the element that was kept, where there is one
abbrev pub owner_pieces : Option (List ℕ) → List DocumentPiece
owner_pieces None = []
owner_pieces (Some owner) = Kept owner ∷ []

-- its token is told to its principal alone
abbrev pub token_nodes : Option (List ℕ) → Lock → List Node
token_nodes principal l =
    if same_text l.principal principal then element (codes "locktoken") (element (codes "href") (Text l.token ∷ [])) else []

-- what was asked for
abbrev pub terms : Lock → List DocumentPiece
terms l = made_pieces (kind_nodes l.shared ++ element (codes "depth") (Text (depth_word l.deep) ∷ [])) ++ owner_pieces l.owner

-- how long it stands, how it is named, and where it stands
abbrev pub lock_name_nodes : List ℕ → Option (List ℕ) → ℕ → Lock → List Node
lock_name_nodes prefix principal now l =
    element (codes "timeout") (Text (lock_timeout_text now l) ∷ [])
    ++ (token_nodes principal l ++ element (codes "lockroot") (href prefix l.path))

abbrev pub active_lock : List ℕ → Option (List ℕ) → ℕ → Lock → List DocumentPiece
active_lock prefix principal now l = enclosed_pieces (codes "activelock") (terms l ++ made_pieces (lock_name_nodes prefix principal now l))

-- Of locks in order, as a principal sees them at a moment, behind the prefix of the server.
abbrev pub lock_discovery : List ℕ → Option (List ℕ) → ℕ → List Lock → List DocumentPiece
lock_discovery prefix principal now locks = enclosed_pieces (codes "lockdiscovery") (flat_map (active_lock prefix principal now) locks)

-- the body of the answer to a LOCK (RFC 4918 section 9.10.1)
abbrev pub discovery_pieces : List ℕ → Option (List ℕ) → ℕ → List Lock → List DocumentPiece
discovery_pieces prefix principal now locks = enclosed_pieces (codes "prop") (lock_discovery prefix principal now locks)
