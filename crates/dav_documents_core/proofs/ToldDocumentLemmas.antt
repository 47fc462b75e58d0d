-- The documents that tell of resources and of locks are read, where what is kept of them is.
use Rattle.std.proofs.Common.{◌≡◌, refl, ap, ℕ, Bool, true, false, cond, List, [], ◌∷◌, ◌++◌, Option, Some, None, codes}
use Rattle.std.specs.Prelude.{decimal, flat_map}
use Rattle.std.specs.List.{AllByRecursion}
use Rattle.dav_path_core.specs.PathText.{PathText}
use Rattle.dav_path_core.specs.Url.{url}
use Rattle.dav_xml_core.specs.Documents.{Name, Text}
use Rattle.dav_xml_core.specs.Scanning.{is_nil}
use Rattle.dav_files_core.specs.Resources.{Property}
use Rattle.dav_locks_core.specs.Lock.{Lock}
use Rattle.dav_locks_core.specs.Locks.{same_text}
use Rattle.dav_documents_core.specs.declared.live_properties.Live.{Live}
use Rattle.dav_documents_core.specs.declared.live_properties.Live.TheVariants as live
use Rattle.dav_documents_core.specs.KeptElements.{IsDocument, IsElementIn, IsElementName, IsKeptLock, IsKeptProperty, IsVisible}
use Rattle.dav_documents_core.specs.LiveProperties.{has_live, live_named, live_properties, live_word}
use Rattle.dav_documents_core.specs.LockDocuments.{active_lock, depth_word, discovery_pieces, kind_nodes, lock_discovery, lock_name_nodes, owner_pieces, scope_word, seconds_between, supported_locks, terms, lock_timeout_text, time_left_text, token_nodes}
use Rattle.dav_documents_core.specs.Pieces.{DocumentPiece, enclosed_pieces, made_pieces, written_pieces}
use Rattle.dav_documents_core.specs.PropertyDocuments.{Description, dead_name_nodes, dead_pieces, dead_value, finds, found_pieces, found_stat, has_value, is_dead, is_named, kept_pieces, lacks, live_pieces, missing_nodes, missing_of, multistatus, name_nodes, name_of_property, own_name_nodes, own_pieces, propstat, response_pieces, text_element, type_nodes, value_by, value_pieces}
use Rattle.dav_documents_core.specs.PropertyQuestions.{Question, All, Names, Listed, asked_names}
use Rattle.dav_documents_core.specs.RefusalBodies.{dav_name, element, front, href, url_path}
use Rattle.dav_documents_core.specs.RefusalReading.{IsRooted}
use Rattle.dav_documents_core.proofs.FragmentLemmas.{AreFine, AreFineNodes, IsWord, all_of, both, document, either, kept, named, nodes_both, nodes_either, nodes_of, nodes_within, none, text, within}
use Rattle.dav_documents_core.proofs.WordLemmas as word
use Rattle.dav_documents_core.proofs.VisibleTextLemmas.{AreVisible, decimal_visible, joined, some_behind, url_visible}

-- ---- paths

url_shown : (bytes rest : List ℕ) → bytes ≡ 47 ∷ rest → is_nil (url bytes) ≡ false
unfolding url
url_shown bytes rest h = ap (λ (path : List ℕ). is_nil (url path)) h

pub path_visible : (prefix : List ℕ) (path : PathText) → IsRooted path → IsVisible (url_path prefix path)
path_visible prefix path h = record {
  some = some_behind (url (front prefix)) (url path.bytes) (url_shown path.bytes h.0 h.1);
  each = joined (url (front prefix)) (url path.bytes) (url_visible (front prefix)) (url_visible path.bytes);
}

-- ---- texts in elements

seen : (words : List ℕ) → is_nil words ≡ false → AreVisible words → IsVisible words
seen words some each = record { some = some; each = each }

empty : (local : List ℕ) → IsWord local → AreFineNodes (element local [])
empty local is = nodes_within local [] is none

-- ---- locks

kind_fine : (shared : Bool) → AreFineNodes (kind_nodes shared)
kind_fine shared =
    nodes_both (element (codes "lockscope") (element (scope_word shared) [])) (element (codes "locktype") (element (codes "write") []))
    (nodes_within (codes "lockscope") (element (scope_word shared) []) word.lockscope (scope shared))
    (nodes_within (codes "locktype") (element (codes "write") []) word.locktype (empty (codes "write") word.write))
  where
    scope : (shared : Bool) → AreFineNodes (element (scope_word shared) [])
    scope true = empty (codes "shared") word.shared
    scope false = empty (codes "exclusive") word.exclusive

supported_fine : AreFineNodes supported_locks
supported_fine =
    nodes_within (codes "supportedlock") (element (codes "lockentry") (kind_nodes false) ++ element (codes "lockentry") (kind_nodes true)) word.supportedlock
    (nodes_both (element (codes "lockentry") (kind_nodes false)) (element (codes "lockentry") (kind_nodes true))
    (nodes_within (codes "lockentry") (kind_nodes false) word.lockentry (kind_fine false)) (nodes_within (codes "lockentry") (kind_nodes true) word.lockentry (kind_fine true)))

depth_seen : (deep : Bool) → IsVisible (depth_word deep)
depth_seen true = seen (codes "infinity") refl refl
depth_seen false = seen (codes "0") refl refl

timeout_seen : (now : ℕ) (end : Option ℕ) → IsVisible (time_left_text now end)
timeout_seen now None = seen (codes "Infinite") refl refl
timeout_seen now (Some end) =
    let left = decimal (seconds_between now end) in
    seen (codes "Second-" ++ left) refl (joined (codes "Second-") left refl (decimal_visible (seconds_between now end)).each)

owner_fine : (owner : Option (List ℕ)) → IsElementIn owner → AreFine (owner_pieces owner)
owner_fine None h = none
owner_fine (Some xml) h = kept xml h

-- its texts are visible, and what is kept of its properties and locks is read
pub record IsTellable (d : Description) : Type 0 where
  pub url : IsVisible d.url
  pub content_type : IsVisible d.content_type
  pub tag : IsVisible d.tag
  pub created : IsVisible d.created
  pub modified : IsVisible d.modified
  pub props : AllByRecursion IsKeptProperty d.props
  pub locks : AllByRecursion IsKeptLock d.locks

module _ (prefix : List ℕ) (principal : Option (List ℕ)) (now : ℕ) where
  token_fine : (l : Lock) → IsKeptLock l → AreFineNodes (token_nodes principal l)
  token_fine l h =
      let token = element (codes "href") (Text l.token ∷ []) in
      nodes_either (same_text l.principal principal) (element (codes "locktoken") token) []
      (nodes_within (codes "locktoken") token word.locktoken (text (codes "href") l.token word.href h.token)) none

  names_fine : (l : Lock) → IsKeptLock l → AreFineNodes (lock_name_nodes prefix principal now l)
  names_fine l h =
      nodes_both (element (codes "timeout") (Text (lock_timeout_text now l) ∷ [])) (token_nodes principal l ++ element (codes "lockroot") (href prefix l.path))
      (text (codes "timeout") (lock_timeout_text now l) word.timeout (timeout_seen now l.timeout_at))
      (nodes_both (token_nodes principal l) (element (codes "lockroot") (href prefix l.path)) (token_fine l h)
      (nodes_within (codes "lockroot") (href prefix l.path) word.lockroot (text (codes "href") (url_path prefix l.path) word.href (path_visible prefix l.path h.rooted))))

  terms_fine : (l : Lock) → IsKeptLock l → AreFine (terms l)
  terms_fine l h =
      both (made_pieces (kind_nodes l.shared ++ element (codes "depth") (Text (depth_word l.deep) ∷ []))) (owner_pieces l.owner)
      (nodes_both (kind_nodes l.shared) (element (codes "depth") (Text (depth_word l.deep) ∷ [])) (kind_fine l.shared)
      (text (codes "depth") (depth_word l.deep) word.depth (depth_seen l.deep)))
      (owner_fine l.owner h.owner)

  lock_fine : (l : Lock) → IsKeptLock l → AreFine (active_lock prefix principal now l)
  lock_fine l h =
      within (codes "activelock") (terms l ++ made_pieces (lock_name_nodes prefix principal now l)) word.activelock
      (both (terms l) (made_pieces (lock_name_nodes prefix principal now l)) (terms_fine l h) (names_fine l h))

  each_lock : (locks : List Lock) → AllByRecursion IsKeptLock locks → AllByRecursion (λ l. AreFine (active_lock prefix principal now l)) locks
  each_lock [] h = tt
  each_lock (l ∷ locks) h = (lock_fine l h.0, each_lock locks h.1)

  pub discovery_fine : (locks : List Lock) → AllByRecursion IsKeptLock locks → AreFine (lock_discovery prefix principal now locks)
  discovery_fine locks h =
      within (codes "lockdiscovery") (flat_map (active_lock prefix principal now) locks) word.lockdiscovery
      (all_of (active_lock prefix principal now) locks (each_lock locks h))

  -- the answer to a LOCK
  pub locks_are_read : (locks : List Lock) → AllByRecursion IsKeptLock locks → IsDocument (written_pieces (discovery_pieces prefix principal now locks))
  locks_are_read locks h = document (codes "prop") (lock_discovery prefix principal now locks) word.prop (discovery_fine locks h)

  -- ---- a resource

  type_fine : (folder : Bool) → AreFineNodes (type_nodes folder)
  type_fine true = nodes_within (codes "resourcetype") (element (codes "collection") []) word.resourcetype (empty (codes "collection") word.collection)
  type_fine false = empty (codes "resourcetype") word.resourcetype

  live_fine : (d : Description) (property : Live) → IsTellable d → AreFine (live_pieces prefix principal now d property)
  live_fine d live.CreationDate h = text (codes "creationdate") d.created word.creationdate h.created
  live_fine d live.ContentLength h = text (codes "getcontentlength") (decimal d.size) word.getcontentlength (decimal_visible d.size)
  live_fine d live.ContentType h = text (codes "getcontenttype") d.content_type word.getcontenttype h.content_type
  live_fine d live.Tag h = text (codes "getetag") d.tag word.getetag h.tag
  live_fine d live.LastModified h = text (codes "getlastmodified") d.modified word.getlastmodified h.modified
  live_fine d live.Locks h = discovery_fine d.locks h.locks
  live_fine d live.ResourceType h = type_fine d.folder
  live_fine d live.SupportedLocks h = supported_fine

  own_fine : (d : Description) (property : Live) → IsTellable d → AreFine (own_pieces prefix principal now d property)
  own_fine d property h = either (has_live d.folder property) (live_pieces prefix principal now d property) [] (live_fine d property h) none

  each_own : (d : Description) (properties : List Live) → IsTellable d → AllByRecursion (λ property. AreFine (own_pieces prefix principal now d property)) properties
  each_own d [] h = tt
  each_own d (property ∷ properties) h = (own_fine d property h, each_own d properties h)

  kept_fine : (xml : Option (List ℕ)) → IsElementIn xml → AreFine (kept_pieces xml)
  kept_fine None h = none
  kept_fine (Some xml) h = kept xml h

  dead_fine : (props : List Property) → AllByRecursion IsKeptProperty props → AllByRecursion (λ p. AreFine (dead_pieces p)) props
  dead_fine [] h = tt
  dead_fine (p ∷ props) h = (either (is_dead p) (kept_pieces p.xml) [] (kept_fine p.xml h.0.1) none, dead_fine props h.1)

  found_kept : (props : List Property) (name : Name) → AllByRecursion IsKeptProperty props → IsElementIn (dead_value props name)
  found_kept [] name h = tt
  found_kept (p ∷ props) name h = by (is_named name p) (found_kept props name h.1)
    where
      by : (b : Bool) → IsElementIn (dead_value props name) → IsElementIn (cond b p.xml (dead_value props name))
      by true others = h.0.1
      by false others = others

  value_fine : (d : Description) (name : Name) → IsTellable d → AreFine (value_pieces prefix principal now d name)
  value_fine d name h = by (live_named name)
    where
      by : (found : Option Live) → AreFine (value_by prefix principal now d name found)
      by (Some property) = own_fine d property h
      by None = kept_fine (dead_value d.props name) (found_kept d.props name h.props)

  each_value : (d : Description) (asked : List Name) → IsTellable d → AllByRecursion (λ name. AreFine (value_pieces prefix principal now d name)) asked
  each_value d [] h = tt
  each_value d (name ∷ asked) h = (value_fine d name h, each_value d asked h)

  -- ---- names

  live_name : (property : Live) → AreFineNodes (name_nodes (dav_name (live_word property)))
  live_name live.CreationDate = empty (codes "creationdate") word.creationdate
  live_name live.ContentLength = empty (codes "getcontentlength") word.getcontentlength
  live_name live.ContentType = empty (codes "getcontenttype") word.getcontenttype
  live_name live.Tag = empty (codes "getetag") word.getetag
  live_name live.LastModified = empty (codes "getlastmodified") word.getlastmodified
  live_name live.Locks = empty (codes "lockdiscovery") word.lockdiscovery
  live_name live.ResourceType = empty (codes "resourcetype") word.resourcetype
  live_name live.SupportedLocks = empty (codes "supportedlock") word.supportedlock

  each_live_name : (d : Description) (properties : List Live) → AllByRecursion (λ property. AreFineNodes (own_name_nodes d property)) properties
  each_live_name d [] = tt
  each_live_name d (property ∷ properties) =
      (nodes_either (has_live d.folder property) (name_nodes (dav_name (live_word property))) [] (live_name property) none, each_live_name d properties)

  each_dead_name : (props : List Property) → AllByRecursion IsKeptProperty props → AllByRecursion (λ p. AreFineNodes (dead_name_nodes p)) props
  each_dead_name [] h = tt
  each_dead_name (p ∷ props) h =
      (nodes_either (is_dead p) (name_nodes (name_of_property p)) [] (named (name_of_property p) h.0.0) none, each_dead_name props h.1)

  each_missing : (d : Description) (asked : List Name) → AllByRecursion IsElementName asked → AllByRecursion (λ name. AreFineNodes (missing_nodes d name)) asked
  each_missing d [] h = tt
  each_missing d (name ∷ asked) h = (nodes_either (has_value d name) [] (name_nodes name) none (named name h.0), each_missing d asked h.1)

  -- ---- what is told of a resource

  found_fine : (d : Description) (question : Question) → IsTellable d → AreFine (found_pieces prefix principal now d question)
  found_fine d (All included) h =
      both (flat_map (own_pieces prefix principal now d) live_properties) (flat_map dead_pieces d.props) (all_of (own_pieces prefix principal now d) live_properties (each_own d live_properties h))
      (all_of dead_pieces d.props (dead_fine d.props h.props))
  found_fine d Names h =
      nodes_both (flat_map (own_name_nodes d) live_properties) (flat_map dead_name_nodes d.props) (nodes_of (own_name_nodes d) live_properties (each_live_name d live_properties))
      (nodes_of dead_name_nodes d.props (each_dead_name d.props h.props))
  found_fine d (Listed asked) h = all_of (value_pieces prefix principal now d) asked (each_value d asked h)

  propstat_fine : (status : List ℕ) (inside : List DocumentPiece) → IsVisible status → AreFine inside → AreFine (propstat status inside)
  propstat_fine status inside is h =
      within (codes "propstat") (enclosed_pieces (codes "prop") inside ++ made_pieces (text_element (codes "status") status)) word.propstat
      (both (enclosed_pieces (codes "prop") inside) (made_pieces (text_element (codes "status") status)) (within (codes "prop") inside word.prop h)
      (text (codes "status") status word.status is))

  response_fine : (question : Question) (d : Description) → AllByRecursion IsElementName (asked_names question) → IsTellable d → AreFine (response_pieces prefix principal now question d)
  response_fine question d asked h =
      let found = found_pieces prefix principal now d question in
      let lacking = flat_map (missing_nodes d) (asked_names question) in
      within (codes "response") (made_pieces (text_element (codes "href") d.url) ++ (found_stat prefix principal now question d ++ missing_of (asked_names question) d)) word.response
      (both (made_pieces (text_element (codes "href") d.url)) (found_stat prefix principal now question d ++ missing_of (asked_names question) d) (text (codes "href") d.url word.href h.url)
      (both (found_stat prefix principal now question d) (missing_of (asked_names question) d)
      (either (finds d question) (propstat (codes "HTTP/1.1 200 OK") found) []
      (propstat_fine (codes "HTTP/1.1 200 OK") found (seen (codes "HTTP/1.1 200 OK") refl refl) (found_fine d question h)) none)
      (either (lacks d (asked_names question)) (propstat (codes "HTTP/1.1 404 Not Found") (made_pieces lacking)) []
      (propstat_fine (codes "HTTP/1.1 404 Not Found") (made_pieces lacking) (seen (codes "HTTP/1.1 404 Not Found") refl refl)
      (nodes_of (missing_nodes d) (asked_names question) (each_missing d (asked_names question) asked))) none)))

  each_response : (question : Question) (resources : List Description) → AllByRecursion IsElementName (asked_names question) → AllByRecursion IsTellable resources
      → AllByRecursion (λ d. AreFine (response_pieces prefix principal now question d)) resources
  each_response question [] asked h = tt
  each_response question (d ∷ resources) asked h = (response_fine question d asked h.0, each_response question resources asked h.1)

  -- the answer to a PROPFIND
  pub resources_are_read : (question : Question) (resources : List Description) → AllByRecursion IsElementName (asked_names question)
      → AllByRecursion IsTellable resources → IsDocument (written_pieces (multistatus prefix principal now question resources))
  resources_are_read question resources asked h =
      document (codes "multistatus") (flat_map (response_pieces prefix principal now question) resources) word.multistatus
      (all_of (response_pieces prefix principal now question) resources (each_response question resources asked h))
