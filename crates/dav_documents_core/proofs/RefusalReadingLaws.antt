-- What a refusal tells could have been read, so it is read.
use Rattle.std.proofs.Common.{◌≡◌, ℕ, List, [], ◌∷◌, ◌++◌, Some, codes, refl, subst}
use Rattle.dav_path_core.specs.PathText.{PathText}
use Rattle.dav_xml_core.specs.Documents.{Node, Text}
use Rattle.dav_xml_core.specs.Reading.{document_of}
use Rattle.dav_xml_core.specs.Writing.{document_bytes}
use Rattle.dav_faults_core.specs.declared.faults.Fault.{Fault}
use Rattle.dav_faults_core.specs.declared.faults.Fault.TheVariants as fault
use Rattle.dav_documents_core.specs.KeptElements.{IsVisible}
use Rattle.dav_documents_core.specs.RefusalBodies.{element, href, told_response, url_path}
use Rattle.dav_documents_core.specs.RefusalReading.{HasPath, IsReadAsTold, IsRooted}
use Rattle.dav_documents_core.proofs.FragmentLemmas.{AreFineNodes, IsWord, document_again, nodes_both, nodes_within, none, text}
use Rattle.dav_documents_core.proofs.ToldDocumentLemmas.{path_visible}
use Rattle.dav_documents_core.proofs.WordLemmas as word

is_read : (local : List ℕ) (inside nodes : List Node) → IsWord local → AreFineNodes inside → Some (element local inside) ≡ Some nodes → document_of (document_bytes nodes) ≡ Some nodes
is_read local inside nodes is fine are =
    let same : element local inside ≡ nodes = cc in subst (λ (ns : List Node). document_of (document_bytes ns) ≡ Some ns) same (document_again local inside is fine)

path_fine : (prefix : List ℕ) (path : PathText) → IsRooted path → AreFineNodes (href prefix path)
path_fine prefix path h = text (codes "href") (url_path prefix path) word.href (path_visible prefix path h)

status_fine : (status : List ℕ) → IsVisible status → AreFineNodes (element (codes "status") (Text status ∷ []))
status_fine status h = text (codes "status") status word.status h

empty : (local : List ℕ) → IsWord local → AreFineNodes (element local [])
empty local is = nodes_within local [] is none

response_fine : (prefix : List ℕ) (path : PathText) (status : List ℕ) (why : List Node) → IsRooted path → IsVisible status → AreFineNodes why
    → AreFineNodes (told_response prefix path status why)
response_fine prefix path status why h is fine =
    let told = element (codes "status") (Text status ∷ []) in
    nodes_within (codes "response") (href prefix path ++ (told ++ why)) word.response
    (nodes_both (href prefix path) (told ++ why) (path_fine prefix path h) (nodes_both told why (status_fine status is) fine))

submitted : AreFineNodes (element (codes "error") (element (codes "lock-token-submitted") []))
submitted = nodes_within (codes "error") (element (codes "lock-token-submitted") []) word.error (empty (codes "lock-token-submitted") word.lock_token_submitted)

conflicting : AreFineNodes (element (codes "error") (element (codes "no-conflicting-lock") []))
conflicting = nodes_within (codes "error") (element (codes "no-conflicting-lock") []) word.error (empty (codes "no-conflicting-lock") word.no_conflicting_lock)

pub refusals_are_read : (prefix : List ℕ) (e : Fault) → HasPath e → IsReadAsTold prefix e
refusals_are_read prefix (fault.Locked path) h nodes are =
    is_read (codes "error") (element (codes "lock-token-submitted") (href prefix path)) nodes word.error
    (nodes_within (codes "lock-token-submitted") (href prefix path) word.lock_token_submitted (path_fine prefix path h)) are
refusals_are_read prefix (fault.ConflictingLock path) h nodes are =
    is_read (codes "error") (element (codes "no-conflicting-lock") (href prefix path)) nodes word.error
    (nodes_within (codes "no-conflicting-lock") (href prefix path) word.no_conflicting_lock (path_fine prefix path h)) are
refusals_are_read prefix (fault.MemberLocked path) h nodes are =
    let why = element (codes "error") (element (codes "lock-token-submitted") []) in
    is_read (codes "multistatus") (told_response prefix path (codes "HTTP/1.1 423 Locked") why) nodes word.multistatus
    (response_fine prefix path (codes "HTTP/1.1 423 Locked") why h (record { some = refl; each = refl }) submitted) are
refusals_are_read prefix (fault.ConflictingMember at path) h nodes are =
    let why = element (codes "error") (element (codes "no-conflicting-lock") []) in
    let first = told_response prefix at (codes "HTTP/1.1 423 Locked") why in
    let second = told_response prefix path (codes "HTTP/1.1 424 Failed Dependency") [] in
    is_read (codes "multistatus") (first ++ second) nodes word.multistatus
    (nodes_both first second (response_fine prefix at (codes "HTTP/1.1 423 Locked") why h.0 (record { some = refl; each = refl }) conflicting)
    (response_fine prefix path (codes "HTTP/1.1 424 Failed Dependency") [] h.1 (record { some = refl; each = refl }) none)) are
refusals_are_read prefix fault.NoSuchLock h nodes are =
    is_read (codes "error") (element (codes "lock-token-matches-request-uri") []) nodes word.error
    (empty (codes "lock-token-matches-request-uri") word.lock_token_matches_request_uri) are
refusals_are_read prefix fault.InfiniteDepth h nodes are =
    is_read (codes "error") (element (codes "propfind-finite-depth") []) nodes word.error (empty (codes "propfind-finite-depth") word.propfind_finite_depth) are
refusals_are_read prefix _ h nodes are = absurd (cc)
