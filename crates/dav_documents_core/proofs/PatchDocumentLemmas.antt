-- What is told of a PROPPATCH is read as it was told.
use Rattle.std.proofs.Common.{◌≡◌, refl, ℕ, Bool, true, false, cond, List, [], ◌∷◌, ◌++◌, Some, codes}
use Rattle.std.specs.List.{AllByRecursion}
use Rattle.dav_path_core.specs.PathText.{PathText}
use Rattle.dav_xml_core.specs.Reading.{document_of}
use Rattle.dav_xml_core.specs.Writing.{document_bytes}
use Rattle.dav_documents_core.specs.KeptElements.{IsKeptProperty, IsVisible}
use Rattle.dav_documents_core.specs.PatchBodies.{all_protected, any_protected, is_chosen, property_name_nodes, names_nodes, others_nodes, patch_nodes, prop_nodes, propstats, protected_nodes, status_nodes}
use Rattle.dav_documents_core.specs.PropertyDocuments.{name_of_property}
use Rattle.dav_documents_core.specs.PropertyUpdates.{Update}
use Rattle.dav_documents_core.specs.RefusalBodies.{element, href, url_path}
use Rattle.dav_documents_core.specs.RefusalReading.{IsRooted}
use Rattle.dav_documents_core.proofs.FragmentLemmas.{AreFineNodes, document_again, named, nodes_both, nodes_either, nodes_within, none, text}
use Rattle.dav_documents_core.proofs.ToldDocumentLemmas.{path_visible}
use Rattle.dav_documents_core.proofs.WordLemmas as word

abbrev AreKept : List Update → Type 0
AreKept updates = AllByRecursion (λ update. IsKeptProperty update.1) updates

names_fine : (protected : Bool) (updates : List Update) → AreKept updates → AreFineNodes (names_nodes protected updates)
names_fine protected [] h = none
names_fine protected (update ∷ updates) h =
    nodes_both (cond (is_chosen protected update) (property_name_nodes update.1) []) (names_nodes protected updates)
    (nodes_either (is_chosen protected update) (property_name_nodes update.1) [] (named (name_of_property update.1) h.0.0) none) (names_fine protected updates h.1)

prop_fine : (protected : Bool) (updates : List Update) → AreKept updates → AreFineNodes (prop_nodes protected updates)
prop_fine protected updates h = nodes_within (codes "prop") (names_nodes protected updates) word.prop (names_fine protected updates h)

others_fine : (status : List ℕ) (updates : List Update) → IsVisible status → AreKept updates → AreFineNodes (others_nodes status updates)
others_fine status updates is h =
    nodes_within (codes "propstat") (prop_nodes false updates ++ status_nodes status) word.propstat
    (nodes_both (prop_nodes false updates) (status_nodes status) (prop_fine false updates h) (text (codes "status") status word.status is))

protected_fine : (updates : List Update) → AreKept updates → AreFineNodes (protected_nodes updates)
protected_fine updates h =
    let refused = prop_nodes true updates ++ status_nodes (codes "HTTP/1.1 403 Forbidden") in
    let why = element (codes "cannot-modify-protected-property") [] in
    nodes_within (codes "propstat") (refused ++ element (codes "error") why) word.propstat
    (nodes_both refused (element (codes "error") why)
    (nodes_both (prop_nodes true updates) (status_nodes (codes "HTTP/1.1 403 Forbidden")) (prop_fine true updates h)
    (text (codes "status") (codes "HTTP/1.1 403 Forbidden") word.status (record { some = refl; each = refl })))
    (nodes_within (codes "error") why word.error (nodes_within (codes "cannot-modify-protected-property") [] word.cannot_modify_protected_property none)))

stats_fine : (updates : List Update) → AreKept updates → AreFineNodes (propstats updates)
stats_fine updates h =
    let others = others_nodes (codes "HTTP/1.1 424 Failed Dependency") updates in
    nodes_either (any_protected updates) (protected_nodes updates ++ cond (all_protected updates) [] others) (others_nodes (codes "HTTP/1.1 200 OK") updates)
    (nodes_both (protected_nodes updates) (cond (all_protected updates) [] others) (protected_fine updates h)
    (nodes_either (all_protected updates) [] others none (others_fine (codes "HTTP/1.1 424 Failed Dependency") updates (record { some = refl; each = refl }) h)))
    (others_fine (codes "HTTP/1.1 200 OK") updates (record { some = refl; each = refl }) h)

pub patch_is_read : (prefix : List ℕ) (path : PathText) (updates : List Update) → IsRooted path → AreKept updates
    → document_of (document_bytes (patch_nodes prefix path updates)) ≡ Some (patch_nodes prefix path updates)
patch_is_read prefix path updates rooted h =
    let inside = href prefix path ++ propstats updates in
    document_again (codes "multistatus") (element (codes "response") inside) word.multistatus
    (nodes_within (codes "response") inside word.response
    (nodes_both (href prefix path) (propstats updates) (text (codes "href") (url_path prefix path) word.href (path_visible prefix path rooted)) (stats_fine updates h)))
