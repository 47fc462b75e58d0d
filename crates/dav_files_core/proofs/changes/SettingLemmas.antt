-- Another node of an entry, in the tree and in the map.
use Rattle.std.proofs.Common.{◌≡◌, ℕ, Bool, List, Some, Ok, sym, ap, ◌∙◌, subst}
use Rattle.std.specs.FinMap.{get}
use Rattle.dav_path_core.specs.Fronts.{Path}
use Rattle.dav_path_core.specs.Keyed.{with_item_at}
use Rattle.dav_files_core.specs.declared.memfs.Kind.TheVariants.{Folder, File}
use Rattle.dav_files_core.specs.OpenFiles.{overwritten_at}
use Rattle.dav_files_core.specs.Outcomes.{with_other_node, with_modified_time, touched_at}
use Rattle.dav_files_core.specs.Private.Entries.{IsBare, HasFileNumbered}
use Rattle.dav_files_core.specs.Private.FileRepresents.{FileTree, Represents}
use Rattle.dav_files_core.specs.Properties.{patched_properties}
use Rattle.dav_files_core.specs.Private.TreeCalls.{SetsNode, WritesFile}
use Rattle.dav_files_core.specs.Resources.{Node, Property, Resource, ResourceMap, at_path, IsResourceMap}
use Rattle.dav_path_core.proofs.lists.FinMaps.{one_some}
use Rattle.dav_files_core.proofs.changes.ChangedLemmas.{Represents-changed}
use Rattle.dav_files_core.proofs.changes.LeftLemmas.{item_is, written}

module _ (t : FileTree) (m : ResourceMap) (rep : Represents t m) (p : Path) (r : Resource) (here : at_path m p ≡ Some r) (id : ℕ) (number : r.number ≡ id) where
  -- a node that was set
  pub set_stands : (set : Node → Node) → (r.node.kind ≡ Folder → (set r.node).kind ≡ Folder) → IsBare (set r.node)
      → (t' : FileTree) → SetsNode t id set (Ok tt) t' → Represents t' (with_other_node m p r (set r.node))
  set_stands set still bare t' h =
      let item : h.0.item ≡ r.node = item_is t m rep p r here id number h.0 h.1 in
      let rep' = Represents-changed t m rep p r h.0 (set r.node) here (ap (λ id. get t.nodes id) number ∙ h.1) still bare in
      subst (λ t'. Represents t' (with_other_node m p r (set r.node))) (ap (λ id. with_item_at t id (Some h.0) (set r.node)) number ∙ ap (λ (n : Node). with_item_at t id (Some h.0) (set n)) (sym item) ∙ sym h.2) rep'

  -- a modified time that was set
  pub touched_stands : (now : ℕ) (t' : FileTree) → SetsNode t id (λ n. record n { modified = now }) (Ok tt) t' → Represents t' (with_modified_time m p now)
  touched_stands now t' h =
      subst (λ m. Represents t' m) (ap (touched_at m p now) (sym here)) (set_stands (λ n. record n { modified = now }) (λ f. f) (rep.is_map.bare p r here) t' h)

  -- properties that were patched
  pub patched_stands : (patch : List (Bool × Property)) (t' : FileTree) → SetsNode t id (λ n. record n { props = patched_properties n.props patch }) (Ok tt) t'
      → Represents t' (with_other_node m p r (record r.node { props = patched_properties r.node.props patch }))
  patched_stands patch t' h = set_stands (λ n. record n { props = patched_properties n.props patch }) (λ f. f) (rep.is_map.bare p r here) t' h

-- one entry has the number
pub same_entry : (m : ResourceMap) → IsResourceMap m → (id : ℕ) (p : Path) (r : Resource) → at_path m p ≡ Some r → r.number ≡ id → (q : Path) (s : Resource) → at_path m q ≡ Some s → s.number ≡ id → r ≡ s
same_entry m is_map id p r here number q s there other =
    let same : p ≡ q = is_map.apart p q r s here there (number ∙ sym other) in
    one_some (at_path m q) r s (ap (at_path m) (sym same) ∙ here) there

-- what has a file's number is no folder
pub no_folder : (m : ResourceMap) → IsResourceMap m → (id : ℕ) → HasFileNumbered m id → (p : Path) (r : Resource) → at_path m p ≡ Some r → r.number ≡ id → r.node.kind ≡ Folder → ⊥
no_folder m is_map id file p r here number folder =
    let both : Folder ≡ File = sym folder ∙ ap (λ (r : Resource). r.node.kind) (same_entry m is_map id p r here number file.0 file.1 file.2 file.3) ∙ file.4 in
    absurd (cc)

module _ (t : FileTree) (m : ResourceMap) (rep : Represents t m) (id : ℕ) (file : HasFileNumbered m id) (p : Path) (r : Resource) (here : at_path m p ≡ Some r) (number : r.number ≡ id) where
  is_file : r.node.kind ≡ File
  is_file = ap (λ (r : Resource). r.node.kind) (same_entry m rep.is_map id p r here number file.0 file.1 file.2 file.3) ∙ file.4

  -- a file's bytes that were written
  pub written_stands : (bytes : List ℕ) (now : ℕ) (t' : FileTree) → WritesFile t id bytes now (Ok tt) t' → Represents t' (with_other_node m p r (record r.node { bytes = bytes; modified = now }))
  written_stands bytes now t' h = written t m rep p r here is_file id number bytes now t' h

  -- bytes put over some of a file's
  pub overwritten_stands : (start : ℕ) (new : List ℕ) (t' : FileTree) → SetsNode t id (λ n. record n { bytes = overwritten_at n.bytes start new }) (Ok tt) t'
      → Represents t' (with_other_node m p r (record r.node { bytes = overwritten_at r.node.bytes start new }))
  overwritten_stands start new t' h =
      set_stands t m rep p r here id number (λ n. record n { bytes = overwritten_at n.bytes start new }) (λ f. f) (λ f. let both : Folder ≡ File = sym f ∙ is_file in absurd (cc)) t' h
