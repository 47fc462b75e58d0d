-- What a call of the tree leaves, as a map.
use Rattle.std.proofs.Common.{◌≡◌, ℕ, ◌+◌, ◌<◌, ◌≤◌, max, arith, List, [], ◌∷◌, ◌++◌, Some, None, Ok, Err, refl, sym, ap, ◌∙◌, subst}
use Rattle.std.specs.FinMap.{get}
use Rattle.dav_files_core.specs.declared.memfs.Kind.TheVariants.{Folder, File}
use Rattle.dav_files_core.specs.Outcomes.{with_new_entry, added_as, with_other_node, new_file}
use Rattle.dav_files_core.specs.Private.FileRepresents.{IsStore, FileEntry, FileTree, Represents, resource_map}
use Rattle.dav_files_core.specs.Resources.{Node, Resource, ResourceMap, at_path}
use Rattle.dav_files_core.specs.Restoring.{with_restored_entry as restored_entry}
use Rattle.dav_files_core.specs.Private.TreeCalls.{IsMember, IsMissing, IsThere, FindsMember, WritesFile}
use Rattle.dav_path_core.specs.declared.errors.FsError.TheVariants.{NotFound}
use Rattle.dav_path_core.specs.ChildIndex.{Index}
use Rattle.dav_path_core.specs.Fronts.{Segment, Path, parent}
use Rattle.dav_path_core.specs.Keyed.{add, with_restored_node, with_item_at}
use Rattle.dav_path_core.proofs.lists.FinMaps.{none_some, one_some}
use Rattle.dav_files_core.proofs.walks.FoundLemmas.{folder_there, not_there}
use Rattle.dav_files_core.proofs.walks.WalkLemmas.{child_at}
use Rattle.dav_files_core.proofs.changes.AddedLemmas.{Represents-added, Represents-added_as}
use Rattle.dav_files_core.proofs.changes.ChangedLemmas.{Represents-changed}
use Rattle.dav_files_core.proofs.walks.RecoverLemmas.{recovers}

-- what a tree is seen as, it stands for
pub stands_for : {ix : Index} (t : FileTree) (m : ResourceMap) → resource_map t ≡ m → IsStore t ix → Represents t m
stands_for t m seen store = subst (λ m. Represents t m) seen store.represents

-- what a tree stands for is what is computed from it
pub stands_itself : (t : FileTree) (m : ResourceMap) → Represents t m → Represents t (resource_map t)
stands_itself t m rep = subst (λ m. Represents t m) (sym (recovers t m rep)) rep

pub is_view : (t : FileTree) (m : ResourceMap) → Represents t m → m ≡ resource_map t
is_view t m rep = sym (recovers t m rep)

-- the node with a number that was found
pub item_is : (t : FileTree) (m : ResourceMap) → Represents t m → (p : Path) (r : Resource) → at_path m p ≡ Some r → (id : ℕ) → r.number ≡ id → (n : FileEntry) → get t.nodes id ≡ Some n → n.item ≡ r.node
item_is t m rep p r here id number n stored =
    let s = rep.shown p r here in
    sym (ap (λ (n : FileEntry). n.item) (one_some (get t.nodes id) s.placed n (ap (λ id. get t.nodes id) (sym number) ∙ s.stored) stored)) ∙ s.shown

pub lost : (t : FileTree) (m : ResourceMap) → Represents t m → (p : Path) (r : Resource) → at_path m p ≡ Some r → (id : ℕ) → r.number ≡ id → get t.nodes id ≡ None → ⊥
lost t m rep p r here id number none = let s = rep.shown p r here in none_some (get t.nodes id) s.placed none (ap (λ id. get t.nodes id) (sym number) ∙ s.stored)

-- the child that `get_child` found, as an entry
pub child_entry : (t : FileTree) (m : ResourceMap) → Represents t m → (p : Path) (r : Resource) → at_path m p ≡ Some r → (id : ℕ) → r.number ≡ id → (name : Segment) (c : ℕ) → IsMember t id name c
    → (x : Resource) × (at_path m (p ++ (name ∷ [])) ≡ Some x) × (x.number ≡ c)
child_entry t m rep p r here id number name c child = (
  record { number = c; node = child.0 },
  child_at t m rep p r here c name child.0 (child.1 ∙ ap Some (λ j. record { parent_and_key = Some (sym number j, name); item = child.0 })),
  refl,
)

-- a file's bytes written
pub written : (t : FileTree) (m : ResourceMap) → Represents t m → (p : Path) (r : Resource) → at_path m p ≡ Some r → r.node.kind ≡ File → (id : ℕ) → r.number ≡ id → (bytes : List ℕ) (now : ℕ) (t' : FileTree)
    → WritesFile t id bytes now (Ok tt) t' → Represents t' (with_other_node m p r (record r.node { bytes = bytes; modified = now }))
written t m rep p r here file id number bytes now t' h =
    let item : h.0.item ≡ r.node = item_is t m rep p r here id number h.0 h.1 in
    let new : record h.0.item { bytes = bytes; modified = now } ≡ record r.node { bytes = bytes; modified = now } = ap (λ (node : Node). record node { bytes = bytes; modified = now }) item in
    let kind : h.0.item.kind ≡ File = ap (λ (n : Node). n.kind) item ∙ file in
    let rep' = Represents-changed t m rep p r h.0 (record h.0.item { bytes = bytes; modified = now }) here (ap (λ id. get t.nodes id) number ∙ h.1)
    (λ f. let both : Folder ≡ File = sym f ∙ file in absurd (cc)) (λ f. let both : Folder ≡ File = sym f ∙ kind in absurd (cc)) in
    subst (λ (node : Node). Represents t' (with_other_node m p r node)) new (subst (λ t'. Represents t' (with_other_node m p r (record h.0.item { bytes = bytes; modified = now }))) (ap (λ id. with_item_at t id (Some h.0) (record h.0.item { bytes = bytes; modified = now })) number ∙ sym h.2) rep')

-- where nothing stands yet, in a folder
module _ (t : FileTree) (m : ResourceMap) (rep : Represents t m) (path : Path) (id : ℕ) (name : Segment) (h : IsMissing m path id name) where
  folder : (at_path m (parent path) ≡ Some h.2.0) × (h.2.0.node.kind ≡ Folder)
  folder = folder_there m (parent path) h.2.0 h.2.1

  free : at_path m (parent path ++ (name ∷ [])) ≡ None
  free = ap (at_path m) (sym h.1) ∙ not_there m path NotFound h.0

  pub folder_known : IsThere t id
  folder_known = let s = rep.shown (parent path) h.2.0 folder.0 in (s.placed, ap (λ id. get t.nodes id) (sym h.2.2) ∙ s.stored)

  pub no_member : (key : Segment) → key ≡ name → FindsMember t id key (Err NotFound)
  no_member key is = (
    refl,
    λ c there.
        let x = child_entry t m rep (parent path) h.2.0 folder.0 id h.2.2 name c (subst (λ key. IsMember t id key c) is there) in
        none_some _ x.0 free x.1,
  )

  -- a node restored there
  pub with_restored : (key : Segment) → key ≡ name → (node : Node) (number : ℕ) → get t.nodes number ≡ None → 0 < number → (node.kind ≡ Folder → node.bytes ≡ []) → (t' : FileTree) → t' ≡ with_restored_node t id key node number
      → Represents t' (restored_entry m path (record { number = number; node = node }))
  with_restored key is node number unused positive bare t' e =
      let grows : m.next ≤ max t.next (number + 1) = let same = rep.next in omega (arith, same) in
      let rep' = Represents-added_as t m rep (parent path) h.2.0 name node number (max t.next (number + 1)) unused positive (omega arith) grows folder.0 folder.1 free bare in
      subst (λ p. Represents t' (restored_entry m p (record { number = number; node = node }))) (sym h.1)
      (subst (λ n. Represents t' (added_as m (parent path ++ (name ∷ [])) node number (max n (number + 1)))) (sym rep.next)
      (subst (λ t'. Represents t' (added_as m (parent path ++ (name ∷ [])) node number (max t.next (number + 1)))) (sym (e ∙ (λ j. with_restored_node t (sym h.2.2 j) (is j) node number))) rep'))

  -- a node added there
  pub with_node : (key : Segment) → key ≡ name → (node : Node) → (node.kind ≡ Folder → node.bytes ≡ []) → (t' : FileTree) → t' ≡ add t id key node → Represents t' (with_new_entry m path node)
  with_node key is node bare t' e =
      let rep' = Represents-added t m rep (parent path) h.2.0 name node folder.0 folder.1 free bare in
      subst (λ p. Represents t' (with_new_entry m p node)) (sym h.1)
      (subst (λ t'. Represents t' (with_new_entry m (parent path ++ (name ∷ [])) node)) (sym (e ∙ (λ j. add t (sym h.2.2 j) (is j) node))) rep')
