-- A keyed tree of files, and the resource map that it stands for (own).
use Rattle.std.specs.Prelude.{◌≡◌, ℕ, [], ◌∷◌, ◌++◌, map, Option, Some, None, option_and_then, zero, suc}
use Rattle.std.specs.Option.{option_map_or}
use Rattle.std.specs.Ordering.{nat_cmp}
use Rattle.std.specs.FinMap.{FinMap, get, entries, from_entries, len}
use Rattle.dav_path_core.specs.ChildIndex.{Index, IsIndex}
use Rattle.dav_path_core.specs.Fronts.{Segment, Path}
use Rattle.dav_path_core.specs.Keyed.{Entry, Keyed}
use Rattle.dav_files_core.specs.Resources.{Node, Resource, ResourceMap, at_path, IsResourceMap}

abbrev pub FileTree : Type 0
FileTree = Keyed Segment Node

abbrev pub FileEntry : Type 0
FileEntry = Entry Segment Node

-- where a node stands: at the root, or below the path of the node that its place names
abbrev pub PlaceFits : ResourceMap → Path → Option (ℕ × Segment) → Type 0
PlaceFits m p None = p ≡ []
PlaceFits m p (Some place) = (q : Path) × (r : Resource) × (p ≡ q ++ (place.1 ∷ [])) × (at_path m q ≡ Some r) × (r.number ≡ place.0)

-- the node behind an entry
pub record ShowsNode (t : FileTree) (m : ResourceMap) (p : Path) (r : Resource) : Type 0 where
  pub placed : FileEntry
  pub stored : get t.nodes r.number ≡ Some placed
  pub shown : placed.item ≡ r.node
  pub fits : PlaceFits m p placed.parent_and_key

-- each entry of the map is a node of the tree, at its place, and each node is an entry
pub record Represents (t : FileTree) (m : ResourceMap) : Type 0 where
  pub is_map : IsResourceMap m
  pub next : m.next ≡ t.next
  pub shown : (p : Path) (r : Resource) → at_path m p ≡ Some r → ShowsNode t m p r
  pub all : (id : ℕ) (n : FileEntry) → get t.nodes id ≡ Some n → (p : Path) × (r : Resource) × (at_path m p ≡ Some r) × (r.number ≡ id)

-- the path of a node, by its parents, in at most so many steps
abbrev pub node_path : FinMap nat_cmp FileEntry → ℕ → ℕ → Path
node_path nodes zero id = []
node_path nodes (suc steps) id = option_map_or (λ place. node_path nodes steps place.0 ++ (place.1 ∷ [])) (option_and_then (λ n. n.parent_and_key) (get nodes id)) []

abbrev pub node_entry : FileTree → ℕ × FileEntry → Path × Resource
node_entry t e = (node_path t.nodes (len t.nodes) e.0, record { number = e.0; node = e.1.item })

-- the map that a tree stands for
abbrev pub resource_map : FileTree → ResourceMap
resource_map t = record { entries = from_entries (map (node_entry t) (entries t.nodes)); next = t.next }

-- what files in memory keep: a tree that stands for its map, and an index of its names
pub record IsStore (t : FileTree) (ix : Index) : Type 0 where
  pub represents : Represents t (resource_map t)
  pub indexed : IsIndex t ix
