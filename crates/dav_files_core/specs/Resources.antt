-- The resource map: from paths to resources, and the next number (RFC 4918 section 5).
use Rattle.std.specs.Prelude.{◌≡◌, ℕ, ◌<◌, Bool, true, false, List, [], ◌∷◌, ◌++◌, Option, Some}
use Rattle.std.specs.declared.cmp.Ordering.{Ordering}
use Rattle.std.specs.Ordering.{ordering_then}
use Rattle.std.specs.FinMap.{FinMap, get}
use Rattle.dav_path_core.specs.Fronts.{Segment, Path, segment_cmp, path_cmp}
use Rattle.dav_files_core.specs.declared.memfs.Kind.{Kind}
use Rattle.dav_files_core.specs.declared.memfs.Kind.TheVariants.{Folder, File}

-- a property as it was set (RFC 4918 section 4)
pub record Property : Type 0 where
  pub name : List ℕ
  pub prefix : Option (List ℕ)
  pub namespace : Option (List ℕ)
  pub xml : Option (List ℕ)

abbrev pub is_folder : Kind → Bool
is_folder Folder = true
is_folder File = false

-- by namespace, then name; no namespace and an empty one are one key
abbrev pub key_cmp : List ℕ × List ℕ → List ℕ × List ℕ → Ordering
key_cmp a b = ordering_then (segment_cmp a.0 b.0) (segment_cmp a.1 b.1)

abbrev pub Properties : Type 0
Properties = FinMap key_cmp Property

-- a folder or a file; the times are moments
pub record Node : Type 0 where
  pub kind : Kind
  pub bytes : List ℕ
  pub props : Properties
  pub created : ℕ
  pub modified : ℕ

pub record Resource : Type 0 where
  pub number : ℕ
  pub node : Node

pub record ResourceMap : Type 0 where
  pub entries : FinMap path_cmp Resource
  pub next : ℕ

-- the entry at a path
abbrev pub at_path : ResourceMap → Path → Option Resource
at_path m p = get m.entries p

-- the root is a folder with number 1; the parent of each other entry is a folder; numbers differ, are above 0 and below the
-- next; a folder has no bytes
pub record IsResourceMap (m : ResourceMap) : Type 0 where
  pub root : (r : Resource) × (at_path m [] ≡ Some r) × (r.number ≡ 1) × (r.node.kind ≡ Folder)
  pub parents : (p : Path) (s : Segment) (r : Resource) → at_path m (p ++ (s ∷ [])) ≡ Some r → (q : Resource) × (at_path m p ≡ Some q) × (q.node.kind ≡ Folder)
  pub apart : (p q : Path) (r s : Resource) → at_path m p ≡ Some r → at_path m q ≡ Some s → r.number ≡ s.number → p ≡ q
  pub positive : (p : Path) (r : Resource) → at_path m p ≡ Some r → 0 < r.number
  pub below : (p : Path) (r : Resource) → at_path m p ≡ Some r → r.number < m.next
  pub bare : (p : Path) (r : Resource) → at_path m p ≡ Some r → r.node.kind ≡ Folder → r.node.bytes ≡ []
