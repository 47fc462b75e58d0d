-- How the fields of a `Tree` stand for its value (own).
use Rattle.std.specs.Prelude.{ℕ, List, map}
use Rattle.std.specs.FinMap.{from_entries}
use Rattle.dav_path_core.specs.declared.tree.Node.{Node}
use Rattle.dav_path_core.specs.Keyed.{Entry, Keyed}
use Rattle.dav_path_core.specs.TreeValue.{TreeValue, Links}

module _ {K D : Type 0} where
  abbrev pub entry_of : Node K D → Entry K D
  entry_of n = record { parent_and_key = n.parent_and_key; item = n.item }

  abbrev pub links_of : Node K D → Links
  links_of n = record { first = n.first_child; after = n.next_sibling }

  abbrev pub views_of : {Y : Type 0} → (Node K D → Y) → List (ℕ × Node K D) → List (ℕ × Y)
  views_of f es = map (λ e. (e.0, f e.1)) es

  abbrev pub keyed_of : List (ℕ × Node K D) → ℕ → Keyed K D
  keyed_of es next = record { nodes = from_entries (views_of entry_of es); next = next }

  abbrev pub tree_value_of : List (ℕ × Node K D) → ℕ → TreeValue K D
  tree_value_of es next = record { keyed = keyed_of es next; links = from_entries (views_of links_of es) }
