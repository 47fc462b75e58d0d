-- How a map of the code stands for the names of a folder's children (own).
use Rattle.std.specs.Prelude.{ℕ, List, map}
use Rattle.std.specs.FinMap.{from_entries}
use Rattle.std.specs.declared.vec.Vec.{Vec}
use Rattle.dav_path_core.specs.Fronts.{Segment}
use Rattle.dav_path_core.specs.ChildIndex.{NumbersByName, Index}

module _ {Z : Type 0} where
  abbrev pub name_and_number : Vec ℕ Z × ℕ → Segment × ℕ
  name_and_number e = (e.0.items, e.1)

  abbrev pub names_of : List (Vec ℕ Z × ℕ) → NumbersByName
  names_of es = from_entries (map name_and_number es)

abbrev pub index_of : List (ℕ × NumbersByName) → Index
index_of es = from_entries es
