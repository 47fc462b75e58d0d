-- How a node's properties stand for a finite map (own).
use Rattle.std.specs.Prelude.{◌≡◌, ℕ, List, Some, map}
use Rattle.std.specs.FinMap.{from_entries, get}
use Rattle.dav_files_core.specs.declared.fs.properties.DavProp.{DavProp}
use Rattle.dav_files_core.specs.Properties.{key_of, property_of}
use Rattle.dav_files_core.specs.Resources.{Property, Properties}

-- a key and its property
abbrev pub keyed_property : (List ℕ × List ℕ) × DavProp → (List ℕ × List ℕ) × Property
keyed_property e = (e.0, property_of e.1)

abbrev pub properties_of : List ((List ℕ × List ℕ) × DavProp) → Properties
properties_of es = from_entries (map keyed_property es)

-- each property stands at its own key
abbrev pub AreKeyed : Properties → Type 0
AreKeyed props = (key : List ℕ × List ℕ) (p : Property) → get props key ≡ Some p → key_of p ≡ key
