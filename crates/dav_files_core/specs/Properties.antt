-- Properties: set, removed, listed, and looked up (RFC 4918 sections 4, 9.1 and 9.2).
use Rattle.std.specs.Prelude.{ℕ, Bool, List, [], map, Option, None, option_map, option_and_then, unwrap_or, Result, Ok, ok_or, if◌then◌else◌}
use Rattle.std.specs.List.{fold}
use Rattle.std.specs.String.{string_bytes}
use Rattle.std.specs.FinMap.{get, insert, remove, values}
use Rattle.dav_path_core.specs.declared.errors.FsError.{FsError}
use Rattle.dav_path_core.specs.declared.errors.FsError.TheVariants.{NotFound}
use Rattle.dav_path_core.specs.Fronts.{Path}
use Rattle.dav_files_core.specs.declared.fs.properties.DavProp.{DavProp}
use Rattle.dav_files_core.specs.Resources.{Property, Properties, ResourceMap}
use Rattle.dav_files_core.specs.Finding.{find}
use Rattle.dav_files_core.specs.Outcomes.{Outcome, ◌>>=◌, with_other_node}

-- a property of a call, as plain data
abbrev pub property_of : DavProp → Property
property_of p = record {
  name = string_bytes p.name;
  prefix = option_map string_bytes p.prefix;
  namespace = option_map string_bytes p.namespace;
  xml = option_map (λ v. v.items) p.xml;
}

-- what tells a property from others: its namespace and its name; no namespace and an empty one are one
abbrev pub key_of : Property → List ℕ × List ℕ
key_of p = (unwrap_or p.namespace [], p.name)

abbrev pub without_xml : Property → Property
without_xml p = record p { xml = None }

-- ---- setting and removing

-- `true` sets the property, in place of one with its key; `false` removes what has its key, if anything has
abbrev pub patched_by : Properties → Bool × Property → Properties
patched_by props e = if e.0 then insert props (key_of e.1) e.1 else remove props (key_of e.1)

-- one after another
abbrev pub patched_properties : Properties → List (Bool × Property) → Properties
patched_properties props patch = fold patched_by props patch

-- each entry is answered by the status 200 and the property without xml
abbrev pub patch_answers : List (Bool × Property) → List (ℕ × Property)
patch_answers patch = map (λ e. (200, without_xml e.1)) patch

-- the times stay
abbrev pub patch_props : ResourceMap → Path → List (Bool × Property) → Outcome (List (ℕ × Property))
patch_props m p patch = find m p >>= λ r. Ok (patch_answers patch, with_other_node m p r (record r.node { props = patched_properties r.node.props patch }))

-- ---- listing and looking up

-- with its xml, or without
abbrev pub shown_property : Bool → Property → Property
shown_property content p = if content then p else without_xml p

-- each property once, by the bytes of its namespace, then of its name
abbrev pub get_props : ResourceMap → Path → Bool → Result (List Property) FsError
get_props m p content = find m p >>= λ r. Ok (map (shown_property content) (values r.node.props))

-- the xml of the property with the key of the wanted one, which may be missing
abbrev pub xml_of : Properties → Property → Option (List ℕ)
xml_of props wanted = option_and_then (λ p. p.xml) (get props (key_of wanted))

abbrev pub get_prop : ResourceMap → Path → Property → Result (List ℕ) FsError
get_prop m p wanted = find m p >>= λ r. ok_or (xml_of r.node.props wanted) NotFound

-- ---- what calls are given and answer, as plain data

abbrev pub patch_update : Bool × DavProp → Bool × Property
patch_update e = (e.0, property_of e.1)

abbrev pub patch_answer : ℕ × DavProp → ℕ × Property
patch_answer a = (a.0, property_of a.1)
