-- Properties whose keys rise: by namespace, then by name (own).
use Rattle.std.specs.Prelude.{◌≡◌, ℕ, List, length}
use Rattle.std.specs.declared.cmp.Ordering.{Ordering}
use Rattle.std.specs.declared.cmp.Ordering.TheVariants.{Less}
use Rattle.std.specs.List.{AllAdjacentBelow}
use Rattle.dav_files_core.specs.declared.fs.properties.DavProp.{DavProp}
use Rattle.dav_files_core.specs.Properties.{key_of, property_of}
use Rattle.dav_files_core.specs.Resources.{key_cmp}

-- the namespace and the name of a property
abbrev pub property_key : DavProp → List ℕ × List ℕ
property_key p = key_of (property_of p)

-- how it stands to another
abbrev pub order : DavProp → List ℕ × List ℕ → Ordering
order p key = key_cmp (property_key p) key

-- each has a lower key than the next one
abbrev pub Rise : List DavProp → Type 0
Rise props = AllAdjacentBelow (λ p q. order p (property_key q) ≡ Less) props (length props)
