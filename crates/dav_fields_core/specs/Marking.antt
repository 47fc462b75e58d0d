-- Which tag a field can hold, and what is read for the body of an answer.
use Rattle.std.specs.Prelude.{◌≡◌, ℕ, List, Some, take, drop}
use Rattle.dav_path_core.specs.Fronts.{Path}
use Rattle.dav_files_core.specs.declared.memfs.Kind.{Kind}
use Rattle.dav_files_core.specs.declared.memfs.Kind.TheVariants as kind
use Rattle.dav_files_core.specs.Resources.{Resource, ResourceMap, at_path}
use Rattle.http_header.specs.FieldValue.{IsFieldValue}
use Rattle.dav_fields_core.specs.declared.etags.Standing.{Standing}
use Rattle.dav_fields_core.specs.declared.etags.Standing.TheVariants.{File}

-- a field can hold its tag
abbrev pub HasShownTag : Standing → Type 0
HasShownTag (File tag modified latest) = IsFieldValue tag
HasShownTag _ = Unit {0}

-- ---- what is read

-- a file stands there, and these are its bytes from a place on, so many at most
abbrev pub IsRead : ResourceMap → Path → ℕ → ℕ → List ℕ → Type 0
IsRead m p at count bytes = (r : Resource) × (at_path m p ≡ Some r) × (r.node.kind ≡ kind.File) × (bytes ≡ take count (drop at r.node.bytes))

-- nothing of this kind stands there
abbrev pub IsNone : ResourceMap → Path → Kind → Type 0
IsNone m p k = (r : Resource) → at_path m p ≡ Some r → ¬ (r.node.kind ≡ k)
