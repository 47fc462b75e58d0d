-- The entity tag of a file (RFC 9110 section 8.8.3): of its modified moment and its length, so that no byte of the file is read (own).
use Rattle.std.specs.Prelude.{ℕ, false, List, [], ◌∷◌, ◌++◌, decimal, length, Option, None, Some}
use Rattle.dav_headers_core.specs.Tags.{spelled_tag}
use Rattle.dav_files_core.specs.declared.memfs.Kind.{Kind}
use Rattle.dav_files_core.specs.declared.memfs.Kind.TheVariants.{Folder, File}
use Rattle.dav_files_core.specs.Meta.{Meta, meta_at}
use Rattle.dav_files_core.specs.Resources.{Resource, ResourceMap, at_path}
use Rattle.dav_path_core.specs.Fronts.{Path}
use Rattle.dav_fields_core.specs.declared.etags.Standing.{Standing}
use Rattle.dav_fields_core.specs.declared.etags.Standing.TheVariants as standing
use Rattle.dav_fields_core.specs.LatestMoments.{latest_along}

-- both numbers in decimal, a dash between them
abbrev pub tag_text : ℕ → ℕ → List ℕ
tag_text modified size = decimal modified ++ 45 ∷ decimal size

-- the strong tag with this text between its quotes
abbrev pub file_tag : ℕ → ℕ → List ℕ
file_tag modified size = spelled_tag false (tag_text modified size)

-- of a resource that is a file
abbrev pub tag_of : Resource → List ℕ
tag_of file = file_tag file.node.modified (length file.node.bytes)

-- the tag of a resource that is a file; a folder has none
abbrev pub own_tags : Resource → List (List ℕ)
own_tags r = elim r.node.kind [ Folder ↦ [] | File ↦ tag_of r ∷ [] ]

-- ---- what stands at a path, as conditions see it

abbrev pub standing_by : Kind → ℕ → ℕ → ℕ → Standing
standing_by Folder modified size latest = standing.Folder
standing_by File modified size latest = standing.File (file_tag modified size) (record { 0 = modified }) (record { 0 = latest })

-- by what is known of it
abbrev pub standing_known : ResourceMap → Path → Meta → Standing
standing_known m p known = standing_by known.kind known.modified known.length (latest_along m p known)

abbrev pub standing_of : ResourceMap → Path → Option Resource → Standing
standing_of m p None = standing.Nothing
standing_of m p (Some r) = standing_known m p (meta_at r.node)

abbrev pub standing_at : ResourceMap → Path → Standing
standing_at m p = standing_of m p (at_path m p)
