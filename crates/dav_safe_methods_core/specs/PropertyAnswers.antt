-- What may be told of what stands at a path (RFC 4918 sections 8.3, 9.1 and 15).
use Rattle.std.specs.Prelude.{◌≡◌, ℕ, ◌/◌, Bool, List, [], ◌∷◌, ◌++◌, codes, flat_map, Some}
use Rattle.std.specs.Prelude.{if◌then◌else◌}
use Rattle.std.specs.FinMap.{values}
use Rattle.dav_path_core.specs.Fronts.{Path}
use Rattle.dav_path_core.specs.Url.{url}
use Rattle.dav_files_core.specs.Meta.{Meta, meta_at}
use Rattle.dav_files_core.specs.Resources.{Property, Resource, at_path, is_folder}
use Rattle.dav_locks_core.specs.Lock.{Lock}
use Rattle.dav_locks_core.specs.Locks.{discovered_locks}
use Rattle.dav_guarded_core.specs.Step.{State}
use Rattle.dav_fields_core.specs.ContentTypes.{content_type}
use Rattle.dav_fields_core.specs.Dates.{IsHttpDate, IsInternetDate}
use Rattle.dav_fields_core.specs.FileTags.{file_tag}
use Rattle.dav_documents_core.specs.PropertyDocuments.{Description}
use Rattle.dav_documents_core.specs.RefusalBodies.{front}

-- ---- a place

abbrev pub segments_url : Path → List ℕ
segments_url p = flat_map (λ s. codes "/" ++ url s) p

-- the URL of a place; that of a folder ends in a slash (RFC 4918 section 5.2)
abbrev pub place_url : List ℕ → Path → Bool → List ℕ
place_url prefix p folder =
    url (front prefix) ++ segments_url p ++ (if folder then codes "/" else [])

-- the last segment
abbrev pub last_or : List ℕ → Path → List ℕ
last_or name [] = name
last_or name (s ∷ p) = last_or s p

-- by what is known of it, its properties, and the locks that cover it
pub record IsDescribed (prefix : List ℕ) (p : Path) (known : Meta) (props : List Property)
    (locks : List Lock) (d : Description) : Type 0 where
  pub url_is : d.url ≡ place_url prefix p (is_folder known.kind)
  pub folder_is : d.folder ≡ is_folder known.kind
  pub size_is : d.size ≡ known.length
  pub type_is : d.content_type ≡ content_type (last_or [] p)
  pub tag_is : d.tag ≡ file_tag known.modified known.length
  pub created_is : IsInternetDate (known.created / 1_000_000_000) d.created
  pub modified_is : IsHttpDate (known.modified / 1_000_000_000) d.modified
  pub props_are : d.props ≡ props
  pub locks_are : d.locks ≡ locks

-- what may be told of what stands at the path
pub record Describes (prefix : List ℕ) (s : State) (p : Path) (d : Description) : Type 0 where
  pub resource : Resource
  pub here : at_path s.map p ≡ Some resource
  pub described : IsDescribed prefix p (meta_at resource.node) (values resource.node.props)
      (discovered_locks s.locks p) d
