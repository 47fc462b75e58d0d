-- What the tags of files tell over a run of a server: equal tags have equal bytes (RFC 9110 section 8.8.1), since each change has a moment of its own (own).
use Rattle.std.specs.Prelude.{◌≡◌, ℕ, ◌<◌, ◌≤◌, ◌^◌, List, length, Some}
use Rattle.http.specs.declared.request.Request.{Request}
use Rattle.http_server.specs.declared.response.Response.{Response}
use Rattle.dav_path_core.specs.Fronts.{Path}
use Rattle.dav_files_core.specs.declared.memfs.Kind.TheVariants.{File}
use Rattle.dav_files_core.specs.Resources.{Resource, ResourceMap, at_path}
use Rattle.dav_locks_core.specs.Exclusive.{Exclusive}
use Rattle.dav_locks_core.specs.Stale.{without_stale}
use Rattle.dav_handler_core.specs.Answers.{Answers}
use Rattle.dav_handler_core.specs.Server.{Server}
use Rattle.dav_fields_core.specs.FileTags.{tag_of}

-- ---- the files of a map

-- the file stands somewhere in the map
abbrev pub HasFile : ResourceMap → Resource → Type 0
HasFile m file = (p : Path) × (at_path m p ≡ Some file) × (file.node.kind ≡ File)

-- there are folders alone
abbrev pub HasNoFiles : ResourceMap → Type 0
HasNoFiles m = (file : Resource) → ¬ HasFile m file

-- the numbers of its tag are below 2 ^ 64
abbrev pub FitsTag : Resource → Type 0
FitsTag file = (file.node.modified < 2 ^ 64) × (length file.node.bytes < 2 ^ 64)

-- ---- what tells bytes apart

-- No file was changed after the last moment, and files that were changed last at one moment have the same bytes.
pub record MomentsTell (s : Server) : Type 0 where
  pub none_later : (file : Resource) → HasFile s.state.map file → file.node.modified ≤ s.last
  pub same_bytes : (file other : Resource) → HasFile s.state.map file → HasFile s.state.map other → file.node.modified ≡ other.node.modified
      → file.node.bytes ≡ other.node.bytes

-- a file of the one server and a file of the other that have equal tags have equal bytes
abbrev pub TagsTell : Server → Server → Type 0
TagsTell s s' = (file other : Resource) → HasFile s.state.map file → HasFile s'.state.map other → FitsTag file → FitsTag other → tag_of file ≡ tag_of other
    → file.node.bytes ≡ other.node.bytes

-- ---- a run

-- Another server opens what the one kept: it has the same folders and files, the same locks but for those that have expired, and begins at no earlier moment. Its clock, its generator and its settings are its own.
pub record Restarts (s s' : Server) : Type 0 where
  pub map : s'.state.map ≡ s.state.map
  pub locks : without_stale s.last s'.state.locks ≡ without_stale s.last s.state.locks
  pub apart : Exclusive s'.state.locks
  pub moments : s.last ≤ s'.last

-- what a server becomes by its answers, one after another, with its clock set between them, over any number of restarts
pub data Becomes (s : Server) : Server → Type 0 where
  itself : Becomes s s
  by_clock : (mid : Server) (now : ℕ) → Becomes s mid → Becomes s (record mid { clock = now })
  by_answer : (mid after : Server) (request : Request (List ℕ)) (response : Response) → Becomes s mid → Answers mid request response after → Becomes s after
  by_restart : (mid after : Server) → Becomes s mid → Restarts mid after → Becomes s after
