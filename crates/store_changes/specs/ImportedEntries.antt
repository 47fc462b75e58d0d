-- What is asked for a file or a folder that is imported (own).
use Rattle.std.specs.Prelude.{ℕ, ◌+◌, List, [], ◌∷◌, ◌++◌, codes, decimal, max, true, Option, Some, None, option_map}
use Rattle.dav_path_core.specs.Fronts.{Path}
use Rattle.dav_path_core.specs.Segments.{segments}
use Rattle.dav_files_core.specs.Resources.{Property}
use Rattle.dav_guarded_core.specs.Requests.{Command}
use Rattle.dav_notes_core.specs.Noting.{Noted}
use Rattle.store_changes.specs.declared.entries.Entry.{Entry}

-- the path, the bytes of a file or none for a folder, and the time in the source, where there is one
pub record Source : Type 0 where
  pub path : Path
  pub content : Option (List ℕ)
  pub modified : Option ℕ

abbrev pub source_of : Entry → Source
source_of e = record { path = segments e.path.bytes; content = e.content; modified = option_map (λ m. m.0) e.modified }

-- ---- its property

abbrev pub time_namespace : List ℕ
time_namespace = codes "urn:dav-resource-core:import"

-- the element, as a server writes one that it keeps
abbrev pub time_xml : ℕ → List ℕ
time_xml modified = codes "<n:modified xmlns:D=\"DAV:\" xmlns=\"\" xmlns:n=\"urn:dav-resource-core:import\">" ++ decimal modified ++ codes "</n:modified>"

-- the time in the source, as a property
abbrev pub time_property : ℕ → Property
time_property modified = record { name = codes "modified"; prefix = None; namespace = Some time_namespace; xml = Some (time_xml modified) }

-- ---- its notes

-- what makes it
abbrev pub making : Path → Option (List ℕ) → Command
making path (Some bytes) = Command.Put path bytes
making path None = Command.MkCol path

-- nobody's request at a moment
abbrev pub unnamed_note : ℕ → Command → Noted
unnamed_note now command = record { request = record { principal = None; tokens = []; now = now; command = command }; drawn = None }

-- the property is set, where there is a time
abbrev pub dating : ℕ → Path → Option ℕ → List Noted
dating now path (Some modified) = unnamed_note now (Command.PatchProps path ((true, time_property modified) ∷ [])) ∷ []
dating now path None = []

-- it is made, and its property is set, at one moment
abbrev pub notes_for : ℕ → Source → List Noted
notes_for now s = unnamed_note now (making s.path s.content) ∷ dating now s.path s.modified

-- the moment that comes behind the last one: the clock's where that is later, else the next nanosecond
abbrev pub moment_behind : ℕ → ℕ → ℕ
moment_behind last clock = max (last + 1) clock
