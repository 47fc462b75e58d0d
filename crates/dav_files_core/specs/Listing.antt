-- Listing the members of a folder (RFC 4918 section 9.1, with `Depth: 1`).
use Rattle.std.specs.Prelude.{List, map, Result, Ok}
use Rattle.std.specs.FinMap.{entries}
use Rattle.dav_path_core.specs.declared.errors.FsError.{FsError}
use Rattle.dav_path_core.specs.Fronts.{Segment, Path}
use Rattle.dav_files_core.specs.declared.memfs.listing.MemFsEntry.{MemFsEntry}
use Rattle.dav_files_core.specs.Resources.{Resource, ResourceMap}
use Rattle.dav_files_core.specs.Finding.{members}
use Rattle.dav_files_core.specs.Meta.{Meta, meta_at, meta_of}
use Rattle.dav_files_core.specs.Outcomes.{◌>>=◌, find_folder}

-- a member as it is listed: its name, and what is known of it
abbrev pub listed_member : Segment × Resource → Segment × Meta
listed_member e = (e.0, meta_at e.1.node)

-- each member once, by the bytes of its name
abbrev pub read_dir : ResourceMap → Path → Result (List (Segment × Meta)) FsError
read_dir m p = find_folder m p >>= λ _. Ok (map listed_member (entries (members m p)))

-- what an answer lists of a member
abbrev pub listed_entry : MemFsEntry → Segment × Meta
listed_entry e = (e.name, meta_of e.meta)
