-- Putting a file (RFC 4918 section 9.7).
use Rattle.std.specs.Prelude.{ℕ, List, Option, Some, None, Ok}
use Rattle.dav_path_core.specs.Fronts.{Path, parent}
use Rattle.dav_files_core.specs.Resources.{Resource, ResourceMap, at_path}
use Rattle.dav_files_core.specs.Outcomes.{Outcome, ◌>>=◌, only_file, find_folder, with_new_entry, with_other_node, new_file}

-- by what stands at the path
abbrev pub put_at : ResourceMap → Path → List ℕ → ℕ → Option Resource → Outcome (Unit {0})
put_at m p bytes now (Some r) = only_file r >>= λ r. Ok (tt, with_other_node m p r (record r.node { bytes = bytes; modified = now }))
put_at m p bytes now None = find_folder m (parent p) >>= λ _. Ok (tt, with_new_entry m p (new_file bytes now))

-- a file's bytes become those given; a missing file is made in its folder
abbrev pub put : ResourceMap → Path → List ℕ → ℕ → Outcome (Unit {0})
put m p bytes now = put_at m p bytes now (at_path m p)
