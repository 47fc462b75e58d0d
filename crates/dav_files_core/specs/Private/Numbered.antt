-- What private calls find by the number of an entry (own).
use Rattle.std.specs.Prelude.{ℕ, false, List, length, Result, Ok}
use Rattle.dav_path_core.specs.declared.errors.FsError.{FsError}
use Rattle.dav_files_core.specs.OpenFiles.{open_entry, open_file, part}
use Rattle.dav_files_core.specs.Opening.{OpenFile}
use Rattle.dav_files_core.specs.Outcomes.{◌>>=◌}
use Rattle.dav_files_core.specs.Resources.{Node, ResourceMap}

-- an open file with a number
abbrev pub by_number : ℕ → OpenFile
by_number n = record { number = n; position = 0; append = false }

abbrev pub node_with : ResourceMap → ℕ → Result Node FsError
node_with m n = open_entry m (by_number n) >>= λ e. Ok e.1.node

abbrev pub file_with : ResourceMap → ℕ → Result Node FsError
file_with m n = open_file m (by_number n) >>= λ e. Ok e.1.node

abbrev pub part_with : ResourceMap → ℕ → ℕ → ℕ → Result (List ℕ) FsError
part_with m n at count = file_with m n >>= λ node. Ok (part node.bytes at count)

abbrev pub length_with : ResourceMap → ℕ → Result ℕ FsError
length_with m n = file_with m n >>= λ node. Ok (length node.bytes)
