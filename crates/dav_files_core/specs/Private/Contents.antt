-- The bytes of a file, however they are held (own).
use Rattle.std.specs.Prelude.{ℕ, List}
use Rattle.dav_files_core.specs.declared.memfs.contents.Held.{Held}
use Rattle.dav_files_core.specs.declared.memfs.contents.Held.TheVariants.{Shared, Alone}

abbrev pub bytes_of : Held → List ℕ
bytes_of (Shared bytes) = bytes
bytes_of (Alone bytes) = bytes.items
