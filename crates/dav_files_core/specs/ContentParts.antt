-- Reading and writing a part of a file (RFC 9110 sections 9.3.1 and 14).
use Rattle.std.specs.Prelude.{ℕ, ◌+◌, ◌^◌, nat_lt, List, length, take, drop, Option, unwrap_or, Result, Ok, Err, if◌then◌else◌}
use Rattle.dav_path_core.specs.declared.errors.FsError.{FsError}
use Rattle.dav_path_core.specs.declared.errors.FsError.TheVariants.{TooLarge}
use Rattle.dav_path_core.specs.Fronts.{Path}
use Rattle.dav_files_core.specs.OpenFiles.{overwritten_at}
use Rattle.dav_files_core.specs.Resources.{ResourceMap}
use Rattle.dav_files_core.specs.Finding.{find}
use Rattle.dav_files_core.specs.Outcomes.{Outcome, ◌>>=◌, only_file, with_other_node}

-- a file's bytes from min(at, length) to min(at + count, length)
abbrev pub read_at : ResourceMap → Path → ℕ → ℕ → Result (List ℕ) FsError
read_at m p at count = find m p >>= λ r. only_file r >>= λ r. Ok (take count (drop at r.node.bytes))

-- bytes are written over a file's from a place on, or at its end; a gap is filled with zeros, and the times stay
abbrev pub write_at : ResourceMap → Path → Option ℕ → List ℕ → Outcome (Unit {0})
write_at m p at new =
    find m p >>= λ r. only_file r >>= λ r.
    let start = unwrap_or at (length r.node.bytes) in
    if nat_lt (start + length new) (2 ^ 64)
    then Ok (tt, with_other_node m p r (record r.node { bytes = overwritten_at r.node.bytes start new }))
    else Err TooLarge
