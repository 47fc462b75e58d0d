-- Open files: what their calls answer over a resource map, and what they leave (own).
use Rattle.std.specs.Prelude.{ℕ, ◌+◌, ◌-◌, ◌^◌, ℤ, pos, negsuc, ◌+ℤ◌, ◌==◌, nat_lt, List, ◌++◌, length, take, drop, replicate, Option, Result, Ok, Err, ok_or, if◌then◌else◌, find as find_in}
use Rattle.std.specs.FinMap.{entries}
use Rattle.std.specs.declared.io.traits.SeekFrom.{SeekFrom}
use Rattle.std.specs.declared.io.traits.SeekFrom.TheVariants.{Start, End, Current}
use Rattle.dav_path_core.specs.declared.errors.FsError.{FsError}
use Rattle.dav_path_core.specs.declared.errors.FsError.TheVariants.{NotFound, NotImplemented, TooLarge}
use Rattle.dav_path_core.specs.Fronts.{Path}
use Rattle.dav_files_core.specs.Resources.{Resource, ResourceMap}
use Rattle.dav_files_core.specs.Meta.{Meta, meta_at}
use Rattle.dav_files_core.specs.Opening.{OpenFile}
use Rattle.dav_files_core.specs.Outcomes.{◌>>=◌, only_file, with_other_node}

-- ---- the entry that is open

-- the one entry with a number, wherever it stands
abbrev pub with_number : ResourceMap → ℕ → Option (Path × Resource)
with_number m n = find_in (λ e. e.1.number == n) (entries m.entries)

-- the same, or that it is gone
abbrev pub open_entry : ResourceMap → OpenFile → Result (Path × Resource) FsError
open_entry m f = ok_or (with_number m f.number) NotFound

-- the same of a file; an entry that became a folder is forbidden
abbrev pub open_file : ResourceMap → OpenFile → Result (Path × Resource) FsError
open_file m f = open_entry m f >>= λ e. only_file e.1 >>= λ _. Ok e

-- what is known of it
abbrev pub open_metadata : ResourceMap → OpenFile → Result Meta FsError
open_metadata m f = open_entry m f >>= λ e. Ok (meta_at e.1.node)

-- ---- reading

-- the bytes from min(at, length) to min(at + count, length)
abbrev pub part : List ℕ → ℕ → ℕ → List ℕ
part bytes at count = take count (drop at bytes)

-- a part from the position on, and the file moved by as many bytes
abbrev pub read_bytes : ResourceMap → OpenFile → ℕ → Result (List ℕ × OpenFile) FsError
read_bytes m f count =
    open_file m f >>= λ e.
    let bytes = part e.1.node.bytes f.position count in
    Ok (bytes, record f { position = f.position + length bytes })

-- ---- writing

-- bytes put over others from a place on; a gap before it is filled with zeros
abbrev pub overwritten_at : List ℕ → ℕ → List ℕ → List ℕ
overwritten_at bytes at new = take at bytes ++ replicate (at - length bytes) 0 ++ new ++ drop (at + length new) bytes

-- where a write begins: at the end where the file appends, else at the position
abbrev pub start_of_write : OpenFile → List ℕ → ℕ
start_of_write f bytes = if f.append then length bytes else f.position

-- the file stands behind what was written, and the times stay; no position may be past the greatest `usize`
abbrev pub write_bytes : ResourceMap → OpenFile → List ℕ → Result (Unit {0} × (OpenFile × ResourceMap)) FsError
write_bytes m f new =
    open_file m f >>= λ e.
    let start = start_of_write f e.1.node.bytes in
    if nat_lt (start + length new) (2 ^ 64)
    then Ok (tt, (record f { position = start + length new }, with_other_node m e.0 e.1 (record e.1.node { bytes = overwritten_at e.1.node.bytes start new })))
    else Err TooLarge

-- ---- seeking

-- a position; none is before the start, or past the greatest `usize`
abbrev pub position_of : ℤ → Result ℕ FsError
position_of (pos n) = if nat_lt n (2 ^ 64) then Ok n else Err NotImplemented
position_of (negsuc n) = Err NotImplemented

-- where a seek leads; only one from the end looks at the entry
abbrev pub seek_target : ResourceMap → OpenFile → SeekFrom → Result ℕ FsError
seek_target m f (Start n) = Ok n
seek_target m f (Current offset) = position_of (pos f.position +ℤ offset)
seek_target m f (End offset) = open_file m f >>= λ e. position_of (pos (length e.1.node.bytes) +ℤ offset)

abbrev pub seek : ResourceMap → OpenFile → SeekFrom → Result (ℕ × OpenFile) FsError
seek m f to = seek_target m f to >>= λ at. Ok (at, record f { position = at })
