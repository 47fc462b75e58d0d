-- The lines that `davreplay` answers (own).
use Rattle.std.specs.Prelude.{ℕ, List, [], ◌∷◌, ◌++◌, Option, Some, None, codes, unwrap_or, map, Ok, Err}
use Rattle.std.specs.Fmt.{decimal}
use Rattle.std.specs.List.{flat_map}
use Rattle.hex.specs.Hex.{encode_lower}
use Rattle.dav_path_core.specs.declared.davpath.ParseError.{ParseError}
use Rattle.dav_path_core.specs.declared.davpath.ParseError.TheVariants.{InvalidPath, PrefixMismatch, ForbiddenPath, OutOfMemory as NoRoom}
use Rattle.dav_path_core.specs.declared.errors.FsError.{FsError}
use Rattle.dav_path_core.specs.declared.errors.FsError.TheVariants.{NotImplemented, GeneralFailure, Exists, NotFound, Forbidden, InsufficientStorage, LoopDetected, PathTooLong, TooLarge, IsRemote}
use Rattle.dav_path_core.specs.Errors.{fs_status}
use Rattle.dav_path_core.specs.Fronts.{Segment}
use Rattle.dav_path_core.specs.Url.{url}
use Rattle.dav_files_core.specs.declared.memfs.Kind.{Kind}
use Rattle.dav_files_core.specs.declared.memfs.Kind.TheVariants.{Folder, File}
use Rattle.dav_files_core.specs.Meta.{Meta}
use Rattle.dav_files_core.specs.Resources.{Property}
use Rattle.dav_locks_core.specs.Lock.{Lock}
use Rattle.dav_guarded_core.specs.Requests.{Command, Reply, Done, Bytes, Entries, Meta as Known, Patched, Props, Value, Granted, Locks, Answer, Locked, NoLock, OutOfMemory, Fs}

-- `ok`, and what is told behind it
abbrev pub ok_line : List ℕ → List ℕ
ok_line told = codes "ok" ++ told ++ codes "\n"

-- a word behind a space
abbrev pub spaced_word : List ℕ → List ℕ
spaced_word word = codes " " ++ word

-- ---- files

-- bytes in lower-case hexadecimal digits, `-` for none
abbrev pub hex_text : List ℕ → List ℕ
hex_text [] = codes "-"
hex_text (b ∷ bytes) = encode_lower (b ∷ bytes)

abbrev pub kind_text : Kind → List ℕ
kind_text Folder = codes "folder"
kind_text File = codes "file"

-- the kind, the length, and the moments at which it was modified and created
abbrev pub meta_text : Meta → List ℕ
meta_text meta = spaced_word (kind_text meta.kind) ++ spaced_word (decimal meta.length) ++ spaced_word (decimal meta.modified) ++ spaced_word (decimal meta.created)

-- what stands behind the name of a member
abbrev pub slash_behind : Kind → List ℕ
slash_behind Folder = codes "/"
slash_behind File = []

-- its name as a URL text
abbrev pub member_text : Segment × Meta → List ℕ
member_text e = spaced_word (url e.0) ++ slash_behind e.1.kind

-- ---- properties

-- the status of a property that was set or removed
abbrev pub status_text : ℕ × Property → List ℕ
status_text answer = spaced_word (decimal answer.0)

-- its namespace, `-` for none, and its name
abbrev pub property_text : Property → List ℕ
property_text p = spaced_word (unwrap_or p.namespace (codes "-")) ++ spaced_word p.name

-- ---- locks, by the numbers of their labels

abbrev pub label_text : ℕ → List ℕ
label_text number = codes "t" ++ decimal number

abbrev pub locked_line : ℕ → List ℕ
locked_line number = codes "locked " ++ label_text number ++ codes "\n"

-- the moment at which a timeout ends, `-` for none
abbrev pub end_text : Option ℕ → List ℕ
end_text (Some end) = decimal end
end_text None = codes "-"

-- ---- refusals

abbrev pub no_lock_line : List ℕ
no_lock_line = codes "no lock\n"

abbrev pub out_of_memory_line : List ℕ
out_of_memory_line = codes "out of memory\n"

-- the name of an error by the files
abbrev pub file_error_text : FsError → List ℕ
file_error_text NotImplemented = codes "NotImplemented"
file_error_text GeneralFailure = codes "GeneralFailure"
file_error_text Exists = codes "Exists"
file_error_text NotFound = codes "NotFound"
file_error_text Forbidden = codes "Forbidden"
file_error_text InsufficientStorage = codes "InsufficientStorage"
file_error_text LoopDetected = codes "LoopDetected"
file_error_text PathTooLong = codes "PathTooLong"
file_error_text TooLarge = codes "TooLarge"
file_error_text IsRemote = codes "IsRemote"

-- its status, and its name
abbrev pub error_line : FsError → List ℕ
error_line e = codes "error " ++ decimal (fs_status e) ++ codes " " ++ file_error_text e ++ codes "\n"

-- the name of what keeps a text from being a path
abbrev pub path_error_text : ParseError → List ℕ
path_error_text InvalidPath = codes "InvalidPath"
path_error_text PrefixMismatch = codes "PrefixMismatch"
path_error_text ForbiddenPath = codes "ForbiddenPath"
path_error_text NoRoom = codes "OutOfMemory"

abbrev pub bad_path_line : ParseError → List ℕ
bad_path_line e = codes "bad path " ++ path_error_text e ++ codes "\n"

-- ---- the line of an answer to a command, by the numbers of the labels of tokens

-- a lock that was granted is told by its label, and one that was refreshed with its end
abbrev pub lock_line : (List ℕ → ℕ) → Command → Lock → List ℕ
lock_line number (Command.Refresh path token timeout) lock = ok_line (spaced_word (label_text (number lock.token)) ++ spaced_word (end_text lock.timeout_at))
lock_line number command lock = ok_line (spaced_word (label_text (number lock.token)))

abbrev pub reply_line : (List ℕ → ℕ) → Command → Reply → List ℕ
reply_line number command Done = ok_line []
reply_line number command (Bytes bytes) = ok_line (spaced_word (hex_text bytes))
reply_line number command (Entries entries) = ok_line (flat_map member_text entries)
reply_line number command (Known meta) = ok_line (meta_text meta)
reply_line number command (Patched answers) = ok_line (flat_map status_text answers)
reply_line number command (Props props) = ok_line (flat_map property_text props)
reply_line number command (Value xml) = ok_line (spaced_word (hex_text xml))
reply_line number command (Granted lock) = lock_line number command lock
reply_line number command (Locks locks) = ok_line (flat_map (λ token. spaced_word (label_text (number token))) (map (λ lock. lock.token) locks))

abbrev pub answer_line : (List ℕ → ℕ) → Command → Answer → List ℕ
answer_line number command (Ok reply) = reply_line number command reply
answer_line number command (Err (Fs e)) = error_line e
answer_line number command (Err (Locked lock)) = locked_line (number lock.token)
answer_line number command (Err NoLock) = no_lock_line
answer_line number command (Err OutOfMemory) = out_of_memory_line

-- the tokens of the locks granted so far, once a command was answered so
abbrev pub tokens_after : Command → Answer → List (List ℕ) → List (List ℕ)
tokens_after (Command.Refresh path token timeout) answer tokens = tokens
tokens_after command (Ok (Granted lock)) tokens = tokens ++ (lock.token ∷ [])
tokens_after command answer tokens = tokens
