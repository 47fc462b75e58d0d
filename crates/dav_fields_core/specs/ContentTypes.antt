-- The types of files, by their names (own; RFC 9110 section 8.3).
use Rattle.std.specs.Prelude.{ℕ, nat_eq, List, [], ◌∷◌, map, Option, None, Some, bytes_eq, codes, if◌then◌else◌}
use Rattle.std.specs.Char.{to_ascii_lowercase}

-- what stands behind the last dot of a name, where there is one
abbrev pub extension : List ℕ → Option (List ℕ)
extension [] = None
extension (b ∷ bs) = elim (extension bs) [ Some text ↦ Some text | None ↦ if nat_eq b 46 then Some bs else None ]

-- an extension and a type
abbrev pub TypeEntry : Type 0
TypeEntry = List ℕ × List ℕ

-- the type of the first entry that has the extension, in either case of letters
abbrev pub type_in : List TypeEntry → List ℕ → Option (List ℕ)
type_in [] text = None
type_in (entry ∷ table) text = if bytes_eq (map to_ascii_lowercase text) (map to_ascii_lowercase entry.0) then Some entry.1 else type_in table text

-- an extension in lower case, and the type of such files
abbrev pub table : List TypeEntry
table =
    (codes "7z", codes "application/x-7z-compressed") ∷
    (codes "avi", codes "video/x-msvideo") ∷
    (codes "bmp", codes "image/bmp") ∷
    (codes "bz2", codes "application/x-bzip2") ∷
    (codes "css", codes "text/css") ∷
    (codes "csv", codes "text/csv") ∷
    (codes "doc", codes "application/msword") ∷
    (codes "docx", codes "application/vnd.openxmlformats-officedocument.wordprocessingml.document") ∷
    (codes "flac", codes "audio/flac") ∷
    (codes "gif", codes "image/gif") ∷
    (codes "gz", codes "application/gzip") ∷
    (codes "htm", codes "text/html") ∷
    (codes "html", codes "text/html") ∷
    (codes "ics", codes "text/calendar") ∷
    (codes "ico", codes "image/x-icon") ∷
    (codes "jpeg", codes "image/jpeg") ∷
    (codes "jpg", codes "image/jpeg") ∷
    (codes "js", codes "text/javascript") ∷
    (codes "json", codes "application/json") ∷
    (codes "md", codes "text/markdown") ∷
    (codes "mkv", codes "video/x-matroska") ∷
    (codes "mov", codes "video/quicktime") ∷
    (codes "mp3", codes "audio/mpeg") ∷
    (codes "mp4", codes "video/mp4") ∷
    (codes "odt", codes "application/vnd.oasis.opendocument.text") ∷
    (codes "ogg", codes "audio/ogg") ∷
    (codes "pdf", codes "application/pdf") ∷
    (codes "png", codes "image/png") ∷
    (codes "ppt", codes "application/vnd.ms-powerpoint") ∷
    (codes "svg", codes "image/svg+xml") ∷
    (codes "tar", codes "application/x-tar") ∷
    (codes "tif", codes "image/tiff") ∷
    (codes "tiff", codes "image/tiff") ∷
    (codes "txt", codes "text/plain") ∷
    (codes "vcf", codes "text/vcard") ∷
    (codes "wav", codes "audio/wav") ∷
    (codes "webm", codes "video/webm") ∷
    (codes "webp", codes "image/webp") ∷
    (codes "xml", codes "text/xml") ∷
    (codes "zip", codes "application/zip") ∷ []

-- the type of bytes of which nothing is known
abbrev pub other_type : List ℕ
other_type = codes "application/octet-stream"

-- of a file with this name; that of bytes of which nothing is known where the table has none
abbrev pub content_type : List ℕ → List ℕ
content_type name = elim (extension name) [ None ↦ other_type | Some text ↦ elim (type_in table text) [ None ↦ other_type | Some known ↦ known ] ]
