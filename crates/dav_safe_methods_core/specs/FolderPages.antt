-- The page of a folder: a list of links to its members, and nothing else (own).
use Rattle.std.specs.Prelude.{◌≡◌, ℕ, List, [], ◌∷◌, ◌++◌, ◌==◌, codes, flat_map, Ok, Some, if◌then◌else◌}
use Rattle.std.specs.Str.{is_utf8}
use Rattle.dav_path_core.specs.Fronts.{Segment}
use Rattle.dav_path_core.specs.PathText.{PathText, full}
use Rattle.dav_path_core.specs.PathReading.{ends_in_slash}
use Rattle.dav_path_core.specs.Segments.{segments}
use Rattle.dav_path_core.specs.Url.{url}
use Rattle.dav_files_core.specs.declared.memfs.Kind.{Kind}
use Rattle.dav_files_core.specs.declared.memfs.Kind.TheVariants.{File, Folder}
use Rattle.dav_files_core.specs.Listing.{read_dir}
use Rattle.dav_files_core.specs.Meta.{Meta}
use Rattle.dav_files_core.specs.Resources.{Resource, ResourceMap, at_path}

-- a byte of a text of HTML, in which no character means more than itself
abbrev pub html_character : ℕ → List ℕ
html_character b =
    if b == 38 then codes "&amp;" else (
    if b == 60 then codes "&lt;" else (
    if b == 62 then codes "&gt;" else (
    if b == 34 then codes "&quot;" else b ∷ [])))

-- a path or a name as a text of HTML; bytes that are no UTF-8 as a URL writes them
abbrev pub page_text : List ℕ → List ℕ
page_text bytes = if is_utf8 bytes then flat_map html_character bytes else url bytes

-- what stands between the path of a folder and a name
abbrev pub slash_between : PathText → List ℕ
slash_between path = if ends_in_slash path.bytes then [] else codes "/"

-- behind the name of a folder
abbrev pub name_end : Kind → List ℕ
name_end Folder = codes "/"
name_end File = []

-- the line of a member
abbrev pub link : List ℕ → List ℕ → Segment × Meta → List ℕ
link folder slash (name, known) =
    codes "<li><a href=\"" ++ folder ++ slash ++ url name ++ name_end known.kind ++ codes "\">" ++ page_text name ++ name_end known.kind ++ codes "</a></li>\n"

-- of members in order
abbrev pub page : PathText → List (Segment × Meta) → List ℕ
page path members =
    codes "<!DOCTYPE html>\n<html><head><meta charset=\"utf-8\"><title>" ++ page_text (full path) ++ codes "</title></head><body><h1>" ++ page_text (full path) ++ codes "</h1><ul>\n"
    ++ flat_map (link (url (full path)) (slash_between path)) members ++ codes "</ul></body></html>\n"

-- its type
abbrev pub page_type : List ℕ
page_type = codes "text/html; charset=utf-8"

-- the body is the page of the folder at the path, with each member once, by the bytes of its name
abbrev pub IsPage : ResourceMap → PathText → List ℕ → Type 0
IsPage m path body = (members : List (Segment × Meta)) × (read_dir m (segments path.bytes) ≡ Ok members) × (body ≡ page path members)

-- so it is where a folder stands there that is told with 200
abbrev pub IsPaged : ResourceMap → PathText → ℕ → List ℕ → Type 0
IsPaged m path status body = (r : Resource) → at_path m (segments path.bytes) ≡ Some r → r.node.kind ≡ Folder → status ≡ 200 → IsPage m path body
