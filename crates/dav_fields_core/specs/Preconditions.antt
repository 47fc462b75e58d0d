-- The conditions of HTTP, in the order of RFC 9110 section 13.2.2, of the headers and of what stands at the path.
use Rattle.std.specs.Prelude.{ℕ, Bool, true, false, not, ◌*◌, ◌/◌, ◌==◌, ◌||◌, ◌&&◌, nat_le, if◌then◌else◌, List, codes, length, Option, None, Some, is_some, Result, Ok, Err}
use Rattle.http_header.specs.FieldValue.{FieldValue}
use Rattle.http_header.specs.HeaderMap.{Entries, get_all}
use Rattle.httpdate.specs.Date.{parse_secs}
use Rattle.dav_path_core.specs.declared.util.DavMethod.{DavMethod}
use Rattle.dav_path_core.specs.declared.util.DavMethod.TheVariants as method
use Rattle.dav_headers_core.specs.Optional.{◌>>=◌}
use Rattle.dav_headers_core.specs.Values.{one_value}
use Rattle.dav_fields_core.specs.declared.etags.Standing.{Standing}
use Rattle.dav_fields_core.specs.declared.etags.Standing.TheVariants.{Nothing, Folder, File}
use Rattle.dav_faults_core.specs.declared.faults.Fault.{Fault}
use Rattle.dav_faults_core.specs.declared.faults.Fault.TheVariants as fault
use Rattle.dav_fields_core.specs.declared.listed_tags.Comparison.{Comparison}
use Rattle.dav_fields_core.specs.declared.listed_tags.Comparison.TheVariants.{Strong, Weak}
use Rattle.dav_fields_core.specs.declared.preconditions.Course.{Course}
use Rattle.dav_fields_core.specs.declared.preconditions.Course.TheVariants as course
use Rattle.dav_fields_core.specs.ListedTags.{is_entity_tag, trim, are_tag_lists, list_some, is_star, same_by}

-- ---- what stands at the path

abbrev pub stands : Standing → Bool
stands Nothing = false
stands Folder = true
stands (File tag modified latest) = true

-- its tag is this one by the comparison; a folder has none
abbrev pub has_tag : Comparison → Standing → List ℕ → Bool
has_tag by Nothing other = false
has_tag by Folder other = false
has_tag by (File tag modified latest) other = same_by by tag other

-- Whether a date tells a file as it is: it is the second of its last change, which its clients are told; or it is before none of the moments along its path
-- (own; stricter than sections 13.1.3 and 13.1.4). A folder is not told by a date.
abbrev pub is_told_by : Standing → ℕ → Option Bool
is_told_by Nothing second = None
is_told_by Folder second = None
is_told_by (File tag modified latest) second = Some (second == modified.0 / 1_000_000_000 || nat_le latest.0 (second * 1_000_000_000))

-- ---- each condition: whether it holds, nothing where it can't be read

-- one of the tags, or anything at all (section 13.1.1)
abbrev pub if_match : Standing → List FieldValue → Option Bool
if_match standing values =
    if is_star values then Some (stands standing)
    else if are_tag_lists values then Some (list_some (has_tag Strong standing) values) else None

-- none of the tags, or nothing at all (section 13.1.2)
abbrev pub if_none_match : Standing → List FieldValue → Option Bool
if_none_match standing values =
    if is_star values then Some (not (stands standing))
    else if are_tag_lists values then Some (not (list_some (has_tag Weak standing) values)) else None

-- the second that the one value shows
abbrev pub second_in : List FieldValue → Option ℕ
second_in values = one_value values >>= λ text. parse_secs (trim text)

-- whether the date tells what stands there as it is; nothing where one of the two is missing
abbrev pub unchanged_since : Standing → List FieldValue → Option Bool
unchanged_since standing values = second_in values >>= λ since. is_told_by standing since

-- Where no date is read, or nothing has one, the two conditions are as if they were not there (sections 13.1.3 and 13.1.4).
abbrev pub if_unmodified_since : Standing → List FieldValue → Bool
if_unmodified_since standing values = elim (unchanged_since standing values) [ None ↦ true | Some unchanged ↦ unchanged ]

abbrev pub if_modified_since : Standing → List FieldValue → Bool
if_modified_since standing values = elim (unchanged_since standing values) [ None ↦ true | Some unchanged ↦ not unchanged ]

-- The file has this tag. By a date it never holds, since files may change more than once in a second (section 13.1.5).
abbrev pub if_range : Standing → List FieldValue → Option Bool
if_range standing values = one_value values >>= λ text.
    if is_entity_tag (trim text) then Some (has_tag Strong standing (trim text))
    else if is_some (parse_secs (trim text)) then Some false else None

-- ---- the order

abbrev pub is_get : DavMethod → Bool
is_get method.Get = true
is_get _ = false

abbrev pub is_get_or_head : DavMethod → Bool
is_get_or_head method.Get = true
is_get_or_head method.Head = true
is_get_or_head _ = false

-- the header is not there
abbrev pub is_missing : List FieldValue → Bool
is_missing values = length values == 0

-- steps 1 and 2: `If-Match`, or where there is none `If-Unmodified-Since`
abbrev pub is_wanted : Standing → Entries FieldValue → Option Bool
is_wanted standing headers =
    let tags = get_all headers (codes "if-match") in
    if is_missing tags then Some (if_unmodified_since standing (get_all headers (codes "if-unmodified-since")))
    else if_match standing tags

-- steps 3 and 4: `If-None-Match`, or where there is none, of GET and HEAD, `If-Modified-Since`
abbrev pub is_new : DavMethod → Standing → Entries FieldValue → Option Bool
is_new m standing headers =
    let tags = get_all headers (codes "if-none-match") in
    if not (is_missing tags) then if_none_match standing tags
    else if is_get_or_head m then Some (if_modified_since standing (get_all headers (codes "if-modified-since"))) else Some true

-- step 5: `If-Range` of a GET with `Range`; without both there is no condition on a part
abbrev pub is_part_wanted : DavMethod → Standing → Entries FieldValue → Option Bool
is_part_wanted m standing headers =
    let validators = get_all headers (codes "if-range") in
    if is_missing validators || is_missing (get_all headers (codes "range")) || not (is_get m) then Some true
    else if_range standing validators

-- what follows where the request is wanted, and where what it asks for is new
abbrev pub part_course : Option Bool → Option Course
part_course part = part >>= λ wanted. if wanted then Some course.Proceed else Some course.Whole

abbrev pub course_of_wanted : DavMethod → Standing → Entries FieldValue → Option Course
course_of_wanted m standing headers = is_new m standing headers >>= λ new.
    if new then part_course (is_part_wanted m standing headers)
    else if is_get_or_head m then Some course.NotModified else Some course.PreconditionFailed

-- what follows from all of them; nothing where one that is looked at can't be read
abbrev pub course_of : DavMethod → Standing → Entries FieldValue → Option Course
course_of m standing headers = is_wanted standing headers >>= λ wanted.
    if wanted then course_of_wanted m standing headers else Some course.PreconditionFailed

-- none of the five headers is there that a condition can stand in
abbrev pub asks_nothing : Entries FieldValue → Bool
asks_nothing headers =
    is_missing (get_all headers (codes "if-match")) && is_missing (get_all headers (codes "if-unmodified-since"))
    && is_missing (get_all headers (codes "if-none-match")) && is_missing (get_all headers (codes "if-modified-since"))
    && is_missing (get_all headers (codes "if-range"))

-- what can't be read is a bad request
abbrev pub or_bad_request : {A : Type 0} → Option A → Result A Fault
or_bad_request (Some x) = Ok x
or_bad_request None = Err fault.BadRequest
