-- Worked rows of the conditions of HTTP and of tags, computed.
use Rattle.std.proofs.Common.{◌≡◌, refl, ℕ, true, false, List, [], ◌∷◌, ◌++◌, None, Some}
use Rattle.std.specs.Prelude.{codes}
use Rattle.std.specs.Fmt.{digits}
use Rattle.http_header.specs.FieldValue.{FieldValue, plain_value}
use Rattle.http_header.specs.HeaderMap.{Entries}
use Rattle.httpdate.specs.Calendar.{days_of_years, days_of_months}
use Rattle.httpdate.specs.Reader.{read_tag, read_two_digits, read_name, read_year, read_time, read_padded_day, parse_imf_fixdate, parse_rfc850_date, parse_asctime, parse}
use Rattle.dav_path_core.specs.declared.util.DavMethod.TheVariants as method
use Rattle.dav_headers_core.specs.Tags.{spelled_tag}
use Rattle.dav_fields_core.specs.declared.etags.Standing.{Standing}
use Rattle.dav_fields_core.specs.declared.etags.Standing.TheVariants.{Nothing, Folder, File}
use Rattle.dav_fields_core.specs.declared.preconditions.Course.TheVariants.{Proceed, Whole, NotModified, PreconditionFailed}
use Rattle.dav_fields_core.specs.FileTags.{file_tag}
use Rattle.dav_fields_core.specs.ListedTags.{elements, is_entity_tag}
use Rattle.dav_fields_core.specs.Preconditions.{course_of}

-- ---- tags and lists of them

tag_is : file_tag 5 12 ≡ spelled_tag false (codes "5-12")
unfolding digits
tag_is = refl

comma_inside : elements (spelled_tag false (codes "a,b") ++ codes " , " ++ spelled_tag true (codes "c") ++ codes ",,") ≡ spelled_tag false (codes "a,b") ∷ spelled_tag true (codes "c") ∷ [] ∷ [] ∷ []
comma_inside = refl

no_end : elements (codes "x" ++ 34 ∷ codes "a,b") ≡ (codes "x" ++ 34 ∷ codes "a,b") ∷ []
no_end = refl

blank_inside : is_entity_tag (spelled_tag false (codes "a b")) ≡ false
blank_inside = refl

weak_one : is_entity_tag (spelled_tag true (codes "a,b")) ≡ true
weak_one = refl

small_mark : is_entity_tag (codes "w/" ++ spelled_tag false (codes "a")) ≡ false
small_mark = refl

-- ---- one header

-- a file whose tag is `"5-12"`, changed last in second 2, before the last of the folders above was
abbrev file : Standing
file = File (spelled_tag false (codes "5-12")) (record { 0 = 2_700_000_000 }) (record { 0 = 4_000_000_000 })

abbrev tag : List ℕ
tag = spelled_tag false (codes "5-12")

abbrev with : List ℕ → List ℕ → Entries FieldValue
with name value = (name, plain_value value ∷ []) ∷ []

match_same : course_of method.Put file (with (codes "if-match") (spelled_tag false (codes "x") ++ codes ", " ++ tag)) ≡ Some Proceed
match_same = refl

match_weak : course_of method.Put file (with (codes "if-match") (codes "W/" ++ tag)) ≡ Some PreconditionFailed
match_weak = refl

match_any_of_nothing : course_of method.Put Nothing (with (codes "if-match") (codes "*")) ≡ Some PreconditionFailed
match_any_of_nothing = refl

match_any_of_a_folder : course_of method.Put Folder (with (codes "if-match") (codes " * ")) ≡ Some Proceed
match_any_of_a_folder = refl

match_tag_of_a_folder : course_of method.Put Folder (with (codes "if-match") tag) ≡ Some PreconditionFailed
match_tag_of_a_folder = refl

none_of_this_read : course_of method.Get file (with (codes "if-none-match") (codes "W/" ++ tag)) ≡ Some NotModified
none_of_this_read = refl

none_of_this_written : course_of method.Put file (with (codes "if-none-match") tag) ≡ Some PreconditionFailed
none_of_this_written = refl

none_of_others : course_of method.Get file (with (codes "if-none-match") (spelled_tag false (codes "5-12,x"))) ≡ Some Proceed
none_of_others = refl

none_of_any_at_nothing : course_of method.Put Nothing (with (codes "if-none-match") (codes "*")) ≡ Some Proceed
none_of_any_at_nothing = refl

none_of_any_at_a_folder : course_of method.MkCol Folder (with (codes "if-none-match") (codes "*")) ≡ Some PreconditionFailed
none_of_any_at_a_folder = refl

-- what can't be read
blank_in_a_tag : course_of method.Get file (with (codes "if-none-match") (spelled_tag false (codes "a b"))) ≡ None
blank_in_a_tag = refl

star_in_a_list : course_of method.Get file (with (codes "if-match") (codes "*, " ++ tag)) ≡ None
star_in_a_list = refl

-- ---- dates

-- the last change came in second 2
unmodified_before : course_of method.Put file (with (codes "if-unmodified-since") (codes "Thu, 01 Jan 1970 00:00:01 GMT")) ≡ Some PreconditionFailed
unfolding days_of_years days_of_months read_tag read_two_digits read_name read_year read_time read_padded_day parse_imf_fixdate parse_rfc850_date parse_asctime parse
unmodified_before = refl

-- the second that the file is told with
unmodified_since : course_of method.Put file (with (codes "if-unmodified-since") (codes "Thu, 01 Jan 1970 00:00:02 GMT")) ≡ Some Proceed
unfolding days_of_years days_of_months read_tag read_two_digits read_name read_year read_time read_padded_day parse_imf_fixdate parse_rfc850_date parse_asctime parse
unmodified_since = refl

-- a date behind it tells nothing until it is before none of the moments along the path
unmodified_between : course_of method.Put file (with (codes "if-unmodified-since") (codes "Thu, 01 Jan 1970 00:00:03 GMT")) ≡ Some PreconditionFailed
unfolding days_of_years days_of_months read_tag read_two_digits read_name read_year read_time read_padded_day parse_imf_fixdate parse_rfc850_date parse_asctime parse
unmodified_between = refl

unmodified_behind_all : course_of method.Put file (with (codes "if-unmodified-since") (codes "Thu, 01 Jan 1970 00:00:04 GMT")) ≡ Some Proceed
unfolding days_of_years days_of_months read_tag read_two_digits read_name read_year read_time read_padded_day parse_imf_fixdate parse_rfc850_date parse_asctime parse
unmodified_behind_all = refl

not_modified : course_of method.Head file (with (codes "if-modified-since") (codes "Thu, 01 Jan 1970 00:00:02 GMT")) ≡ Some NotModified
unfolding days_of_years days_of_months read_tag read_two_digits read_name read_year read_time read_padded_day parse_imf_fixdate parse_rfc850_date parse_asctime parse
not_modified = refl

modified : course_of method.Get file (with (codes "if-modified-since") (codes "Thu, 01 Jan 1970 00:00:01 GMT")) ≡ Some Proceed
unfolding days_of_years days_of_months read_tag read_two_digits read_name read_year read_time read_padded_day parse_imf_fixdate parse_rfc850_date parse_asctime parse
modified = refl

modified_between : course_of method.Get file (with (codes "if-modified-since") (codes "Thu, 01 Jan 1970 00:00:03 GMT")) ≡ Some Proceed
unfolding days_of_years days_of_months read_tag read_two_digits read_name read_year read_time read_padded_day parse_imf_fixdate parse_rfc850_date parse_asctime parse
modified_between = refl

-- a date that can't be read is as if it were not there, and so is one of a folder
no_date : course_of method.Put file (with (codes "if-unmodified-since") (codes "yesterday")) ≡ Some Proceed
unfolding days_of_years days_of_months read_tag read_two_digits read_name read_year read_time read_padded_day parse_imf_fixdate parse_rfc850_date parse_asctime parse
no_date = refl

folder_since : course_of method.Get Folder (with (codes "if-modified-since") (codes "Thu, 01 Jan 1970 00:00:02 GMT")) ≡ Some Proceed
unfolding days_of_years days_of_months read_tag read_two_digits read_name read_year read_time read_padded_day parse_imf_fixdate parse_rfc850_date parse_asctime parse
folder_since = refl

-- no part by a date, not even by the right one
part_by_a_date : course_of method.Get file ((codes "if-range", plain_value (codes "Thu, 01 Jan 1970 00:00:02 GMT") ∷ []) ∷ with (codes "range") (codes "bytes=0-1")) ≡ Some Whole
unfolding days_of_years days_of_months read_tag read_two_digits read_name read_year read_time read_padded_day parse_imf_fixdate parse_rfc850_date parse_asctime parse
part_by_a_date = refl

-- ---- the order

-- `If-Match` decides before `If-None-Match`
match_first : course_of method.Get file ((codes "if-none-match", plain_value tag ∷ []) ∷ with (codes "if-match") (codes "W/" ++ tag)) ≡ Some PreconditionFailed
match_first = refl

-- `If-None-Match` puts `If-Modified-Since` aside
none_match_first : course_of method.Get file ((codes "if-none-match", plain_value (codes "W/" ++ spelled_tag false (codes "x")) ∷ []) ∷ with (codes "if-modified-since") (codes "?")) ≡ Some Proceed
none_match_first = refl

part_of_this : course_of method.Get file ((codes "if-range", plain_value tag ∷ []) ∷ with (codes "range") (codes "bytes=0-1")) ≡ Some Proceed
part_of_this = refl

part_of_another : course_of method.Get file ((codes "if-range", plain_value (codes "W/" ++ tag) ∷ []) ∷ with (codes "range") (codes "bytes=0-1")) ≡ Some Whole
part_of_another = refl

no_part : course_of method.Get file (with (codes "if-range") (codes "?")) ≡ Some Proceed
no_part = refl
