-- Worked rows of the definitions, computed.
use Rattle.std.proofs.Common.{◌≡◌, refl, ℕ, true, false, List, [], ◌∷◌, None, Some}
use Rattle.std.specs.Prelude.{codes}
use Rattle.std.specs.Fmt.{digits}
use Rattle.http_header.specs.FieldValue.{FieldValue, plain_value}
use Rattle.dav_headers_core.specs.Numbers.{number}
use Rattle.dav_headers_core.specs.Values.{value_of_text}
use Rattle.dav_headers_core.specs.Depths.{depth_header}
use Rattle.dav_headers_core.specs.Timeouts.{timeout_of, timeout_header, timeouts_text}
use Rattle.dav_headers_core.specs.UpdateRanges.{range_between, range_header, range_text}
use Rattle.dav_headers_core.specs.Tags.{is_tag, new_tag, strong_eq, tag_header}
use Rattle.dav_headers_core.specs.TagLists.{AnyTag, TheseTags, tag_list_header, tag_list_text}
use Rattle.dav_headers_core.specs.Languages.{language_header}
use Rattle.dav_headers_core.specs.Destinations.{destination_header}
use Rattle.dav_headers_core.specs.declared.davheaders.depths.Depth.TheVariants as depth
use Rattle.dav_headers_core.specs.declared.davheaders.timeouts.DavTimeout.TheVariants.{Seconds, Infinite}
use Rattle.dav_headers_core.specs.declared.davheaders.update_ranges.XUpdateRange.TheVariants.{FromTo, AllFrom, Last}

abbrev one : List ℕ → List FieldValue
one bytes = plain_value bytes ∷ []

depth_infinity : depth_header (one (codes "infinity")) ≡ Some depth.Infinity
depth_infinity = refl

depth_two_values : depth_header (plain_value (codes "0") ∷ one (codes "0")) ≡ None
depth_two_values = refl

two_timeouts : timeout_header (one (codes "Infinite, Second-4100000000")) ≡ Some (Infinite ∷ Seconds 4100000000 ∷ [])
unfolding timeout_of number
two_timeouts = refl

two_timeouts_text : timeouts_text (Infinite ∷ Seconds 7 ∷ []) ≡ codes "Infinite, Second-7"
unfolding digits
two_timeouts_text = refl

most_seconds : timeout_header (one (codes "Second-4294967295")) ≡ Some (Seconds 4294967295 ∷ [])
unfolding timeout_of number
most_seconds = refl

too_many_seconds : timeout_header (one (codes "Second-4294967296")) ≡ None
unfolding timeout_of number
too_many_seconds = refl

signed_seconds : timeout_header (one (codes "Second-+7")) ≡ Some (Seconds 7 ∷ [])
unfolding timeout_of number
signed_seconds = refl

no_seconds : timeout_header (one (codes "Second-+")) ≡ None
unfolding timeout_of number
no_seconds = refl

no_timeouts : timeout_header (one (timeouts_text [])) ≡ None
unfolding timeout_of number
no_timeouts = refl

turned_range : range_header (one (codes "bytes=5-2")) ≡ Some (FromTo 5 2)
unfolding range_between number
turned_range = refl

last_bytes : range_header (one (codes "bytes=-7")) ≡ Some (Last 7)
unfolding range_between number
last_bytes = refl

last_bytes_text : range_text (Last 7) ≡ codes "bytes=-7"
unfolding digits
last_bytes_text = refl

one_dash : range_header (one (codes "bytes=-")) ≡ None
unfolding range_between number
one_dash = refl

two_dashes : range_header (one (codes "bytes=--")) ≡ None
unfolding range_between number
two_dashes = refl

most_bytes : range_header (one (codes "bytes=18446744073709551615-")) ≡ Some (AllFrom 18446744073709551615)
unfolding range_between number
most_bytes = refl

too_many_bytes : range_header (one (codes "bytes=18446744073709551616-")) ≡ None
unfolding range_between number
too_many_bytes = refl

star_later : tag_list_header (plain_value (codes "\"a\"") ∷ one (codes "*")) ≡ Some AnyTag
star_later = refl

two_tags : tag_list_header (one (codes "\"a\", x, W/\"b\"")) ≡ Some (TheseTags (codes "\"a\"" ∷ codes "W/\"b\"" ∷ []))
two_tags = refl

no_values : tag_list_header [] ≡ None
no_values = refl

star_and_no_text : tag_list_header (plain_value (codes "*") ∷ one (255 ∷ [])) ≡ Some AnyTag
star_and_no_text = refl

no_text_and_star : tag_list_header (plain_value (255 ∷ []) ∷ one (codes "*")) ≡ None
no_text_and_star = refl

star_in_a_list : tag_list_header (one (codes "x, *")) ≡ Some (TheseTags [])
star_in_a_list = refl

comma_in_a_tag : tag_list_header (one (codes "\"a,b\"")) ≡ Some (TheseTags [])
comma_in_a_tag = refl

no_tags_text : tag_list_text (TheseTags []) ≡ []
no_tags_text = refl

weak_tags : strong_eq (codes "W/\"12345\"") (codes "W/\"12345\"") ≡ false
weak_tags = refl

strong_tags : strong_eq (codes "\"12346\"") (codes "\"12346\"") ≡ true
strong_tags = refl

one_quote : is_tag (codes "\"") ≡ false
one_quote = refl

two_quotes : is_tag (codes "\"\"") ≡ true
two_quotes = refl

weak_alone : is_tag (codes "W/") ≡ false
weak_alone = refl

weak_and_a_quote : is_tag (codes "W/\"") ≡ false
weak_and_a_quote = refl

weak_in_lower_case : is_tag (codes "w/\"a\"") ≡ false
weak_in_lower_case = refl

new_weak_tag : new_tag true (codes "a") ≡ Some (codes "W/\"a\"")
new_weak_tag = refl

no_text_is_no_tag : tag_header (one (34 ∷ 195 ∷ 169 ∷ 34 ∷ [])) ≡ None
no_text_is_no_tag = refl

three_languages : language_header (plain_value (codes "en, de-DE") ∷ one (codes "fr")) ≡ Some (codes "en" ∷ codes "de-DE" ∷ codes "fr" ∷ [])
three_languages = refl

three_letters : language_header (one (codes "eng")) ≡ None
three_letters = refl

short_region : language_header (one (codes "en-G")) ≡ None
short_region = refl

empty_language : language_header (one (codes "en,")) ≡ None
empty_language = refl

rooted : destination_header (one (codes "/a?b")) ≡ Some (codes "/a?b")
rooted = refl

delete_is_not_written : value_of_text (127 ∷ []) ≡ None
delete_is_not_written = refl

accent_is_written : value_of_text (195 ∷ 169 ∷ []) ≡ Some (plain_value (195 ∷ 169 ∷ []))
accent_is_written = refl
