-- Worked rows of fields whose words may have any case of letters, and of `If`, computed.
use Rattle.std.proofs.Common.{◌≡◌, refl, ℕ, true, false, List, [], ◌∷◌, ◌++◌, None, Some}
use Rattle.std.specs.Prelude.{codes}
use Rattle.http_header.specs.FieldValue.{plain_value}
use Rattle.dav_headers_core.specs.Numbers.{number}
use Rattle.dav_headers_core.specs.UpdateRanges.{range_between}
use Rattle.dav_headers_core.specs.declared.davheaders.depths.Depth.TheVariants.{One, Infinity}
use Rattle.dav_headers_core.specs.declared.davheaders.timeouts.DavTimeout.TheVariants.{Seconds, Infinite}
use Rattle.dav_headers_core.specs.declared.davheaders.update_ranges.XUpdateRange.TheVariants.{FromTo, AllFrom}
use Rattle.dav_fields_core.specs.declared.tag_fronts.Place.TheVariants.{Outside}
use Rattle.dav_fields_core.specs.LockTimeouts.{timeouts_by}
use Rattle.dav_fields_core.specs.Private.TagFronts.{with_fronts}
use Rattle.dav_fields_core.specs.Ranges.{range_spelled}
use Rattle.dav_fields_core.specs.Reaches.{depth_by}
use Rattle.dav_fields_core.specs.TransferDestinations.{overwrites_by}

-- ---- `Overwrite`

small_t : overwrites_by (plain_value (codes "t") ∷ []) ≡ Some true
small_t = refl

small_f : overwrites_by (plain_value (codes "f") ∷ []) ≡ Some false
small_f = refl

two_letters : overwrites_by (plain_value (codes "TT") ∷ []) ≡ None
two_letters = refl

-- ---- `Depth`

great_infinity : depth_by (plain_value (codes "INFINITY") ∷ []) ≡ Some Infinity
great_infinity = refl

one_member : depth_by (plain_value (codes "1") ∷ []) ≡ Some One
one_member = refl

blank_behind : depth_by (plain_value (codes "infinity ") ∷ []) ≡ None
blank_behind = refl

-- ---- `Range`

great_unit : range_spelled (codes "Bytes=0-4") ≡ Some (FromTo 0 4)
unfolding number range_between
great_unit = refl

small_unit : range_spelled (codes "bytes=7-") ≡ Some (AllFrom 7)
unfolding number range_between
small_unit = refl

another_unit : range_spelled (codes "byte=0-4") ≡ None
another_unit = refl

two_marks : range_spelled (codes "bytes==0-4") ≡ None
unfolding number range_between
two_marks = refl

-- ---- `Timeout`

each_case : timeouts_by (plain_value (codes "second-100, INFINITE") ∷ [])
    ≡ Some (Seconds 100 ∷ Infinite ∷ [])
unfolding number
each_case = refl

extension_first : timeouts_by (plain_value (codes "Extend,,Second-4294967296, Second-7") ∷ [])
    ≡ Some (Seconds 7 ∷ [])
unfolding number
extension_first = refl

extension_alone : timeouts_by (plain_value (codes "Extend") ∷ []) ≡ None
extension_alone = refl

blank_within : timeouts_by (plain_value (codes "Second- 7") ∷ []) ≡ None
unfolding number
blank_within = refl

two_fields : timeouts_by (plain_value (codes "Infinite") ∷ plain_value (codes "Infinite") ∷ [])
    ≡ None
two_fields = refl

-- ---- `If`, with `http://h` before tags that begin with a slash

abbrev put : List ℕ → List ℕ
put value = with_fronts (codes "http://h") Outside value

path_alone : put (codes "</docs/x> (<opaquelocktoken:a>)")
    ≡ codes "<http://h/docs/x> (<opaquelocktoken:a>)"
path_alone = refl

each_path : put (codes "(<a:b>) </x>(Not <c:d>) </y>  (e:f)")
    ≡ codes "(<a:b>) <http://h/x>(Not <c:d>) <http://h/y>  (e:f)"
each_path = refl

token_stays : put (codes "(</a:b> <c:d>)") ≡ codes "(</a:b> <c:d>)"
token_stays = refl

url_stays : put (codes "<http://g/x> (<a:b>)") ≡ codes "<http://g/x> (<a:b>)"
url_stays = refl

-- a quoted tag with brackets in it
abbrev quoted : List ℕ
quoted = codes "([" ++ (34 ∷ codes "](</x>") ++ (34 ∷ codes "])")

quoted_stays : put quoted ≡ quoted
quoted_stays = refl
