-- How far down a request reaches: all the way where it has no `Depth` (RFC 4918 sections 9.6.1, 9.8.3, 9.9.2 and 10.2).
use Rattle.std.specs.Prelude.{◌≡◌, ℕ, Bool, true, false, if◌then◌else◌, List, [], Option, None, Some, codes}
use Rattle.std.specs.Str.{str_eq_ignore_ascii_case}
use Rattle.http_header.specs.FieldValue.{FieldValue}
use Rattle.http_header.specs.HeaderMap.{Entries, get_all}
use Rattle.dav_headers_core.specs.Depths.{depth_of}
use Rattle.dav_headers_core.specs.Optional.{◌>>=◌}
use Rattle.dav_headers_core.specs.Values.{one_value}
use Rattle.dav_headers_core.specs.declared.davheaders.depths.Depth.{Depth}
use Rattle.dav_headers_core.specs.declared.davheaders.depths.Depth.TheVariants.{Infinity, Zero}

-- `infinity` in any case of letters, `0` or `1` (RFC 5234 section 2.3)
abbrev pub depth_spelled : List ℕ → Option Depth
depth_spelled text =
    if str_eq_ignore_ascii_case text (codes "infinity") then Some Infinity else depth_of text

-- by the values of `Depth`; none where they can't be read, as several can't
abbrev pub depth_by : List FieldValue → Option Depth
depth_by [] = Some Infinity
depth_by values = one_value values >>= depth_spelled

abbrev pub depth_in : Entries FieldValue → Option Depth
depth_in headers = depth_by (get_all headers (codes "depth"))

-- it reaches all the way down
abbrev pub ReachesAll : Entries FieldValue → Type 0
ReachesAll headers = depth_in headers ≡ Some Infinity

-- of a COPY or a LOCK: whether it reaches all the way down, or to the one resource alone; none where its depth is another, or can't be read
abbrev pub reach_by : Option Depth → Option Bool
reach_by (Some Infinity) = Some true
reach_by (Some Zero) = Some false
reach_by _ = None

abbrev pub reach_in : Entries FieldValue → Option Bool
reach_in headers = reach_by (depth_in headers)
