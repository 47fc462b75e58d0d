-- `Depth` (RFC 4918 section 10.2).
use Rattle.std.specs.Prelude.{ℕ, ◌||◌, bytes_eq, if◌then◌else◌, List, [], codes, Option, None, Some}
use Rattle.http_header.specs.FieldValue.{FieldValue}
use Rattle.dav_headers_core.specs.Optional.{◌>>=◌}
use Rattle.dav_headers_core.specs.Values.{one_value}
use Rattle.dav_headers_core.specs.declared.davheaders.depths.Depth.{Depth}
use Rattle.dav_headers_core.specs.declared.davheaders.depths.Depth.TheVariants.{Default, Zero, One, Infinity}

abbrev pub depth_of : List ℕ → Option Depth
depth_of bytes =
    if bytes_eq bytes (codes "infinity") || bytes_eq bytes (codes "Infinity") then Some Infinity else (
    if bytes_eq bytes (codes "0") then Some Zero else (
    if bytes_eq bytes (codes "1") then Some One else None))

-- the depth of the one value
abbrev pub depth_header : List FieldValue → Option Depth
depth_header values = one_value values >>= depth_of

abbrev pub depth_text : Depth → List ℕ
depth_text Default = []
depth_text Zero = codes "0"
depth_text One = codes "1"
depth_text Infinity = codes "Infinity"
