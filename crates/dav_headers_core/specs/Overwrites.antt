-- `Overwrite` (RFC 4918 section 10.6).
use Rattle.std.specs.Prelude.{ℕ, true, false, bytes_eq, if◌then◌else◌, List, codes, Option, None, Some}
use Rattle.http_header.specs.FieldValue.{FieldValue}
use Rattle.dav_headers_core.specs.Optional.{◌>>=◌}
use Rattle.dav_headers_core.specs.Values.{one_value}
use Rattle.dav_headers_core.specs.declared.davheaders.overwrites.Overwrite.{Overwrite}

abbrev pub overwrite_of : List ℕ → Option Overwrite
overwrite_of bytes =
    if bytes_eq bytes (codes "T") then Some (record { 0 = true }) else (
    if bytes_eq bytes (codes "F") then Some (record { 0 = false }) else None)

-- whether the one value says `T` or `F`
abbrev pub overwrite_header : List FieldValue → Option Overwrite
overwrite_header values = one_value values >>= overwrite_of

abbrev pub overwrite_text : Overwrite → List ℕ
overwrite_text overwrite = if overwrite.0 then codes "T" else codes "F"
