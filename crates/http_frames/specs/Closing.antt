-- The field that closes a connection behind the refusal of a long request (own).
use Rattle.std.specs.Prelude.{ℕ, List, [], ◌∷◌, length, codes, nat_lt, if◌then◌else◌}
use Rattle.http.specs.declared.request.Request.{Request}
use Rattle.http.specs.Request.{body_of}
use Rattle.http1.specs.Fields.{Header}

-- it is there where the body of the request has more than 512 KiB
abbrev pub close_field : Request (List ℕ) → List Header
close_field request = if nat_lt 524_288 (length (body_of request)) then (codes "connection", codes "close") ∷ [] else []
