-- The address of a request's client: the one that a proxy in front tells by a field, or else that of the connection (own).
use Rattle.std.specs.Prelude.{ℕ, ◌-◌, Bool, not, ◌==◌, ◌||◌, nat_le, List, [], take, drop, length, Option, None, Some, if◌then◌else◌}
use Rattle.std.specs.List.{last_or, prefix_len, suffix_len}
use Rattle.http_header.specs.FieldValue.{FieldValue}
use Rattle.http_header.specs.HeaderMap.{Entries, get_all}
use Rattle.http.specs.declared.request.Request.{Request}
use Rattle.http.specs.Request.{head_of}
use Rattle.http_frames.specs.Frames.{is_address}
use Rattle.dav_login_core.specs.declared.addresses.Addresses.{Addresses}

-- ---- what the field tells

abbrev pub is_other_than_comma : ℕ → Bool
is_other_than_comma b = not (b == 44)

-- what stands behind the last comma; all of it where there is none
abbrev pub behind_last_comma : List ℕ → List ℕ
behind_last_comma text = drop (length text - suffix_len is_other_than_comma text) text

-- a space or a tab
abbrev pub is_blank : ℕ → Bool
is_blank b = b == 32 || b == 9

-- the text without the blanks at its ends
abbrev pub without_blanks : List ℕ → List ℕ
without_blanks text =
    let tail = drop (prefix_len is_blank text) text in
    take (length tail - suffix_len is_blank tail) tail

-- what a value tells
abbrev pub told_by_value : FieldValue → List ℕ
told_by_value value = without_blanks (behind_last_comma value.bytes)

abbrev pub told_by_last : Option FieldValue → List ℕ
told_by_last None = []
told_by_last (Some value) = told_by_value value

-- What the last value of the chosen field tells, which is what the nearest proxy added. It is nothing where no field is chosen, or the request has none of its name.
abbrev pub told_in : Option (List ℕ) → Entries FieldValue → List ℕ
told_in None headers = []
told_in (Some name) headers = told_by_last (last_or None (get_all headers name))

-- ---- the address

-- The address of a request: that which the chosen field tells, where it can be one, and else the connection's.
abbrev pub address_of : Option (List ℕ) → Entries FieldValue → List ℕ → List ℕ
address_of field headers connection = if is_address (told_in field headers) then told_in field headers else connection

-- the address of a request, by what the code has
abbrev pub address_of_request : Addresses → Request (List ℕ) → List ℕ
address_of_request addresses request = address_of addresses.field (head_of request).headers addresses.connection.items

-- what is kept of a connection's address: none where it is longer than 64 bytes
abbrev pub kept_address : List ℕ → List ℕ
kept_address address = if nat_le (length address) 64 then address else []
