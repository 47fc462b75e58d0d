-- By what the guesses of a client count (own): an address of IPv4 by itself, one of IPv6 by its first 64 bits, and all that is no address together. Texts of addresses: RFC 4291 section 2.2.
use Rattle.std.specs.Prelude.{ℕ, ◌+◌, Bool, not, ◌==◌, ◌||◌, ◌&&◌, nat_lt, bytes_eq, List, [], ◌∷◌, ◌++◌, take, drop, length, slice_index, Option, None, Some, if◌then◌else◌}
use Rattle.std.specs.Int.{w64, from_le_bytes}
use Rattle.std.specs.List.{list_any, prefix_len}
use Rattle.sha2.specs.Sha256.{sha256}
use Rattle.std.specs.Net.Addr.{octets_of}
use Rattle.std.specs.Net.Reader.{read_ipv4, read_ipv6, whole_value}
use Rattle.dav_login_core.specs.declared.networks.Network.{Network}
use Rattle.dav_login_core.specs.declared.networks.Network.TheVariants.{V4, V6, Unknown}

-- ---- the address without its port

abbrev pub is_colon_byte : ℕ → Bool
is_colon_byte b = b == 58

abbrev pub is_bracketed : List ℕ → Bool
is_bracketed text = nat_lt 0 (length text) && (slice_index text 0 == 91)

-- how much stands before the first byte of this kind
abbrev pub length_before : ℕ → List ℕ → ℕ
length_before byte text = prefix_len (λ b. not (b == byte)) text

-- without what stands behind a colon, where it is the only one
abbrev pub without_last_part : List ℕ → List ℕ
without_last_part text =
    let len = length_before 58 text in
    if (len == length text) || list_any is_colon_byte (drop (len + 1) text) then text else take len text

-- The address of `[ADDRESS]` and of `[ADDRESS]:PORT`, and of `ADDRESS:PORT` where it has no colon itself.
abbrev pub without_port : List ℕ → List ℕ
without_port text = if is_bracketed text then take (length_before 93 (drop 1 text)) (drop 1 text) else without_last_part text

-- ---- the network

-- they are those of `::ffff:a.b.c.d`
abbrev pub is_mapped : List ℕ → Bool
is_mapped segments = bytes_eq (take 6 segments) (0 ∷ 0 ∷ 0 ∷ 0 ∷ 0 ∷ 0xffff ∷ [])

-- of an address of IPv6 with these segments
abbrev pub network_of_segments : List ℕ → Network
network_of_segments segments = if is_mapped segments then V4 (octets_of (drop 6 segments)) else V6 (take 8 (octets_of segments))

abbrev pub network_of_ipv6 : Option (List ℕ) → Network
network_of_ipv6 None = Unknown
network_of_ipv6 (Some segments) = network_of_segments segments

abbrev pub network_of_ipv4_or : Option (List ℕ) → Network → Network
network_of_ipv4_or None other = other
network_of_ipv4_or (Some octets) other = V4 octets

-- of the address that the whole text writes
abbrev pub network_in : List ℕ → Network
network_in text = network_of_ipv4_or (whole_value (read_ipv4 text)) (network_of_ipv6 (whole_value (read_ipv6 text)))

-- of an address that may have a port behind it
unfoldable pub network_of : List ℕ → Network
network_of address = network_in (without_port address)

-- its bytes: four of IPv4, eight of IPv6, or none
abbrev pub network_bytes : Network → List ℕ
network_bytes (V4 octets) = octets
network_bytes (V6 octets) = octets
network_bytes Unknown = []

-- The label of a network under a key: the first 8 bytes of the SHA-256 of both, the lowest first.
abbrev pub label_of : List ℕ → Network → ℕ
label_of key network = from_le_bytes w64 (take 8 (sha256 (key ++ network_bytes network)))
