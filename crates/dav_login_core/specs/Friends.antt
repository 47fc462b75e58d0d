-- Which bucket pays for a guess (own): that of the name, where it was let in from the network within a day, and else that of the network. Moments are in nanoseconds.
use Rattle.std.specs.Prelude.{◌≡◌, ◌⊎◌, ℕ, ◌+◌, ◌*◌, Bool, not, ◌&&◌, List, [], ◌∷◌, ◌++◌, take, remove, nat_eq, nat_le, if◌then◌else◌}
use Rattle.std.specs.Int.{w64, from_le_bytes}
use Rattle.std.specs.List.{list_any, prefix_len}
use Rattle.dav_login_core.specs.declared.networks.Network.{Network}
use Rattle.dav_login_core.specs.Digests.{digest, room_for_one}
use Rattle.dav_login_core.specs.Guessing.{second}
use Rattle.dav_login_core.specs.Networks.{network_bytes, label_of}

abbrev pub day : ℕ
day = 86400 * second

-- The label of a name from a network under a key: the first 8 bytes of the digest of both, the lowest first.
abbrev pub label_of_name : List ℕ → Network → List ℕ → ℕ
label_of_name key network name = from_le_bytes w64 (take 8 (digest key (network_bytes network) name))

-- a label, and a moment within the last day
abbrev pub is_of_today : ℕ → ℕ → ℕ × ℕ → Bool
is_of_today label now seen = nat_eq seen.0 label && nat_le now (seen.1 + day)

-- of labels that were let in, each with the moment when it was last: this one was within the last day
abbrev pub was_let_in : List (ℕ × ℕ) → ℕ → ℕ → Bool
was_let_in let_in label now = list_any (is_of_today label now) let_in

-- the label whose bucket pays for a guess at a name from a network
abbrev pub payer_of : List ℕ → List (ℕ × ℕ) → Network → List ℕ → ℕ → ℕ
payer_of key let_in network name now =
    if was_let_in let_in (label_of_name key network name) now then label_of_name key network name else label_of key network

-- without the first of this label
abbrev pub without_label : ℕ → List (ℕ × ℕ) → List (ℕ × ℕ)
without_label label let_in = remove let_in (prefix_len (λ seen. not (nat_eq seen.0 label)) let_in)

-- It was let in at this moment: it stands at the end, where there is memory, and of 1,024 others the one unused for longest is forgotten.
abbrev pub LetsIn : ℕ → ℕ → List (ℕ × ℕ) → List (ℕ × ℕ) → Type 0
LetsIn label now old new = (new ≡ room_for_one (without_label label old)) ⊎ (new ≡ room_for_one (without_label label old) ++ (label, now) ∷ [])
