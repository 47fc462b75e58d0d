-- The digests of names and passwords that were accepted or refused (own).
use Rattle.std.specs.Prelude.{◌≡◌, ◌⊎◌, ◌&&◌, ℕ, Bool, true, false, not, List, [], ◌∷◌, ◌++◌, length, take, drop, remove, nat_eq, nat_le, if◌then◌else◌, MatchBool}
use Rattle.std.specs.Cmp.Lexicographic.{pointwise}
use Rattle.std.specs.Int.{w64, to_le_bytes}
use Rattle.std.specs.List.{list_any, prefix_len}
use Rattle.sha2.specs.Sha256.{sha256}
use Rattle.dav_users_core.specs.Users.{UserLine, is_password}
use Rattle.dav_login_core.specs.declared.known.Known.{Known}

-- how many bytes there are, in 8 bytes, the lowest first, and the bytes
abbrev pub with_length : List ℕ → List ℕ
with_length bytes = to_le_bytes w64 (length bytes) ++ bytes

-- what is digested: a key, and behind it a name and a password, each behind its length
abbrev pub message : List ℕ → List ℕ → List ℕ → List ℕ
message key name password = key ++ (with_length name ++ with_length password)

unfoldable pub digest : List ℕ → List ℕ → List ℕ → List ℕ
digest key name password = sha256 (message key name password)

-- it is the digest of this user's name and password
abbrev pub WasAcceptedOf : List UserLine → List ℕ → List ℕ → List ℕ → Type 0
WasAcceptedOf users key name kept = ∥ ((password : List ℕ) × (is_password users name password ≡ true) × (digest key name password ≡ kept)) ∥₁

-- it is the digest of a user's name and password
abbrev pub WasAccepted : List UserLine → List ℕ → List ℕ → Type 0
WasAccepted users key kept =
    ∥ ((name : List ℕ) × (password : List ℕ) × (is_password users name password ≡ true) × (digest key name password ≡ kept)) ∥₁

-- they are a user's name and password, or their digest is that of a user's
abbrev pub IsAccepted : List UserLine → List ℕ → List ℕ → List ℕ → Type 0
IsAccepted users key name password =
    (is_password users name password ≡ true) ⊎ WasAccepted users key (digest key name password)

-- it is the digest of a name and a password that are no user's
abbrev pub WasRefused : List UserLine → List ℕ → List ℕ → Type 0
WasRefused users key kept =
    ∥ ((name : List ℕ) × (password : List ℕ) × (is_password users name password ≡ false) × (digest key name password ≡ kept)) ∥₁

-- they are no user's name and password, or their digest is that of a name and a password that are no user's
abbrev pub IsTurnedDown : List UserLine → List ℕ → List ℕ → List ℕ → Type 0
IsTurnedDown users key name password =
    (is_password users name password ≡ false) ⊎ WasRefused users key (digest key name password)

-- it is one of the digests that are kept of what was accepted
abbrev pub is_known : List Known → List ℕ → Bool
is_known known kept = list_any (λ k. pointwise nat_eq k.digest kept) known

-- those of the first for which it holds, in order
abbrev pub Retains : {X : Type 0} → (X → Type 0) → List X → List X → Type 0
Retains P [] new = new ≡ []
Retains {X} P (x ∷ xs) new = (P x × ((rest : List X) × (new ≡ x ∷ rest) × Retains P xs rest)) ⊎ ((¬ (P x)) × Retains P xs new)

-- how many stand before the first of this digest
abbrev pub known_place : List Known → List ℕ → ℕ
known_place known kept = prefix_len (λ k. not (pointwise nat_eq k.digest kept)) known

-- the first of this digest is taken out where it stands, and put at the end
abbrev pub moved_to_end : List ℕ → List Known → List Known
moved_to_end kept known = remove known (known_place known kept) ++ take 1 (drop (known_place known kept) known)

-- of 1,024 the first is forgotten
abbrev pub room_for_one : {X : Type 0} → List X → List X
room_for_one xs = if nat_le 1024 (length xs) then drop 1 xs else xs

-- one more is known, of this digest, behind those for which there is room; or there was no memory for it
abbrev pub Learns : List ℕ → List Known → List Known → Type 0
Learns kept old new = (new ≡ room_for_one old) ⊎ ((k : Known) × (k.digest ≡ kept) × (new ≡ room_for_one old ++ k ∷ []))

-- A name and a password with this digest were let in: they go to the end, where they were known, and are learned else.
abbrev pub Remembers : List ℕ → List Known → List Known → Type 0
Remembers kept old new = MatchBool (is_known old kept) (new ≡ moved_to_end kept old) (Learns kept old new)

-- ---- what was refused: the label of whom, and the digest of what

abbrev pub is_refused : List (ℕ × List ℕ) → ℕ → List ℕ → Bool
is_refused refused label kept = list_any (λ r. nat_eq r.0 label && pointwise nat_eq r.1 kept) refused

-- one more is known, behind those for which there is room; or there was no memory for it
abbrev pub NotesRefused : ℕ → List ℕ → List (ℕ × List ℕ) → List (ℕ × List ℕ) → Type 0
NotesRefused label kept old new = (new ≡ room_for_one old) ⊎ (new ≡ room_for_one old ++ (label, kept) ∷ [])
