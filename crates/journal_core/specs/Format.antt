-- What the file of a journal holds, byte by byte, and what it stands for (own).
use Rattle.std.specs.Prelude.{◌≡◌, ◌≢◌, ◌⊎◌, ℕ, ◌+◌, ◌<◌, ◌≤◌, ◌^◌, List, [], ◌∷◌, ◌++◌, length, slice_index}
use Rattle.std.specs.List.{flat_map, AllByRecursion}
use Rattle.std.specs.Int.{w64, to_le_bytes}
use Rattle.std.specs.Hash.DefaultHasher as sip
use Rattle.std.specs.declared.hash.DefaultHasher.{DefaultHasher}
use Rattle.journal_core.specs.declared.header.Header.{Header}

-- a number in eight bytes, the lowest first
unfoldable pub word_of : ℕ → List ℕ
word_of n = to_le_bytes w64 n

-- "shutgate": the word at a gate that is shut
abbrev pub shut_word : List ℕ
shut_word = 115 ∷ 104 ∷ 117 ∷ 116 ∷ 103 ∷ 97 ∷ 116 ∷ 101 ∷ []

-- "opengate": the word that opens a gate
abbrev pub open_word : List ℕ
open_word = 111 ∷ 112 ∷ 101 ∷ 110 ∷ 103 ∷ 97 ∷ 116 ∷ 101 ∷ []

-- SipHash-1-3 once the key, the place in the file and the length were written
unfoldable pub begun_sum : ℕ → ℕ → ℕ → DefaultHasher
begun_sum key place len = sip.write (sip.write (sip.write sip.initial (word_of key)) (word_of place)) (word_of len)

-- SipHash-1-3 of the key, of the place in the file, of the length, and of the bytes
unfoldable pub sum_of : ℕ → ℕ → List ℕ → ℕ
sum_of key place bytes = sip.finish (sip.write (begun_sum key place (length bytes)) bytes)

-- ---- the header

-- "urnal01": behind the first byte, which is any but zero
abbrev pub magic : List ℕ
magic = 117 ∷ 114 ∷ 110 ∷ 97 ∷ 108 ∷ 48 ∷ 49 ∷ []

-- the version, which is 1, in four bytes, and the flags, of which none is known, in four
abbrev pub version_word : List ℕ
version_word = 1 ∷ 0 ∷ 0 ∷ 0 ∷ 0 ∷ 0 ∷ 0 ∷ 0 ∷ []

-- all that the header's own sum is of: what stands behind the first byte and before the sum
unfoldable pub header_front : Header → List ℕ
header_front h = magic ++ (version_word ++ (word_of h.generation ++ (word_of h.key ++ (word_of h.began ++ word_of 56))))

-- the header behind its first byte
unfoldable pub header_text : Header → List ℕ
header_text h = header_front h ++ word_of (sum_of 0 0 (header_front h))

-- its numbers are of 64 bits
pub record IsOf64Bits (h : Header) : Type 0 where
  pub generation : h.generation < 2 ^ 64
  pub key : h.key < 2 ^ 64
  pub began : h.began < 2 ^ 64

-- ---- rounds

-- a record in a round: its length, and its bytes
abbrev pub record_text : List ℕ → List ℕ
record_text bytes = word_of (length bytes) ++ bytes

abbrev pub records_text : List (List ℕ) → List ℕ
records_text records = flat_map record_text records

-- a round behind its gate, where its bytes are these: their length, their sum, and the bytes
abbrev pub round_text : ℕ → ℕ → List ℕ → List ℕ
round_text key place bytes = word_of (length bytes) ++ (word_of (sum_of key place bytes) ++ bytes)

-- a round in the file: the word at its gate, and its records
abbrev pub Laid : Type 0
Laid = List ℕ × List (List ℕ)

-- the word at its gate is any but the one that shuts, and it has a record at least
pub record IsOpen (r : Laid) : Type 0 where
  pub word : length r.0 ≡ 8
  pub other : r.0 ≢ shut_word
  pub some : 0 < length (records_text r.1)
  pub short : length (records_text r.1) < 2 ^ 64

-- how many bytes it takes, with its gate
abbrev pub size_of : Laid → ℕ
size_of r = 24 + length (records_text r.1)

-- rounds one behind another, of which the first has its gate at this place
unfoldable pub rounds_text : ℕ → ℕ → List Laid → List ℕ
rounds_text key place [] = []
rounds_text key place (r ∷ rounds) = r.0 ++ (round_text key place (records_text r.1) ++ rounds_text key (place + size_of r) rounds)

abbrev pub records_in : List Laid → List (List ℕ)
records_in rounds = flat_map (λ r. r.1) rounds

-- ---- the file

-- the file of a journal up to the gate behind these rounds
abbrev pub journal_front : ℕ → Header → List Laid → List ℕ
journal_front first h rounds = (first ∷ header_text h) ++ rounds_text h.key 56 rounds

-- a header, these rounds, a gate that is shut, and whatever stands behind it
pub record Lies (h : Header) (file : List ℕ) (rounds : List Laid) : Type 0 where
  pub first : ℕ
  pub behind : List ℕ
  pub made : first ≢ 0
  pub fits : IsOf64Bits h
  pub split : file ≡ journal_front first h rounds ++ (shut_word ++ behind)
  pub gates : AllByRecursion IsOpen rounds

-- A file that is still being made: it has one byte at most, or begins with a zero byte and is no longer than a header and its gate.
abbrev pub IsNewFile : List ℕ → Type 0
IsNewFile file = (length file ≤ 1) ⊎ ((slice_index file 0 ≡ 0) × (length file ≤ 64))

-- The file stands for these records, and no others: it is still being made, and there is none; or it has this header, and these are the records of its rounds.
abbrev pub StandsFor : Header → List ℕ → List (List ℕ) → Type 0
StandsFor h file records = (IsNewFile file × (records ≡ [])) ⊎ ((rounds : List Laid) × Lies h file rounds × (records_in rounds ≡ records))
