-- Sets of methods, as their bits, and the words that stand for them (own).
use Rattle.std.specs.Prelude.{ℕ, Bool, ◌==◌, not, if◌then◌else◌, List, [], ◌∷◌, map, Option, Some, None, codes, bit_and, bit_or}
use Rattle.std.specs.Char.{to_ascii_lowercase}
use Rattle.std.specs.Int.{bit_not, w32}
use Rattle.std.specs.List.{fold}
use Rattle.std.specs.Option.{option_map}
use Rattle.std.specs.Str.{bytes_eq}
use Rattle.dav_path_core.specs.declared.util.DavMethod.{DavMethod}
use Rattle.dav_path_core.specs.declared.util.DavMethodSet.{DavMethodSet}
use Rattle.dav_path_core.specs.Methods.{bit}

-- what a contract sees of a set
abbrev pub bits : DavMethodSet → ℕ
bits set = set.0

abbrev pub with_method : ℕ → DavMethod → ℕ
with_method set method = bit_or set (bit method)

abbrev pub without_method : ℕ → DavMethod → ℕ
without_method set method = bit_and set (bit_not w32 (bit method))

abbrev pub has_method : ℕ → DavMethod → Bool
has_method set method = not (bit_and set (bit method) == 0)

-- each word with its bits
unfoldable pub method_words : List (List ℕ × ℕ)
method_words =
    (codes "head", 0x1) ∷ (codes "get", 0x2) ∷ (codes "put", 0x4) ∷ (codes "patch", 0x8)
    ∷ (codes "options", 0x10) ∷ (codes "propfind", 0x20) ∷ (codes "proppatch", 0x40) ∷ (codes "mkcol", 0x80)
    ∷ (codes "copy", 0x100) ∷ (codes "move", 0x200) ∷ (codes "delete", 0x400) ∷ (codes "lock", 0x800)
    ∷ (codes "unlock", 0x1000) ∷ (codes "report", 0x2000) ∷ (codes "mkcalendar", 0x4000) ∷ (codes "mkaddressbook", 0x8000)
    ∷ (codes "http-ro", 0x13) ∷ (codes "http-rw", 0x17) ∷ (codes "webdav-ro", 0x33) ∷ (codes "webdav-rw", 0xffffffff)
    ∷ []

-- the same texts, the case of ASCII letters ignored
abbrev pub is_same_word : List ℕ → List ℕ → Bool
is_same_word a b = bytes_eq (map to_ascii_lowercase a) (map to_ascii_lowercase b)

-- the bits beside a word in a list
abbrev pub bits_in : List (List ℕ × ℕ) → List ℕ → Option ℕ
bits_in [] word = None
bits_in (entry ∷ entries) word = if is_same_word word entry.0 then Some entry.1 else bits_in entries word

-- the bits so far with those of one word more; none where it is no word
abbrev pub with_word : Option ℕ → List ℕ → Option ℕ
with_word None word = None
with_word (Some so_far) word = option_map (λ more. bit_or so_far more) (bits_in method_words word)

-- the bits of the words together; none where one of them is no word
abbrev pub bits_of_words : List (List ℕ) → Option ℕ
bits_of_words = fold with_word (Some 0)
