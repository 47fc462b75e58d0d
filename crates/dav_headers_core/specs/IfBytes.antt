-- The bytes of an `If` value (RFC 4918 section 10.4), and what a reading of it is.
use Rattle.std.specs.Prelude.{ℕ, Bool, false, not, ◌&&◌, ◌||◌, ◌==◌, nat_lt, if◌then◌else◌, List, [], ◌∷◌, Option}
use Rattle.dav_headers_core.specs.CommaPieces.{is_blank}
use Rattle.dav_headers_core.specs.Tags.{quote}

-- `b':'`
abbrev pub colon : ℕ
colon = 58

-- one of `(`, `)`, `<`, `>`, `[` and `]`
abbrev pub is_special : ℕ → Bool
is_special b = b == 40 || b == 41 || b == 60 || b == 62 || b == 91 || b == 93

-- a byte that a word may hold
abbrev pub is_word_byte : ℕ → Bool
is_word_byte b = nat_lt 32 b && not (is_special b)

-- a byte that ends a word
abbrev pub ends_word : ℕ → Bool
ends_word b = is_blank b || is_special b

-- whether there is an odd number of quotes
abbrev pub odd_quotes : List ℕ → Bool
odd_quotes [] = false
odd_quotes (b ∷ bytes) = if b == quote then not (odd_quotes bytes) else odd_quotes bytes

-- a state token, or an entity tag by its spelling
pub data Item : Type 0 where
  Token : List ℕ → Item
  Tag : List ℕ → Item

-- an item that is to match, or after `Not` one that is not to
pub record Condition : Type 0 where
  pub negated : Bool
  pub item : Item

-- a list of conditions, and what its resource tag is, where it has one
pub record Tagged (T : Type 0) : Type 0 where
  pub tag : Option T
  pub conditions : List Condition

-- such a list with the text of its tag
abbrev pub Group : Type 0
Group = Tagged (List ℕ)
