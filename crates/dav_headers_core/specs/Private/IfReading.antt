-- Reading an `If` value from left to right, on lists. Contracts of public calls name the grammar of `IfGrammar`; by this reader
-- the code is proved against it.
use Rattle.std.specs.Prelude.{ℕ, zero, suc, ◌==◌, ◌&&◌, Bool, true, false, not, if◌then◌else◌, List, [], ◌∷◌, take, drop, length, Option, None, Some, is_none}
use Rattle.std.specs.List.{list_any}
use Rattle.std.specs.Str.{is_utf8}
use Rattle.dav_headers_core.specs.Optional.{◌>>=◌, when}
use Rattle.dav_headers_core.specs.Tags.{quote, tag_in}
use Rattle.dav_headers_core.specs.IfBytes.{colon, is_word_byte, ends_word, Item, Token, Tag, Condition, Tagged, Group}
use Rattle.dav_headers_core.specs.CommaPieces.{is_blank}
use Rattle.dav_headers_core.specs.IfValues.{Located}
use Rattle.dav_headers_core.specs.Urls.{url_of}

-- what a reader found, and what it left
abbrev pub Found : Type 0 → Type 0
Found A = Option (A × List ℕ)

abbrev pub is_empty : {A : Type 0} → List A → Bool
is_empty [] = true
is_empty (x ∷ xs) = false

abbrev pub skip_blanks : List ℕ → List ℕ
skip_blanks [] = []
skip_blanks (b ∷ bytes) = if is_blank b then skip_blanks bytes else b ∷ bytes

abbrev pub with_byte : ℕ → Found (List ℕ) → Found (List ℕ)
with_byte b (Some found) = Some (b ∷ found.0, found.1)
with_byte b None = None

-- the text up to the first closing byte that is not quoted
abbrev pub enclosed_at : ℕ → Bool → List ℕ → Found (List ℕ)
enclosed_at closing quoted [] = None
enclosed_at closing quoted (b ∷ bytes) =
    if not quoted && b == closing then Some ([], bytes)
    else (if is_blank b then None
    else with_byte b (enclosed_at closing (if b == quote then not quoted else quoted) bytes))

-- an enclosed text that is UTF-8
abbrev pub text_at : ℕ → List ℕ → Found (List ℕ)
text_at closing bytes = enclosed_at closing false bytes >>= λ text. when (is_utf8 text.0) text

-- what stands after `Not`
abbrev pub after_not : List ℕ → Option (List ℕ)
after_not (a ∷ b ∷ c ∷ rest) = when (a == 78 && b == 111 && c == 116) rest
after_not _ = None

abbrev pub holds_colon : List ℕ → Bool
holds_colon text = list_any (λ b. b == colon) text

-- the length of the longest front of word bytes
abbrev pub word_len : List ℕ → ℕ
word_len [] = 0
word_len (b ∷ bytes) = if is_word_byte b then suc (word_len bytes) else 0

abbrev pub begins_ending : List ℕ → Bool
begins_ending [] = false
begins_ending (b ∷ bytes) = ends_word b

abbrev pub is_word : List ℕ → List ℕ → Bool
is_word text rest = is_utf8 text && holds_colon text && is_none (after_not text) && begins_ending rest

abbrev pub word_at : List ℕ → Found (List ℕ)
word_at bytes =
    let len = word_len bytes in
    when (is_word (take len bytes) (drop len bytes)) (take len bytes, drop len bytes)

-- behind `<`
unfoldable pub pointed_at : List ℕ → Found Item
pointed_at bytes = text_at 62 bytes >>= λ text. when (holds_colon text.0) (Token text.0, text.1)

-- behind `[`
unfoldable pub bracketed_at : List ℕ → Found Item
bracketed_at bytes = text_at 93 bytes >>= λ text. tag_in text.0 >>= λ tag. Some (Tag tag, text.1)

unfoldable pub worded_at : List ℕ → Found Item
worded_at bytes = word_at bytes >>= λ word. Some (Token word.0, word.1)

abbrev pub item_at : List ℕ → Found Item
item_at [] = None
item_at (b ∷ bytes) =
    if b == 60 then pointed_at bytes else (if b == 91 then bracketed_at bytes else worded_at (b ∷ bytes))

abbrev pub condition_as : Bool → List ℕ → Found Condition
condition_as negated bytes = item_at bytes >>= λ item. Some (record { negated = negated; item = item.0 }, item.1)

-- by the value in an option, or without
abbrev pub choose : {A B : Type 0} → Option A → (A → B) → B → B
choose (Some x) f otherwise = f x
choose None f otherwise = otherwise

abbrev pub condition_at : List ℕ → Found Condition
condition_at bytes =
    choose (after_not bytes) (λ after. condition_as true (skip_blanks after)) (condition_as false bytes)

-- what stands after a byte
abbrev pub after_byte : ℕ → List ℕ → Option (List ℕ)
after_byte byte [] = None
after_byte byte (b ∷ bytes) = when (b == byte) bytes

-- at most so many conditions, and `)`
abbrev pub conditions_at : ℕ → List ℕ → Found (List Condition)
conditions_at zero bytes = None
conditions_at (suc n) bytes =
    choose (after_byte 41 (skip_blanks bytes)) (λ rest. Some ([], rest)) (
    condition_at (skip_blanks bytes) >>= λ first.
    conditions_at n first.1 >>= λ others. Some (first.0 ∷ others.0, others.1))

abbrev pub list_at : List ℕ → Found (List Condition)
list_at bytes =
    after_byte 40 bytes >>= λ inner.
    conditions_at (length inner) inner >>= λ found. when (not (is_empty found.0)) found

-- the list that follows a tag
abbrev pub behind_tag : {T : Type 0} → Option T → List ℕ → Found (Tagged T)
behind_tag tag bytes =
    list_at (skip_blanks bytes) >>= λ found. Some (record { tag = tag; conditions = found.0 }, found.1)

-- a list with its tag, where it has one; `read` reads the tag's text
unfoldable pub group_at : {T : Type 0} → (List ℕ → Option T) → List ℕ → Found (Tagged T)
group_at read bytes =
    choose (after_byte 60 bytes)
    (λ after. text_at 62 after >>= λ text. read text.0 >>= λ tag. behind_tag (Some tag) text.1)
    (behind_tag None bytes)

-- at most so many lists, and nothing else
abbrev pub groups_at : {T : Type 0} → (List ℕ → Option T) → ℕ → List ℕ → Option (List (Tagged T))
groups_at read zero bytes = None
groups_at read (suc n) bytes =
    if is_empty (skip_blanks bytes) then Some [] else (
    group_at read (skip_blanks bytes) >>= λ first.
    groups_at read n first.1 >>= λ others. Some (first.0 ∷ others))

-- the one reading of the bytes
abbrev pub reading : {T : Type 0} → (List ℕ → Option T) → List ℕ → Option (List (Tagged T))
reading read bytes =
    groups_at read (suc (length bytes)) bytes >>= λ groups. when (not (is_empty groups)) groups

-- a tag's text as it is
abbrev pub as_it_is : List ℕ → Option (List ℕ)
as_it_is text = Some text

-- with the texts of the tags
abbrev pub if_reading : List ℕ → Option (List Group)
if_reading bytes = reading as_it_is bytes

-- with the URLs that they spell
abbrev pub decoded_lists : List ℕ → Option (List Located)
decoded_lists bytes = reading url_of bytes
