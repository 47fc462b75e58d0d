-- Timeouts are read as they are written.
use Rattle.std.proofs.Common.{◌≡◌, ◌≢◌, refl, ℕ, arith, Bool, true, ◌&&◌, leb, List, [], ◌∷◌, map, Some}
use Rattle.std.specs.Prelude.{decimal, codes}
use Rattle.std.specs.Int.{IsInRange}
use Rattle.std.specs.List.{All, list_all}
use Rattle.std.proofs.lemmas.Bool.Decides.{nat_tests}
use Rattle.std.proofs.lemmas.List.Sums.{AllPass-from_list_all}
use Rattle.std.proofs.lemmas.List.Elements.{All-nil, All-cons, All-head, All-tail, All-append, All-weaker}
use Rattle.http_header.specs.FieldValue.{plain_value}
use Rattle.dav_headers_core.specs.Optional.{every}
use Rattle.dav_headers_core.specs.Values.{is_text_byte, are_texts}
use Rattle.dav_headers_core.specs.CommaPieces.{joined_by_commas}
use Rattle.dav_headers_core.specs.Timeouts.{timeout_of, timeout_header, timeout_text, timeouts_text, IsTimeoutWithin}
use Rattle.dav_headers_core.specs.declared.davheaders.timeouts.DavTimeout.{DavTimeout}
use Rattle.dav_headers_core.specs.declared.davheaders.timeouts.DavTimeout.TheVariants.{Seconds, Infinite}
use Rattle.dav_headers_core.proofs.numbers.NumberLemmas.{decimal_in, number-decimal}
use Rattle.dav_headers_core.proofs.texts.PieceLemmas.{IsPlain, pieces_joined}
use Rattle.dav_headers_core.proofs.texts.TextLemmas.{each_of}
use Rattle.dav_headers_core.proofs.texts.JoinedLemmas.{joined_is_text}

-- a byte above the comma
abbrev is_timeout_byte : ℕ → Bool
is_timeout_byte b = leb 45 b && leb b 122

abbrev IsTimeoutByte : ℕ → Type 0
IsTimeoutByte b = is_timeout_byte b ≡ true

word_is_text : (b : ℕ) → IsTimeoutByte b → is_text_byte b ≡ true
word_is_text b h = grind (arith, nat_tests)

word_is_plain : (b : ℕ) → IsTimeoutByte b → IsPlain b
word_is_plain b h = (grind (arith, nat_tests), grind (arith, nat_tests))

infinite_passes : All IsTimeoutByte (codes "Infinite")
infinite_passes = AllPass-from_list_all is_timeout_byte (codes "Infinite") refl

second_passes : All IsTimeoutByte (codes "Second-")
second_passes = AllPass-from_list_all is_timeout_byte (codes "Second-") refl

digit_is_word : (b : ℕ) → IsInRange 48 57 b → IsTimeoutByte b
digit_is_word b h = grind (arith, nat_tests)

timeout_is_word : (t : DavTimeout) → IsTimeoutWithin t → All IsTimeoutByte (timeout_text t)
timeout_is_word Infinite within = infinite_passes
timeout_is_word (Seconds n) within =
    All-append IsTimeoutByte (codes "Second-") (decimal n) second_passes (All-weaker (IsInRange 48 57) IsTimeoutByte digit_is_word (decimal n) (decimal_in n (omega arith)))

one_read : (t : DavTimeout) → IsTimeoutWithin t → timeout_of (timeout_text t) ≡ Some t
unfolding timeout_of
one_read Infinite within = refl
one_read (Seconds n) within = rw (number-decimal 32 n within (omega arith)) refl

all_read : (ts : List DavTimeout) → All IsTimeoutWithin ts → every timeout_of (map timeout_text ts) ≡ Some ts
all_read [] within = refl
all_read (t ∷ ts) within = rw (one_read t (All-head IsTimeoutWithin t ts within), all_read ts (All-tail IsTimeoutWithin t ts within)) refl

all_words : (ts : List DavTimeout) → All IsTimeoutWithin ts → All (All IsTimeoutByte) (map timeout_text ts)
all_words [] within = All-nil (All IsTimeoutByte)
all_words (t ∷ ts) within =
    All-cons (All IsTimeoutByte) (timeout_text t) (map timeout_text ts) (timeout_is_word t (All-head IsTimeoutWithin t ts within)) (all_words ts (All-tail IsTimeoutWithin t ts within))

words_are_texts : (texts : List (List ℕ)) → All (All IsTimeoutByte) texts → are_texts texts ≡ true
words_are_texts texts words =
    each_of (λ text. list_all is_text_byte text) (All IsTimeoutByte) (λ text word. each_of is_text_byte IsTimeoutByte word_is_text text word) texts words

-- joined, they are a text
joined_words : (texts : List (List ℕ)) → All (All IsTimeoutByte) texts → list_all is_text_byte (joined_by_commas texts) ≡ true
joined_words texts words = joined_is_text texts (words_are_texts texts words)

none_mapped : (ts : List DavTimeout) → ts ≢ [] → map timeout_text ts ≢ []
none_mapped [] some e = some refl
none_mapped (t ∷ ts) some e = absurd cc

pub timeouts_round_trip : (ts : List DavTimeout) → ts ≢ [] → All IsTimeoutWithin ts → timeout_header (plain_value (timeouts_text ts) ∷ []) ≡ Some ts
timeouts_round_trip ts some within =
    let words = all_words ts within in
    let plain = All-weaker (All IsTimeoutByte) (All IsPlain) (λ text all. All-weaker IsTimeoutByte IsPlain word_is_plain text all) (map timeout_text ts) words in
    rw (joined_words (map timeout_text ts) words, pieces_joined (map timeout_text ts) (none_mapped ts some) plain) (all_read ts within)

pub timeouts_are_text : (ts : List DavTimeout) → All IsTimeoutWithin ts → list_all is_text_byte (timeouts_text ts) ≡ true
timeouts_are_text ts within = joined_words (map timeout_text ts) (all_words ts within)
