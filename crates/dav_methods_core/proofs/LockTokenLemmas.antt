-- A field can hold the token of a new lock, between angle brackets.
use Rattle.std.proofs.Common.{ℕ, zero, suc, ◌<◌, Bool, true, false, List, [], ◌∷◌, ◌++◌, refl, arith, cond}
use Rattle.std.specs.Prelude.{codes, IsTrue}
use Rattle.std.specs.List.{All}
use Rattle.std.proofs.lemmas.Bool.Decides.{nat_tests}
use Rattle.std.proofs.lemmas.List.Elements.{All-append, All-cons, All-nil}
use Rattle.std.proofs.lemmas.List.Sums.{AllPass-from_list_all}
use Rattle.http_header.specs.FieldValue.{IsFieldValue}
use Rattle.http_header.specs.Token.{is_value_byte}
use Rattle.rand_core.specs.Stream.{Stream, fill_bytes}
use Rattle.uuid.specs.Parts.{v4_of_fill}
use Rattle.uuid.specs.Text.{by_index, digit_place, hex_digit, hyphen, hyphenated_text, is_hyphen_place, lower, nibble, urn_prefix, urn_text}
use Rattle.uuid.proofs.TextLemmas.{nibble_small}
use Rattle.dav_locks_core.specs.Tokens.{token_from}
use Rattle.dav_fields_core.specs.Fields.{in_brackets}

abbrev CanBeHeld : ℕ → Type 0
CanBeHeld b = IsTrue (is_value_byte b)

each_place : (n : ℕ) (f : ℕ → ℕ) → ((k : ℕ) → CanBeHeld (f k)) → All CanBeHeld (by_index n f)
unfolding by_index
each_place zero f h = All-nil CanBeHeld
each_place (suc n) f h = All-append CanBeHeld (by_index n f) (f n ∷ []) (each_place n f h) (All-cons CanBeHeld (f n) [] (h n) (All-nil CanBeHeld))

digit_held : (d : ℕ) → d < 16 → CanBeHeld (hex_digit lower d)
digit_held d small = grind (arith, nat_tests)

place_held : (hyphen_there : Bool) (d : ℕ) → d < 16 → CanBeHeld (cond hyphen_there hyphen (hex_digit lower d))
place_held true d small = refl
place_held false d small = digit_held d small

text_held : (bytes : List ℕ) → All CanBeHeld (urn_text lower bytes)
text_held bytes =
    All-append CanBeHeld urn_prefix (hyphenated_text lower bytes) (AllPass-from_list_all is_value_byte urn_prefix refl)
    (each_place 36 (λ k. cond (is_hyphen_place k) hyphen (hex_digit lower (nibble bytes (digit_place k)))) (λ k.
    place_held (is_hyphen_place k) (nibble bytes (digit_place k)) (nibble_small bytes (digit_place k))))

token_held : (stream : Stream) → All CanBeHeld (token_from stream).0
unfolding token_from
token_held stream = text_held (v4_of_fill (fill_bytes 16 stream)).0

pub is_held : (stream : Stream) → IsFieldValue (in_brackets (token_from stream).0)
is_held stream =
    All-append CanBeHeld (codes "<") ((token_from stream).0 ++ codes ">") (AllPass-from_list_all is_value_byte (codes "<") refl)
    (All-append CanBeHeld (token_from stream).0 (codes ">") (token_held stream) (AllPass-from_list_all is_value_byte (codes ">") refl))
