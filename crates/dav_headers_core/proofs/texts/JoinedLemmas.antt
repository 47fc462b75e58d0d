-- Texts that are cut at commas, or joined by them, are texts.
use Rattle.std.proofs.Common.{◌≡◌, refl, ℕ, ◌-◌, true, List, [], ◌∷◌, ◌++◌, length, drop, map}
use Rattle.std.specs.Prelude.{codes}
use Rattle.std.specs.List.{All, list_all, flat_map, slice_split, prefix_len, suffix_len}
use Rattle.std.proofs.lemmas.Bool.{and_from, and_parts}
use Rattle.std.proofs.lemmas.List.Sums.{AllPass-from_list_all, list_all-from_AllPass}
use Rattle.std.proofs.lemmas.List.Elements.{All-head, All-tail, All-take, All-drop}
use Rattle.dav_headers_core.specs.Values.{is_text_byte, are_texts}
use Rattle.dav_headers_core.specs.CommaPieces.{is_blank, is_comma, without_blanks, comma_pieces, joined_by_commas}
use Rattle.dav_headers_core.proofs.texts.PieceLemmas.{parts_all}
use Rattle.dav_headers_core.proofs.texts.TextLemmas.{text-append}

-- ---- joined

rest_is_text : (texts : List (List ℕ)) → are_texts texts ≡ true → list_all is_text_byte (flat_map (λ text. codes ", " ++ text) texts) ≡ true
rest_is_text [] all = refl
rest_is_text (text ∷ texts) all =
    let parts = and_parts (list_all is_text_byte text) (are_texts texts) all in
    text-append is_text_byte text (flat_map (λ text. codes ", " ++ text) texts) parts.0 (rest_is_text texts parts.1)

pub joined_is_text : (texts : List (List ℕ)) → are_texts texts ≡ true → list_all is_text_byte (joined_by_commas texts) ≡ true
joined_is_text [] all = refl
joined_is_text (text ∷ texts) all =
    let parts = and_parts (list_all is_text_byte text) (are_texts texts) all in
    text-append is_text_byte text (flat_map (λ text. codes ", " ++ text) texts) parts.0 (rest_is_text texts parts.1)

-- ---- cut

abbrev IsTextByte : ℕ → Type 0
IsTextByte b = is_text_byte b ≡ true

trimmed_all : (text : List ℕ) → All IsTextByte text → list_all is_text_byte (without_blanks text) ≡ true
trimmed_all text all =
    let tail = drop (prefix_len is_blank text) text in
    list_all-from_AllPass is_text_byte (without_blanks text) (All-take IsTextByte (length tail - suffix_len is_blank tail) tail (All-drop IsTextByte (prefix_len is_blank text) text all))

each_trimmed : (parts : List (List ℕ)) → All (All IsTextByte) parts → are_texts (map without_blanks parts) ≡ true
each_trimmed [] all = refl
each_trimmed (part ∷ parts) all =
    and_from (list_all is_text_byte (without_blanks part)) (are_texts (map without_blanks parts)) (trimmed_all part (All-head (All IsTextByte) part parts all)) (each_trimmed parts (All-tail (All IsTextByte) part parts all))

pub pieces_are_texts : (text : List ℕ) → list_all is_text_byte text ≡ true → are_texts (comma_pieces text) ≡ true
pieces_are_texts text visible =
    each_trimmed (slice_split is_comma text) (parts_all IsTextByte is_comma text (AllPass-from_list_all is_text_byte text visible))
