-- Pieces of texts.
use Rattle.std.proofs.Common.{◌≡◌, ◌≢◌, refl, ap, ◌∙◌, ℕ, ◌-◌, arith, Bool, true, false, cond, List, [], ◌∷◌, ◌++◌, length, take, drop, map}
use mathlib.Core.List.{reverse}
use Rattle.std.specs.Prelude.{codes}
use Rattle.std.specs.List.{All, slice_split, onto_first, prefix_len, suffix_len, flat_map, join_by}
use Rattle.std.specs.Char.{is_ascii_whitespace}
use Rattle.std.proofs.lemmas.Bool.Decides.{nat_tests}
use Rattle.std.proofs.lemmas.List.{reverse-append, append-nil, take_all}
use Rattle.std.proofs.lemmas.List.Splits.{slice_split_none, slice_split_at}
use Rattle.std.proofs.lemmas.List.Elements.{All-nil, All-cons, All-head, All-tail, All-drop, All-append, All-weaker}
use Rattle.http_header.specs.FieldValue.{IsVisibleAscii}
use Rattle.dav_headers_core.specs.Values.{is_text_byte}
use Rattle.dav_headers_core.specs.CommaPieces.{is_blank, is_comma, trimmed_by, without_blanks, comma_pieces, joined_by_commas}

-- ---- what holds of each byte of a text holds of each byte of its pieces

onto_all : {X : Type 0} (P : X → Type 0) (x : X) (parts : List (List X)) → P x → All (All P) parts → All (All P) (onto_first x parts)
onto_all P x [] h all = All-cons (All P) (x ∷ []) [] (All-cons P x [] h (All-nil P)) (All-nil (All P))
onto_all P x (part ∷ parts) h all =
    All-cons (All P) (x ∷ part) parts (All-cons P x part h (All-head (All P) part parts all)) (All-tail (All P) part parts all)

pub parts_all : {X : Type 0} (P : X → Type 0) (at : X → Bool) (xs : List X) → All P xs → All (All P) (slice_split at xs)
parts_all P at [] all = All-cons (All P) [] [] all (All-nil (All P))
parts_all {X = X} P at (x ∷ xs) all = go (at x) (parts_all P at xs (All-tail P x xs all))
  where
    go : (t : Bool) → All (All P) (slice_split at xs) → All (All P) (cond t ([] ∷ slice_split at xs) (onto_first x (slice_split at xs)))
    go true rest = All-cons (All P) [] (slice_split at xs) (All-nil P) rest
    go false rest = onto_all P x (slice_split at xs) (All-head P x xs all) rest

map_agree : {X Y : Type 0} (f g : X → Y) (xs : List X) → All (λ x. f x ≡ g x) xs → map f xs ≡ map g xs
map_agree f g [] all = refl
map_agree f g (x ∷ xs) all = rw (All-head (λ x. f x ≡ g x) x xs all, map_agree f g xs (All-tail (λ x. f x ≡ g x) x xs all)) refl

-- ---- in a text, the only white space is blanks

abbrev Agree : (ℕ → Bool) → (ℕ → Bool) → List ℕ → Type 0
Agree p q xs = All (λ b. p b ≡ q b) xs

prefix_agree : (p q : ℕ → Bool) (xs : List ℕ) → Agree p q xs → prefix_len p xs ≡ prefix_len q xs
prefix_agree p q [] all = refl
prefix_agree p q (x ∷ xs) all = rw (All-head (λ b. p b ≡ q b) x xs all, prefix_agree p q xs (All-tail (λ b. p b ≡ q b) x xs all)) refl

all_reverse : {X : Type 0} (P : X → Type 0) (xs : List X) → All P xs → All P (reverse xs)
all_reverse P [] all = all
all_reverse P (x ∷ xs) all =
    rw (reverse-append (x ∷ []) xs)
    (All-append P (reverse xs) (x ∷ []) (all_reverse P xs (All-tail P x xs all)) (All-cons P x [] (All-head P x xs all) (All-nil P)))

trims_agree : (p q : ℕ → Bool) (xs : List ℕ) → Agree p q xs → trimmed_by p xs ≡ trimmed_by q xs
trims_agree p q xs all =
    let front = prefix_agree p q xs all in
    let tail = drop (prefix_len q xs) xs in
    let back : suffix_len p tail ≡ suffix_len q tail = prefix_agree p q (reverse tail) (all_reverse (λ b. p b ≡ q b) tail (All-drop (λ b. p b ≡ q b) (prefix_len q xs) xs all)) in
    rw (front, back) refl

space_is_blank : (b : ℕ) → is_text_byte b ≡ true → is_ascii_whitespace b ≡ is_blank b
space_is_blank b h = grind (arith, nat_tests)

pub trimmed_is : (text : List ℕ) → IsVisibleAscii text → trimmed_by is_ascii_whitespace text ≡ without_blanks text
trimmed_is text visible =
    trims_agree is_ascii_whitespace is_blank text (All-weaker (λ b. is_text_byte b ≡ true) (λ b. is_ascii_whitespace b ≡ is_blank b) space_is_blank text visible)

pub trimmed_pieces : (text : List ℕ) → IsVisibleAscii text → map (trimmed_by is_ascii_whitespace) (slice_split is_comma text) ≡ comma_pieces text
trimmed_pieces text visible =
    let bytes : All (λ b. is_ascii_whitespace b ≡ is_blank b) text = All-weaker (λ b. is_text_byte b ≡ true) (λ b. is_ascii_whitespace b ≡ is_blank b) space_is_blank text visible in
    let parts = parts_all (λ b. is_ascii_whitespace b ≡ is_blank b) is_comma text bytes in
    map_agree (trimmed_by is_ascii_whitespace) (trimmed_by is_blank) (slice_split is_comma text)
    (All-weaker (All (λ b. is_ascii_whitespace b ≡ is_blank b)) (λ piece. trimmed_by is_ascii_whitespace piece ≡ trimmed_by is_blank piece) (λ piece all. trims_agree is_ascii_whitespace is_blank piece all) (slice_split is_comma text) parts)

-- ---- what is joined is cut again

-- neither a blank nor a comma
abbrev pub IsPlain : ℕ → Type 0
IsPlain b = (is_blank b ≡ false) × (is_comma b ≡ false)

no_blanks : (bytes : List ℕ) → All IsPlain bytes → prefix_len is_blank bytes ≡ 0
no_blanks [] plain = refl
no_blanks (b ∷ bytes) plain = let h = All-head IsPlain b bytes plain in rw h.0 refl

ends_stay : (bytes : List ℕ) → All IsPlain bytes → take (length bytes - suffix_len is_blank bytes) bytes ≡ bytes
ends_stay bytes plain =
    let back : suffix_len is_blank bytes ≡ 0 = no_blanks (reverse bytes) (all_reverse IsPlain bytes plain) in
    take_all (length bytes - suffix_len is_blank bytes) bytes (omega (arith, back))

trimmed_plain : (bytes : List ℕ) → All IsPlain bytes → without_blanks bytes ≡ bytes
trimmed_plain bytes plain = rw (no_blanks bytes plain) (ends_stay bytes plain)

trimmed_front : (bytes : List ℕ) → All IsPlain bytes → without_blanks (32 ∷ bytes) ≡ bytes
trimmed_front bytes plain = rw (no_blanks bytes plain) (ends_stay bytes plain)

no_commas : (bytes : List ℕ) → All IsPlain bytes → All (λ b. is_comma b ≡ false) bytes
no_commas bytes plain = All-weaker IsPlain (λ b. is_comma b ≡ false) (λ b h. h.1) bytes plain

-- what stands behind the first text, each text after a comma and a space
abbrev behind_first : List (List ℕ) → List ℕ
behind_first texts = flat_map (λ text. codes ", " ++ text) texts

cut_again : (front : List ℕ) (texts : List (List ℕ)) → All (λ b. is_comma b ≡ false) front → All (All IsPlain) texts → slice_split is_comma (front ++ behind_first texts) ≡ front ∷ map (λ text. 32 ∷ text) texts
cut_again front [] no_comma plain = rw (append-nil front) (slice_split_none is_comma front no_comma)
cut_again front (text ∷ texts) no_comma plain =
    let head = no_commas text (All-head (All IsPlain) text texts plain) in
    let rest = cut_again (32 ∷ text) texts (All-cons (λ b. is_comma b ≡ false) 32 text refl head) (All-tail (All IsPlain) text texts plain) in
    slice_split_at is_comma front 44 (32 ∷ text ++ behind_first texts) no_comma refl ∙ ap (λ (parts : List (List ℕ)). front ∷ parts) rest

trimmed_fronts : (texts : List (List ℕ)) → All (All IsPlain) texts → map without_blanks (map (λ text. 32 ∷ text) texts) ≡ texts
trimmed_fronts [] plain = refl
trimmed_fronts (text ∷ texts) plain =
    rw (trimmed_front text (All-head (All IsPlain) text texts plain), trimmed_fronts texts (All-tail (All IsPlain) text texts plain)) refl

pub pieces_joined : (texts : List (List ℕ)) → texts ≢ [] → All (All IsPlain) texts → comma_pieces (joined_by_commas texts) ≡ texts
pieces_joined [] some plain = absurd (some refl)
pieces_joined (text ∷ texts) some plain =
    let head = All-head (All IsPlain) text texts plain in
    let tail = All-tail (All IsPlain) text texts plain in
    rw (cut_again text texts (no_commas text head) tail, trimmed_plain text head, trimmed_fronts texts tail) refl

-- texts that are shown by `shown`, joined
pub joined_by : {X : Type 0} (shown : X → List ℕ) (xs : List X) → join_by shown (codes ", ") xs ≡ joined_by_commas (map shown xs)
joined_by shown [] = refl
joined_by {X = X} shown (x ∷ xs) = ap (λ (rest : List ℕ). shown x ++ rest) (rest_by xs)
  where
    rest_by : (ys : List X) → flat_map (λ y. codes ", " ++ shown y) ys ≡ behind_first (map shown ys)
    rest_by [] = refl
    rest_by (y ∷ ys) = rw (rest_by ys) refl
