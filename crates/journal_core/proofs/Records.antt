-- Records one behind another.
use Rattle.std.proofs.Common.{◌≡◌, ◌≢◌, ℕ, ◌+◌, ◌<◌, ◌^◌, List, [], ◌∷◌, ◌++◌, length, take, drop, refl, sym, ◌∙◌, ap, append_assoc, length-append, arith}
use Rattle.std.proofs.lemmas.List.{take_at, drop_at, drop-drop}
use Rattle.journal_core.specs.Format.{word_of, record_text, records_text}
use Rattle.journal_core.proofs.Numbers.{word_len, words_same, parts_same}

pub record_size : (one : List ℕ) → length (record_text one) ≡ 8 + length one
record_size one = omega (arith, length-append (word_of (length one)) one, word_len (length one))

pub records_size : (one : List ℕ) (records : List (List ℕ)) → length (records_text (one ∷ records)) ≡ 8 + length one + length (records_text records)
records_size one records = omega (arith, length-append (record_text one) (records_text records), record_size one)

-- two records at the front of one list
pub record_same : (a b xs ys : List ℕ) → length a < 2 ^ 64 → length b < 2 ^ 64 → record_text a ++ xs ≡ record_text b ++ ys → (a ≡ b) × (xs ≡ ys)
record_same a b xs ys a_short b_short is =
    let both = words_same (length a) (length b) (a ++ xs) (b ++ ys) a_short b_short (sym (append_assoc (word_of (length a)) a xs) ∙ is ∙ append_assoc (word_of (length b)) b ys) in
    parts_same a b xs ys both.0 both.1

-- too little is left for a record
pub few_no_record : (bytes : List ℕ) → length bytes < 8 → (one rest : List ℕ) → bytes ≢ record_text one ++ rest
few_no_record bytes few one rest is = omega (arith, few, ap length is, length-append (record_text one) rest, record_size one)

-- less is left than its length says
pub short_no_record : (bytes behind : List ℕ) (n : ℕ) → n < 2 ^ 64 → bytes ≡ word_of n ++ behind → length behind < n → (one rest : List ℕ) → length one < 2 ^ 64 → bytes ≢ record_text one ++ rest
short_no_record bytes behind n fits front few one rest short is =
    let both = words_same n (length one) behind (one ++ rest) fits short (sym front ∙ is ∙ append_assoc (word_of (length one)) one rest) in
    omega (arith, few, both.0, ap length both.1, length-append one rest)

-- no records have no bytes, and no others
pub none_left : (records : List (List ℕ)) → length (records_text records) ≡ 0 → records ≡ []
none_left [] none = refl
none_left (one ∷ records) none = absurd (omega (arith, none, records_size one records))

-- records in two ways
pub records_same : (xs ys : List (List ℕ)) → length (records_text xs) < 2 ^ 64 → records_text xs ≡ records_text ys → xs ≡ ys
records_same [] ys short is = sym (none_left ys (sym (ap length is)))
records_same (x ∷ xs) [] short is = absurd (omega (arith, ap length is, records_size x xs))
records_same (x ∷ xs) (y ∷ ys) short is =
    let x_size = records_size x xs in
    let y_size = records_size y ys in
    let both = record_same x y (records_text xs) (records_text ys) (omega (arith, short, x_size)) (omega (arith, short, ap length is, y_size)) is in
    let rest = records_same xs ys (omega (arith, short, x_size)) both.1 in
    λ i. both.0 i ∷ rest i

-- what stands behind records, and begins with none, is no part of records
pub not_records : (done records : List (List ℕ)) (rest : List ℕ) → length (records_text records) < 2 ^ 64 → records_text done ++ rest ≡ records_text records → 0 < length rest
    → ((one behind : List ℕ) → length one < 2 ^ 64 → rest ≢ record_text one ++ behind) → ⊥
not_records [] [] rest short is some none = omega (arith, some, ap length is)
not_records [] (r ∷ records) rest short is some none = none r (records_text records) (omega (arith, short, records_size r records)) is
not_records (d ∷ done) [] rest short is some none = omega (arith, ap length is, length-append (records_text (d ∷ done)) rest, records_size d done)
not_records (d ∷ done) (r ∷ records) rest short is some none =
    let r_size = records_size r records in
    let d_size = records_size d done in
    let all = length-append (records_text (d ∷ done)) rest in
    let both = record_same d r (records_text done ++ rest) (records_text records) (omega (arith, short, ap length is, all, d_size)) (omega (arith, short, r_size))
    (sym (append_assoc (record_text d) (records_text done) rest) ∙ is) in
    not_records done records rest (omega (arith, short, r_size)) both.1 some none

pub records_more : (done : List (List ℕ)) (one rest : List ℕ) → records_text (done ++ one ∷ []) ++ rest ≡ records_text done ++ (record_text one ++ rest)
records_more [] one rest = append_assoc (record_text one) [] rest
records_more (d ∷ done) one rest =
    append_assoc (record_text d) (records_text (done ++ one ∷ [])) rest ∙ ap (λ (l : List ℕ). record_text d ++ l) (records_more done one rest) ∙ sym (append_assoc (record_text d) (records_text done) (record_text one ++ rest))

-- a record that stands before records is the first of them
pub first_record : (bytes : List ℕ) (left : List (List ℕ)) (one behind : List ℕ) → length bytes < 2 ^ 64 → bytes ≡ records_text left → bytes ≡ record_text one ++ behind
    → (rest : List (List ℕ)) × (left ≡ one ∷ rest) × (behind ≡ records_text rest)
first_record bytes [] one behind short is front = absurd (omega (arith, ap length (sym is ∙ front), length-append (record_text one) behind, record_size one))
first_record bytes (x ∷ rest) one behind short is front =
    let x_size = records_size x rest in
    let all = length-append (record_text one) behind in
    let both = record_same x one (records_text rest) behind (omega (arith, short, ap length is, x_size)) (omega (arith, short, ap length front, all, record_size one)) (sym is ∙ front) in
    (rest, (λ i. both.0 i ∷ rest), sym both.1)

-- where a record stands at a place, it is the bytes behind its length
pub record_at : (bytes : List ℕ) (at : ℕ) (one behind : List ℕ) → drop at bytes ≡ record_text one ++ behind
    → (take (length one) (drop (at + 8) bytes) ≡ one) × (drop (at + 8 + length one) bytes ≡ behind)
record_at bytes at one behind is =
    let tail : drop (at + 8) bytes ≡ one ++ behind =
    sym (drop-drop 8 at bytes) ∙ ap (λ (l : List ℕ). drop 8 l) (is ∙ append_assoc (word_of (length one)) one behind) ∙ drop_at (word_of (length one)) (one ++ behind) 8 (word_len (length one)) in (
      ap (λ (l : List ℕ). take (length one) l) tail ∙ take_at one behind (length one) refl,
      sym (drop-drop (length one) (at + 8) bytes) ∙ ap (λ (l : List ℕ). drop (length one) l) tail ∙ drop_at one behind (length one) refl,
    )
