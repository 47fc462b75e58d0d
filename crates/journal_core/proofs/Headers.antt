-- What a header is, and that there is one at most.
use Rattle.std.proofs.Common.{◌≡◌, ◌≢◌, ◌⊎◌, inl, inr, ℕ, ◌<◌, ◌≤◌, List, [], ◌∷◌, ◌++◌, length, take, drop, sym, ◌∙◌, ap, append_assoc, append-nil, length-append, arith}
use Rattle.journal_core.specs.declared.header.Header.{Header}
use Rattle.journal_core.specs.Format.{word_of, magic, version_word, header_front, header_text, sum_of, IsOf64Bits}
use Rattle.journal_core.specs.JournalReading.{HasNoHeader, IsNoHeader, IsOfJournal, IsOfThisVersion, IsRefusal}
use Rattle.journal_core.specs.declared.error.JournalError.{JournalError}
use Rattle.journal_core.specs.declared.error.JournalError.TheVariants.{Foreign, Unsupported, Damaged, Failed, Full, OutOfMemory, TooLarge, NotOpen, Busy}
use Rattle.journal_core.proofs.Numbers.{word_len, words_same, parts_same}

-- the header, taken apart
pub header_parts : (h : Header) → header_text h ≡ magic ++ (version_word ++ (word_of h.generation ++ (word_of h.key ++ (word_of h.began ++ (word_of 56 ++ word_of (sum_of 0 0 (header_front h)))))))
unfolding header_text header_front
header_parts h =
    let s = word_of (sum_of 0 0 (header_front h)) in
    let a : (word_of h.generation ++ (word_of h.key ++ (word_of h.began ++ word_of 56))) ++ s ≡ word_of h.generation ++ (word_of h.key ++ (word_of h.began ++ (word_of 56 ++ s))) =
    append_assoc (word_of h.generation) (word_of h.key ++ (word_of h.began ++ word_of 56)) s
    ∙ ap (λ (l : List ℕ). word_of h.generation ++ l) (append_assoc (word_of h.key) (word_of h.began ++ word_of 56) s ∙ ap (λ (l : List ℕ). word_of h.key ++ l) (append_assoc (word_of h.began) (word_of 56) s)) in
    ap (λ (l : List ℕ). magic ++ (version_word ++ l)) a

pub header_len : (h : Header) → length (header_text h) ≡ 55
header_len h =
    let s = word_of (sum_of 0 0 (header_front h)) in
    omega (
      arith,
      ap length (header_parts h),
      length-append (word_of h.generation) (word_of h.key ++ (word_of h.began ++ (word_of 56 ++ s))),
      length-append (word_of h.key) (word_of h.began ++ (word_of 56 ++ s)),
      length-append (word_of h.began) (word_of 56 ++ s),
      length-append (word_of 56) s,
      word_len h.generation,
      word_len h.key,
      word_len h.began,
      word_len 56,
      word_len (sum_of 0 0 (header_front h)),
    )

-- the three numbers behind the version tell which header it is
pub numbers_one : (h g : Header) (xs ys : List ℕ) → IsOf64Bits h → IsOf64Bits g
    → word_of h.generation ++ (word_of h.key ++ (word_of h.began ++ xs)) ≡ word_of g.generation ++ (word_of g.key ++ (word_of g.began ++ ys)) → h ≡ g
numbers_one h g xs ys h_fits g_fits is =
    let a = words_same h.generation g.generation (word_of h.key ++ (word_of h.began ++ xs)) (word_of g.key ++ (word_of g.began ++ ys)) h_fits.generation g_fits.generation is in
    let b = words_same h.key g.key (word_of h.began ++ xs) (word_of g.began ++ ys) h_fits.key g_fits.key a.1 in
    let d = words_same h.began g.began xs ys h_fits.began g_fits.began b.1 in
    λ i. record { generation = a.0 i; key = b.0 i; began = d.0 i }

-- a file begins with one header at most
pub header_one : (first first' : ℕ) (h g : Header) (xs ys : List ℕ) → IsOf64Bits h → IsOf64Bits g → (first ∷ header_text h) ++ xs ≡ (first' ∷ header_text g) ++ ys → (h ≡ g) × (xs ≡ ys)
header_one first first' h g xs ys h_fits g_fits is =
    let texts : header_text h ++ xs ≡ header_text g ++ ys = ap (λ (l : List ℕ). drop 1 l) is in
    let both = parts_same (header_text h) (header_text g) xs ys (header_len h ∙ sym (header_len g)) texts in
    let behind = ap (λ (l : List ℕ). drop 15 l) (sym (header_parts h) ∙ both.0 ∙ header_parts g) in
    (numbers_one h g _ _ h_fits g_fits behind, both.1)

-- too few bytes
pub few_no_header : (file : List ℕ) → length file < 56 → HasNoHeader file
few_no_header file few first h rest some fits is = omega (arith, few, ap length is, length-append (header_text h) rest, header_len h)

-- no more than a header
all_header : (file : List ℕ) (first : ℕ) (h : Header) (rest : List ℕ) → length file ≤ 56 → file ≡ (first ∷ header_text h) ++ rest → file ≡ first ∷ header_text h
all_header file first h [] few is = is ∙ ap (λ (l : List ℕ). first ∷ l) (append-nil (header_text h))
all_header file first h (x ∷ rest) few is = absurd (omega (arith, few, ap length is, length-append (header_text h) (x ∷ rest), header_len h))

-- another text than the header that its numbers say
pub other_no_header : (file : List ℕ) (first : ℕ) (h : Header) (numbers rest : List ℕ) → length file ≤ 56 → file ≡ (first ∷ magic) ++ (version_word ++ numbers)
    → numbers ≡ word_of h.generation ++ (word_of h.key ++ (word_of h.began ++ rest)) → IsOf64Bits h → header_text h ≢ drop 1 file → HasNoHeader file
other_no_header file first h numbers rest few front numbers_are fits other first' g behind some g_fits is =
    let whole = all_header file first' g behind few is in
    let text : drop 1 file ≡ header_text g = ap (λ (l : List ℕ). drop 1 l) whole in
    let tail = ap (λ (l : List ℕ). drop 16 l) (sym front ∙ whole) ∙ ap (λ (l : List ℕ). drop 15 l) (header_parts g) in
    let same = numbers_one h g rest _ fits g_fits (sym numbers_are ∙ tail) in
    other (ap header_text same ∙ sym text)

-- what begins with a header begins as a journal of this version
pub header_of_journal : (file : List ℕ) → ¬ (IsOfJournal file) → HasNoHeader file
header_of_journal file none first h rest some fits is = none (first, _, some, is ∙ ap (λ (l : List ℕ). (first ∷ l) ++ rest) (header_parts h))

pub header_of_version : (file : List ℕ) → ¬ (IsOfThisVersion file) → HasNoHeader file
header_of_version file none first h rest some fits is = none (first, _, is ∙ ap (λ (l : List ℕ). (first ∷ l) ++ rest) (header_parts h))

pub refused_no_header : (e : JournalError) (file : List ℕ) → IsRefusal e → IsNoHeader e file → HasNoHeader file
refused_no_header Foreign file refusal it = header_of_journal file it
refused_no_header Unsupported file refusal it = header_of_version file it.1
refused_no_header (Damaged at) file refusal it = it.1
refused_no_header (Failed e) file refusal it = absurd refusal
refused_no_header Full file refusal it = absurd refusal
refused_no_header OutOfMemory file refusal it = absurd refusal
refused_no_header TooLarge file refusal it = absurd refusal
refused_no_header NotOpen file refusal it = absurd refusal
refused_no_header Busy file refusal it = absurd refusal

-- a beginning of a file without a header, where it is the whole file or as long as a header
pub longer_no_header : (front rest : List ℕ) → (length front ≡ 56) ⊎ (rest ≡ []) → HasNoHeader front → HasNoHeader (front ++ rest)
longer_no_header front rest long none first h behind some fits is = elim long [
  | inl whole ↦ none first h [] some fits ((parts_same front (first ∷ header_text h) rest behind (whole ∙ sym (omega (arith, header_len h))) is).0 ∙ ap (λ (l : List ℕ). first ∷ l) (sym (append-nil (header_text h))))
  | inr end ↦ none first h behind some fits (sym (append-nil front) ∙ ap (λ (l : List ℕ). front ++ l) (sym end) ∙ is)
]

-- another version
pub other_version : (file : List ℕ) (first : ℕ) (text : List ℕ) → file ≡ (first ∷ magic) ++ text → take 8 text ≢ version_word → ¬ (IsOfThisVersion file)
other_version file first text is other it = other (ap (λ (l : List ℕ). take 8 (drop 8 l)) (sym is ∙ it.2))
