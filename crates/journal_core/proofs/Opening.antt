-- What the first bytes of a file tell of it.
use Rattle.std.proofs.Common.{◌≡◌, ◌≢◌, ◌⊎◌, inl, inr, ℕ, ◌<◌, ◌≤◌, List, [], ◌∷◌, ◌++◌, length, take, drop, slice_index, IsFalse, refl, sym, ◌∙◌, ap, subst, append_assoc, append-nil, length-append, arith}
use Rattle.std.proofs.lemmas.Bool.{cases_lt}
use Rattle.std.proofs.lemmas.Grind.{flat_map-append}
use Rattle.std.proofs.lemmas.List.{take-append-drop, length-take-le, drop_all}
use Rattle.journal_core.specs.declared.error.JournalError.{JournalError}
use Rattle.journal_core.specs.declared.error.JournalError.TheVariants.{Foreign, Unsupported, Damaged, Failed, Full, OutOfMemory, TooLarge, NotOpen, Busy}
use Rattle.journal_core.specs.declared.header.Header.{Header}
use Rattle.journal_core.specs.declared.reader.Reader.{Reader}
use Rattle.journal_core.specs.Format.{Laid, IsNewFile, IsOf64Bits, StandsFor, journal_front, header_text, magic, records_in, rounds_text, version_word}
use Rattle.journal_core.specs.JournalReading.{EndsThere, HasNoHeader, HasRead, IsNoHeader, IsOfJournal, IsOfThisVersion, IsRefusal}
use Rattle.journal_core.proofs.Headers.{longer_no_header}
use Rattle.journal_core.proofs.Numbers.{parts_same}
use Rattle.journal_core.proofs.Rounds.{damage_refuses, file_front, front_len}

-- the first bytes are the whole file, or as many as a header has
pub record IsFrontOf (front file : List ℕ) : Type 0 where
  pub rest : List ℕ
  pub split : file ≡ front ++ rest
  pub long : (length front ≡ 56) ⊎ (rest ≡ [])

pub front_is : (file buf : List ℕ) (n : ℕ) → n ≤ length buf → n ≤ 56 → take n buf ≡ take n file → (n < 56 → length file ≡ n) → IsFrontOf (take n buf) file
front_is file buf n fits most same ends = record {
  rest = drop n file;
  split = sym (take-append-drop n file) ∙ ap (λ (l : List ℕ). l ++ drop n file) (sym same);
  long = long_or_all;
}
  where
    long_or_all : (length (take n buf) ≡ 56) ⊎ (drop n file ≡ [])
    long_or_all = elim (cases_lt n 56) [
      | inl few ↦ inr (drop_all n file (omega (arith, ends few)))
      | inr all ↦ inl (omega (arith, length-take-le n buf fits, most, all))
    ]

journal_in : (front rest : List ℕ) → (length front ≡ 56) ⊎ (rest ≡ []) → IsOfJournal (front ++ rest) → IsOfJournal front
journal_in front rest long it = elim long [
  | inl whole ↦ (
    it.0,
    drop 8 front,
    it.2,
    sym (take-append-drop 8 front) ∙ ap (λ (l : List ℕ). l ++ drop 8 front) (parts_same (take 8 front) (it.0 ∷ magic) (drop 8 front ++ rest) it.1
        (length-take-le 8 front (omega (arith, whole))) (sym (append_assoc (take 8 front) (drop 8 front) rest) ∙ ap (λ (l : List ℕ). l ++ rest) (take-append-drop 8 front) ∙ it.3)).0,
  )
  | inr end ↦ (it.0, it.1, it.2, sym (append-nil front) ∙ ap (λ (l : List ℕ). front ++ l) (sym end) ∙ it.3)
]

version_in : (front rest : List ℕ) → (length front ≡ 56) ⊎ (rest ≡ []) → IsOfThisVersion (front ++ rest) → IsOfThisVersion front
version_in front rest long it = elim long [
  | inl whole ↦ (
    it.0,
    drop 16 front,
    sym (take-append-drop 16 front) ∙ ap (λ (l : List ℕ). l ++ drop 16 front) (parts_same (take 16 front) ((it.0 ∷ magic) ++ version_word) (drop 16 front ++ rest) it.1
        (length-take-le 16 front (omega (arith, whole))) (sym (append_assoc (take 16 front) (drop 16 front) rest) ∙ ap (λ (l : List ℕ). l ++ rest) (take-append-drop 16 front) ∙ it.2)).0,
  )
  | inr end ↦ (it.0, it.1, sym (append-nil front) ∙ ap (λ (l : List ℕ). front ++ l) (sym end) ∙ it.2)
]

journal_of : (front rest : List ℕ) → IsOfJournal front → IsOfJournal (front ++ rest)
journal_of front rest it = (it.0, it.1 ++ rest, it.2, ap (λ (l : List ℕ). l ++ rest) it.3)

-- what the first bytes are not, the file is not
pub no_header_of : (e : JournalError) (front file : List ℕ) → IsFrontOf front file → IsRefusal e → IsNoHeader e front → IsNoHeader e file
no_header_of Foreign front file it refusal none = λ all. none (journal_in front it.rest it.long (subst IsOfJournal it.split all))
no_header_of Unsupported front file it refusal none = (subst IsOfJournal (sym it.split) (journal_of front it.rest none.0), λ all. none.1 (version_in front it.rest it.long (subst IsOfThisVersion it.split all)))
no_header_of (Damaged at) front file it refusal none = (subst IsOfJournal (sym it.split) (journal_of front it.rest none.0), subst HasNoHeader (sym it.split) (longer_no_header front it.rest it.long none.1), none.2)
no_header_of (Failed e) front file it refusal none = absurd refusal
no_header_of Full front file it refusal none = absurd refusal
no_header_of OutOfMemory front file it refusal none = absurd refusal
no_header_of TooLarge front file it refusal none = absurd refusal
no_header_of NotOpen front file it refusal none = absurd refusal
no_header_of Busy front file it refusal none = absurd refusal

-- two bytes at least, of which the first is not zero
pub not_new : (front file : List ℕ) → IsFrontOf front file → 1 < length front → slice_index front 0 ≢ 0 → ¬ (IsNewFile file)
not_new front file it many other new = elim new [
  | inl few ↦ omega (arith, few, many, ap length it.split, length-append front it.rest)
  | inr zero ↦ other (first front it.rest many ∙ sym (ap (λ (l : List ℕ). slice_index l 0) it.split) ∙ zero.0)
]
  where
    first : (front rest : List ℕ) → 1 < length front → slice_index front 0 ≡ slice_index (front ++ rest) 0
    first [] rest many = absurd (omega (arith, many))
    first (x ∷ front) rest many = refl

-- a header was read, and no record yet
pub has_begun : (r : Reader) (first : ℕ) (front file : List ℕ) → IsFrontOf front file → first ≢ 0 → IsOf64Bits r.header → front ≡ first ∷ header_text r.header → r.place ≡ 56 → r.round.items ≡ [] → r.to ≡ 0 → IsFalse r.ended → HasRead r file []
unfolding rounds_text
has_begun r first front file it made fits front_is place none to going = record {
  going = going;
  first = first;
  rounds = [];
  rest = it.rest;
  left = [];
  made = made;
  fits = fits;
  split = it.split ∙ ap (λ (l : List ℕ). l ++ it.rest) (front_is ∙ ap (λ (l : List ℕ). first ∷ l) (sym (append-nil (header_text r.header))));
  gates = tt;
  place = place;
  buffered = ap (λ n. drop n r.round.items) to ∙ none;
  same = refl;
}

-- a file that has been read is not new
pub read_not_new : (r : Reader) (file : List ℕ) (done : List (List ℕ)) → HasRead r file done → ¬ (IsNewFile file)
read_not_new r file done it new = elim new [
  | inl few ↦ omega (arith, few, ap length it.split, length-append (journal_front it.first r.header it.rounds) it.rest, front_len it.first r.header it.rounds)
  | inr zero ↦ it.made (sym (ap (λ (l : List ℕ). slice_index l 0) it.split) ∙ zero.0)
]

-- of the records that the file stands for, those that were handed out are the first
pub read_first : (r : Reader) (file : List ℕ) (done : List (List ℕ)) → HasRead r file done → (h : Header) (records : List (List ℕ)) → StandsFor h file records → (rest : List (List ℕ)) × (records ≡ done ++ rest)
read_first r file done it h records stands = elim stands [
  | inl new ↦ absurd (read_not_new r file done it new.0)
  | inr used ↦
      let more = (file_front r.header file it.rounds it.first it.rest it.fits it.split it.gates h used.0 used.1).1 in (
        it.left ++ records_in more.0,
        sym used.2 ∙ ap (λ (l : List Laid). records_in l) more.1 ∙ flat_map-append (λ (q : Laid). q.1) it.rounds more.0 ∙ ap (λ (l : List (List ℕ)). l ++ records_in more.0) it.same
            ∙ append_assoc done it.left (records_in more.0),
      )
]

-- where reading ends with damage, the file stands for nothing
pub read_no_more : (r : Reader) (file : List ℕ) (done : List (List ℕ)) (e : JournalError) → HasRead r file done → EndsThere e r.header.key r.place file → (h : Header) (records : List (List ℕ)) → ¬ (StandsFor h file records)
read_no_more r file done e it ends h records stands = elim stands [
  | inl new ↦ read_not_new r file done it new.0
  | inr used ↦ damage_refuses r.header file it.rounds r.place it.first it.rest it.made it.fits it.split it.gates it.place ends.shut ends.round h used.0 used.1
]
