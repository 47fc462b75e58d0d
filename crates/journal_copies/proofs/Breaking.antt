-- What a write over a gate makes of a file that is broken there.
use Rattle.std.proofs.Common.{◌≡◌, inl, inr, ℕ, ◌≤◌, List, [], ◌∷◌, ◌++◌, length, take, drop, refl, sym, ◌∙◌, ap, subst, arith, length-append}
use Rattle.std.proofs.lemmas.List.{take-append-drop, length-take-le, length-drop, drop_at, take_at}
use Rattle.sqlite_disk.specs.Disk.{Follows, Holds, Torn, Only}
use Rattle.journal_core.specs.declared.clocked.Clocked.{Clocked}
use Rattle.journal_core.specs.declared.header.Header.{Header}
use Rattle.journal_core.specs.declared.error.JournalError.{JournalError}
use Rattle.journal_core.specs.declared.reader.Reader.{Reader}
use Rattle.journal_core.specs.Clocked.{EachLeaves, disk_of, past_of}
use Rattle.journal_core.specs.Format.{Laid, IsOpen, Lies, journal_front, records_text, round_text, shut_word}
use Rattle.journal_core.specs.JournalReading.{EndsThere, HasRead}
use Rattle.journal_core.specs.LiveCopies.{gate_behind}
use Rattle.journal_core.proofs.Numbers.{shut_or_not}
use Rattle.journal_core.proofs.Rounds.{front_len, round_len}
use Rattle.journal_core.proofs.Staging.{torn_same}
use Rattle.journal_core.proofs.Writes.{over, stays, written}
use Rattle.journal_copies.specs.Broken.{IsAdopting, IsBroken}

-- the moments before and after one call
pub call_leaves : {D B : Type 0} (may_leave : D → List ℕ → Type 0) (note : B) (P : List ℕ → Type 0) (old new : Clocked D B) → past_of new ≡ past_of old ++ (disk_of old, note) ∷ (disk_of new, note) ∷ []
    → ((c : List ℕ) → may_leave (disk_of old) c → P c) → ((c : List ℕ) → may_leave (disk_of new) c → P c) → EachLeaves may_leave note P old new
call_leaves may_leave note P old new noted before after = ((disk_of old, note) ∷ (disk_of new, note) ∷ [], noted, ((refl, before), ((refl, after), tt)))

module _ (h : Header) (file : List ℕ) (rounds : List Laid) (it : IsBroken h file rounds) where
  abbrev before : List ℕ
  before = journal_front it.first h rounds

  gate_at : gate_behind h rounds ≡ length before
  gate_at = omega (arith, front_len it.first h rounds)

  torn_here : (c : List ℕ) → Torn (gate_behind h rounds) 8 file c → Torn (length before) 8 (before ++ it.rest) c
  torn_here c torn = subst (λ k. Torn k 8 (before ++ it.rest) c) gate_at (subst (λ (f : List ℕ). Torn (gate_behind h rounds) 8 f c) it.split torn)

  lies_with : (behind c : List ℕ) → c ≡ before ++ (shut_word ++ behind) → Lies h c rounds
  lies_with behind c is = record { first = it.first; behind = behind; made = it.made; fits = it.fits; split = is; gates = it.gates }

  -- a round that stands there now stood there before, behind another gate
  module _ (c : List ℕ) (torn : Torn (length before) 8 (before ++ it.rest) c) (r : Laid) (behind : List ℕ) (is_open : IsOpen r)
      (is : drop (length before) c ≡ r.0 ++ (round_text h.key (gate_behind h rounds) (records_text r.1) ++ behind)) where
    abbrev text : List ℕ
    text = round_text h.key (gate_behind h rounds) (records_text r.1) ++ behind

    long : 24 ≤ length (drop (length before) c)
    long = omega (arith, ap length is, is_open.word, length-append r.0 text, length-append (round_text h.key (gate_behind h rounds) (records_text r.1)) behind, round_len h.key (gate_behind h rounds) (records_text r.1))

    had : 8 ≤ length it.rest
    had = omega (arith, long, torn.no_longer, length-drop (length before) c, length-append before it.rest)

    word_len : length (take 8 it.rest) ≡ 8
    word_len = length-take-le 8 it.rest had

    parts : it.rest ≡ take 8 it.rest ++ drop 8 it.rest
    parts = sym (take-append-drop 8 it.rest)

    torn_parts : Torn (length before) (length (take 8 it.rest)) (before ++ (take 8 it.rest ++ drop 8 it.rest)) c
    torn_parts = subst (λ n. Torn (length before) n (before ++ (take 8 it.rest ++ drop 8 it.rest)) c) (sym word_len) (subst (λ (l : List ℕ). Torn (length before) 8 (before ++ l) c) parts torn)

    same_behind : drop 8 it.rest ≡ text
    same_behind =
        let both = over before (take 8 it.rest) (drop 8 it.rest) c torn_parts in
        let word = take (length (take 8 it.rest)) (drop (length before) c) in
        let now : drop (length before) c ≡ word ++ drop 8 it.rest = ap (λ (l : List ℕ). drop (length before) l) both.1 ∙ drop_at before (word ++ drop 8 it.rest) (length before) refl in
        sym (drop_at word (drop 8 it.rest) 8 (both.0 ∙ word_len)) ∙ ap (λ (l : List ℕ). drop 8 l) (sym now ∙ is) ∙ drop_at r.0 text 8 is_open.word

    stood_before : ⊥
    stood_before =
        it.round (take 8 it.rest, r.1) behind
        (record { word = word_len; other = λ shut. it.shut (drop 8 it.rest) (parts ∙ ap (λ (l : List ℕ). l ++ drop 8 it.rest) shut); some = is_open.some; short = is_open.short })
        (parts ∙ ap (λ (l : List ℕ). take 8 it.rest ++ l) same_behind)

  -- whatever stands at the gate
  pub gate_torn : (c : List ℕ) → Torn (gate_behind h rounds) 8 file c → IsAdopting h rounds file c
  gate_torn c torn =
      let torn' = torn_here c torn in
      let rest = drop (length before) c in
      let split : c ≡ before ++ rest = stays before it.rest 8 c torn' in (
        torn,
        elim (shut_or_not (take 8 rest)) [
          | inl is ↦ inl (lies_with (drop 8 rest) c (split ∙ ap (λ (l : List ℕ). before ++ l) (sym (take-append-drop 8 rest) ∙ ap (λ (l : List ℕ). l ++ drop 8 rest) is)))
          | inr other ↦ inr (record {
            first = it.first;
            rest = rest;
            made = it.made;
            fits = it.fits;
            split = split;
            gates = it.gates;
            shut = λ behind is. other (ap (λ (l : List ℕ). take 8 l) is ∙ take_at shut_word behind 8 refl);
            round = λ r behind is_open is. stood_before c torn' r behind is_open is;
          })
        ],
      )

  -- the gate is shut
  pub gate_shut : (c : List ℕ) → Torn (gate_behind h rounds) 8 file c → Holds c (gate_behind h rounds) shut_word → Lies h c rounds
  gate_shut c torn holds =
      lies_with (drop 8 (drop (length before) c)) c (written before it.rest shut_word c (torn_here c torn) (subst (λ k. Holds c k shut_word) gate_at holds))

  -- nothing was written yet
  pub not_yet : (outcomes : List ℕ → Type 0) → Only file outcomes → (c : List ℕ) → outcomes c → IsAdopting h rounds file c
  not_yet outcomes only c left = subst (λ (f : List ℕ). IsAdopting h rounds file f) (sym (only c left)) (torn_same (gate_behind h rounds) 8 file, inr it)

  -- the write was begun
  pub after_write : (outcomes outcomes' : List ℕ → Type 0) (place : ℕ) → place ≡ gate_behind h rounds → Only file outcomes → Follows (Torn place 8) outcomes outcomes' → (c : List ℕ) → outcomes' c → IsAdopting h rounds file c
  after_write outcomes outcomes' place here only follows c left =
      let from = follows c left in
      gate_torn c (subst (λ k. Torn k 8 file c) here (subst (λ (f : List ℕ). Torn place 8 f c) (only from.0 from.1) from.2))

-- where a reader finds neither a gate that is shut nor a whole round, the file is broken
pub broken_there : (r : Reader) (file : List ℕ) (done : List (List ℕ)) (e : JournalError) → HasRead r file done → EndsThere e r.header.key r.place file
    → (rounds : List Laid) × IsBroken r.header file rounds × (r.place ≡ gate_behind r.header rounds)
broken_there r file done e has ends =
    let before = journal_front has.first r.header has.rounds in
    let here : r.place ≡ length before = omega (arith, has.place, front_len has.first r.header has.rounds) in
    let rest_is : drop r.place file ≡ has.rest = ap (λ (l : List ℕ). drop r.place l) has.split ∙ drop_at before has.rest r.place (sym here) in (
      has.rounds,
      record {
        first = has.first;
        rest = has.rest;
        made = has.made;
        fits = has.fits;
        split = has.split;
        gates = has.gates;
        shut = λ behind is. ends.shut behind (rest_is ∙ is);
        round = λ q behind is_open is. ends.round q behind is_open (rest_is ∙ is ∙ ap (λ n. q.0 ++ (round_text r.header.key n (records_text q.1) ++ behind)) (sym has.place));
      },
      has.place,
    )
