-- How a reader goes on, record by record and round by round.
use Rattle.std.proofs.Common.{◌≡◌, ℕ, ◌+◌, ◌<◌, ◌≤◌, ◌^◌, List, [], ◌∷◌, ◌++◌, length, drop, IsFalse, sym, ◌∙◌, ap, subst, append_assoc, append-nil, arith}
use Rattle.std.proofs.lemmas.List.{drop_at, length-drop}
use Rattle.journal_core.specs.declared.header.Header.{Header}
use Rattle.journal_core.specs.declared.reader.Reader.{Reader}
use Rattle.journal_core.specs.Format.{IsOf64Bits, IsOpen, Lies, journal_front, records_text, round_text, rounds_text}
use Rattle.journal_core.specs.JournalReading.{HasEnded, HasRead, record_of}
use Rattle.journal_core.specs.Private.RoundSteps.{IsShutAt, NoRecord, RoundRead, StepsTo}
use Rattle.journal_core.specs.Private.AllLaws.{all_two}
use Rattle.journal_core.proofs.Records.{none_left, records_size}
use Rattle.journal_core.proofs.Rounds.{front_len, front_more, records_in_more, rounds_size}

-- the next record of the round
pub next_in_round : (r r' : Reader) (file : List ℕ) (done : List (List ℕ)) (it : HasRead r file done) → StepsTo r it.left r' → HasRead r' file (done ++ record_of r' ∷ [])
next_in_round r r' file done it step = record {
  going = subst (λ b. IsFalse b) (sym step.ended) it.going;
  first = it.first;
  rounds = it.rounds;
  rest = it.rest;
  left = step.rest;
  made = it.made;
  fits = subst IsOf64Bits (sym step.header) it.fits;
  split = subst (λ (h : Header). file ≡ journal_front it.first h it.rounds ++ it.rest) (sym step.header) it.split;
  gates = it.gates;
  place = step.place ∙ subst (λ (h : Header). r.place ≡ 56 + length (rounds_text h.key 56 it.rounds)) (sym step.header) it.place;
  buffered = step.buffered;
  same = it.same ∙ ap (λ (l : List (List ℕ)). done ++ l) step.left_is ∙ sym (append_assoc done (record_of r' ∷ []) step.rest);
}

-- behind the last record of the round nothing is left
pub nothing_left : (r : Reader) (file : List ℕ) (done : List (List ℕ)) (it : HasRead r file done) → length r.round.items ≤ r.to → it.left ≡ []
nothing_left r file done it past = none_left it.left (omega (arith, ap length it.buffered, length-drop r.to r.round.items, past))

-- what stands at the next gate
pub rest_at : (r : Reader) (file : List ℕ) (done : List (List ℕ)) (it : HasRead r file done) → drop r.place file ≡ it.rest
rest_at r file done it =
    ap (λ (l : List ℕ). drop r.place l) it.split ∙ drop_at (journal_front it.first r.header it.rounds) it.rest r.place (front_len it.first r.header it.rounds ∙ sym it.place)

-- the next round
pub next_round : (r r' : Reader) (file : List ℕ) (done : List (List ℕ)) (it : HasRead r file done) → length r.round.items ≤ r.to → RoundRead r file r' → HasRead r' file done
next_round r r' file done it past read =
    let q = read.read in
    let behind = drop r'.place file in
    let rest : it.rest ≡ q.0 ++ (round_text r.header.key r.place (records_text q.1) ++ behind) = sym (rest_at r file done it) ∙ read.stood in
    let whole : file ≡ journal_front it.first r.header (it.rounds ++ q ∷ []) ++ behind =
    it.split ∙ ap (λ (l : List ℕ). journal_front it.first r.header it.rounds ++ l) (rest ∙ ap (λ n. q.0 ++ (round_text r.header.key n (records_text q.1) ++ behind)) it.place)
    ∙ sym (front_more it.first r.header it.rounds q behind it.gates) in
    let place : r'.place ≡ 56 + length (rounds_text r.header.key 56 (it.rounds ++ q ∷ [])) = read.place ∙ omega (arith, it.place, rounds_size r.header.key 56 it.rounds q it.gates read.is_open.word) in
    record {
      going = subst (λ b. IsFalse b) (sym read.ended) it.going;
      first = it.first;
      rounds = it.rounds ++ q ∷ [];
      rest = behind;
      left = q.1;
      made = it.made;
      fits = subst IsOf64Bits (sym read.header) it.fits;
      split = subst (λ (h : Header). file ≡ journal_front it.first h (it.rounds ++ q ∷ []) ++ behind) (sym read.header) whole;
      gates = all_two IsOpen it.rounds (q ∷ []) it.gates (read.is_open, tt);
      place = subst (λ (h : Header). r'.place ≡ 56 + length (rounds_text h.key 56 (it.rounds ++ q ∷ []))) (sym read.header) place;
      buffered = ap (λ n. drop n r'.round.items) read.to ∙ read.round;
      same = records_in_more it.rounds q ∙ ap (λ (l : List (List ℕ)). l ++ q.1) (it.same ∙ ap (λ (l : List (List ℕ)). done ++ l) (nothing_left r file done it past) ∙ append-nil done);
    }

-- the gate behind the last round is shut
pub has_ended : (r r' : Reader) (file : List ℕ) (done : List (List ℕ)) (it : HasRead r file done) → length r.round.items ≤ r.to → IsShutAt r.place file → r'.header ≡ r.header → r'.place ≡ r.place → HasEnded r' file done
has_ended r r' file done it past shut header place = record {
  rounds = it.rounds;
  lies = subst (λ (h : Header). Lies h file it.rounds) (sym header) (record {
    first = it.first;
    behind = shut.0;
    made = it.made;
    fits = it.fits;
    split = it.split ∙ ap (λ (l : List ℕ). journal_front it.first r.header it.rounds ++ l) (sym (rest_at r file done it) ∙ shut.1);
    gates = it.gates;
  });
  same = it.same ∙ ap (λ (l : List (List ℕ)). done ++ l) (nothing_left r file done it past) ∙ append-nil done;
  place = place ∙ subst (λ (h : Header). r.place ≡ 56 + length (rounds_text h.key 56 it.rounds)) (sym header) it.place;
}

-- within a round of records a record stands
pub record_left : (r : Reader) (file : List ℕ) (done : List (List ℕ)) (it : HasRead r file done) → r.to < length r.round.items → length r.round.items < 2 ^ 64 → NoRecord (drop r.to r.round.items) → ⊥
record_left r file done it low fits none = stands it.left it.buffered
  where
    stands : (left : List (List ℕ)) → drop r.to r.round.items ≡ records_text left → ⊥
    stands [] is = omega (arith, low, ap length is, length-drop r.to r.round.items)
    stands (one ∷ left) is = none one (records_text left) (omega (arith, fits, records_size one left, ap length is, length-drop r.to r.round.items)) is

-- at the front of a round that was read a record stands
pub record_first : (r r' : Reader) (file : List ℕ) (read : RoundRead r file r') → NoRecord (drop r'.to r'.round.items) → ⊥
record_first r r' file read none = stands read.read.1 (ap (λ n. drop n r'.round.items) read.to ∙ read.round) read.is_open.some read.is_open.short
  where
    stands : (records : List (List ℕ)) → drop r'.to r'.round.items ≡ records_text records → 0 < length (records_text records) → length (records_text records) < 2 ^ 64 → ⊥
    stands [] is some short = omega (arith, some)
    stands (one ∷ left) is some short = none one (records_text left) (omega (arith, short, records_size one left)) is
