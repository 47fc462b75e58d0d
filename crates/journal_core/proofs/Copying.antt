-- A copy of a file in use, gate by gate.
use Rattle.std.proofs.Common.{◌≡◌, ◌≢◌, ◌⊎◌, inl, inr, ℕ, zero, suc, ◌+◌, ◌-◌, ◌<◌, ◌≤◌, List, [], ◌∷◌, ◌++◌, length, take, drop, slice_index, refl, sym, ◌∙◌, ap, subst, append_assoc, length-append, arith}
use Rattle.std.proofs.lemmas.List.{append-nil, get_or-append-add, get_or_append_left, length-take-le, nil_from_length, take-append-drop, take_at}
use Rattle.std.specs.List.{AllByRecursion}
use Rattle.journal_core.specs.declared.header.Header.{Header}
use Rattle.journal_core.specs.Format.{Laid, IsOf64Bits, IsOpen, Lies, journal_front, open_word, records_in, records_text, round_text, rounds_text, shut_word, size_of}
use Rattle.journal_core.specs.LiveCopies.{ChangesBehind, CopiesAreWhole, IsCopy, IsOfOneMoment, LivesOn, OpensGate, StepsOn, gate_behind}
use Rattle.journal_core.specs.Private.AllLaws.{all_parts, all_two}
use Rattle.journal_core.proofs.Numbers.{shut_or_not}
use Rattle.journal_core.proofs.Parts.{begins}
use Rattle.journal_core.specs.SeveralRounds.{AreRoundsBehind}
use Rattle.journal_core.proofs.Rounds.{first_apart, front_len, front_more, front_one, front_two, records_in_more, round_len, rounds_size}
use Rattle.journal_core.proofs.Several.{laid, laid_text}

-- ---- lists

-- a byte of what stands behind a part
byte_at : (file front part rest : List ℕ) (j : ℕ) → file ≡ front ++ (part ++ rest) → j < length part → slice_index file (length front + j) ≡ slice_index part j
byte_at file front part rest j is low = ap (λ (l : List ℕ). slice_index l (length front + j)) is ∙ get_or-append-add front (part ++ rest) j 0 ∙ get_or_append_left part rest 0 j low

behind_both : (file front word rest : List ℕ) → file ≡ front ++ (word ++ rest) → file ≡ (front ++ word) ++ rest
behind_both file front word rest is = is ∙ sym (append_assoc front word rest)

-- ---- the file

-- the file has this first byte, this header, these rounds, and then a gate that is shut
record Stands (first : ℕ) (h : Header) (file : List ℕ) (rounds : List Laid) : Type 0 where
  behind : List ℕ
  split : file ≡ journal_front first h rounds ++ (shut_word ++ behind)
  gates : AllByRecursion IsOpen rounds

-- so at one moment, and with more rounds at another, the file no shorter
abbrev Grows : ℕ → Header → List ℕ → List ℕ → List Laid → Type 0
Grows first h file file' rounds = (more : List Laid) × Stands first h file' (rounds ++ more) × (length file ≤ length file')

grows_none : (first : ℕ) (h : Header) (file file' : List ℕ) (rounds : List Laid) → Stands first h file' rounds → length file ≤ length file' → Grows first h file file' rounds
grows_none first h file file' rounds it longer = ([], subst (λ (l : List Laid). Stands first h file' l) (sym (append-nil rounds)) it, longer)

changed : (first : ℕ) (h : Header) (file file' : List ℕ) (rounds : List Laid) → IsOf64Bits h → Stands first h file rounds → ChangesBehind h file file' → Grows first h file file' rounds
changed first h file file' rounds fits it c =
    let one = front_one c.first first h h c.rounds rounds c.old it.behind fits fits c.keeps.gates it.gates (sym c.keeps.before ∙ it.split) in
    let after : file' ≡ journal_front first h rounds ++ (shut_word ++ c.new) = c.keeps.after ∙ λ i. journal_front (one.1 i) h (one.2 i) ++ (shut_word ++ c.new) in
    let old_len : length c.old ≡ length it.behind = ap length one.3 in
    grows_none first h file file' rounds (record { behind = c.new; split = after; gates = it.gates })
    (omega (
      arith,
      old_len,
      c.longer,
      ap length it.split,
      ap length after,
      length-append (journal_front first h rounds) (shut_word ++ it.behind),
      length-append (journal_front first h rounds) (shut_word ++ c.new),
    ))

opened : (first : ℕ) (h : Header) (file file' : List ℕ) (rounds : List Laid) → IsOf64Bits h → Stands first h file rounds → OpensGate h file file' → Grows first h file file' rounds
opened first h file file' rounds fits it c =
    let text = c.text ++ (shut_word ++ c.behind) in
    let one = front_one c.first first h h c.rounds rounds text it.behind fits fits c.keeps.gates it.gates (sym c.keeps.before ∙ it.split) in
    let gate = gate_behind h rounds in
    let whole : AreRoundsBehind h.key gate c.text c.records = subst (λ (rs : List Laid). AreRoundsBehind h.key (gate_behind h rs) c.text c.records) one.2 c.whole in
    let rs = laid h.key gate c.text c.records whole open_word in
    let before : file ≡ journal_front first h rounds ++ (shut_word ++ text) = c.keeps.before ∙ λ i. journal_front (one.1 i) h (one.2 i) ++ (shut_word ++ text) in
    let after : file' ≡ journal_front first h rounds ++ (open_word ++ text) = c.keeps.after ∙ λ i. journal_front (one.1 i) h (one.2 i) ++ (open_word ++ text) in
    let all = ap (λ (l : List ℕ). journal_front first h rounds ++ l) (laid_text h.key gate c.text c.records whole open_word (shut_word ++ c.behind)) in (
      rs,
      record { behind = c.behind; split = after ∙ all ∙ sym (front_two first h rounds rs (shut_word ++ c.behind) it.gates); gates = all_two IsOpen rounds rs it.gates (whole.first, whole.others) },
      omega (
        arith,
        ap length before,
        ap length after,
        length-append (journal_front first h rounds) (shut_word ++ text),
        length-append (journal_front first h rounds) (open_word ++ text),
      ),
    )

stepped : (first : ℕ) (h : Header) (file file' : List ℕ) (rounds : List Laid) → IsOf64Bits h → Stands first h file rounds → StepsOn h file file' ⊎ (file' ≡ file) → Grows first h file file' rounds
stepped first h file file' rounds fits it step = elim step [
  | inl c ↦ elim c [
    | inl change ↦ changed first h file file' rounds fits it change
    | inr opening ↦ opened first h file file' rounds fits it opening
  ]
  | inr same ↦ grows_none first h file file' rounds (subst (λ (f : List ℕ). Stands first h f rounds) (sym same) it) (omega (arith, ap length same))
]

-- from one moment on to each later one
later_by : (first : ℕ) (h : Header) (past : ℕ → List ℕ) → IsOf64Bits h → LivesOn h past → (m k n : ℕ) (rounds : List Laid) → n ≡ m + k → Stands first h (past m) rounds → Grows first h (past m) (past n) rounds
later_by first h past fits lives m zero n rounds is it =
    let same : m ≡ n = omega (arith, is) in
    subst (λ j. Grows first h (past m) (past j) rounds) same (grows_none first h (past m) (past m) rounds it (omega arith))
later_by first h past fits lives m (suc k) n rounds is it =
    let old = later_by first h past fits lives m k (m + k) rounds refl it in
    let new = stepped first h (past (m + k)) (past (m + k + 1)) (rounds ++ old.0) fits old.1 (lives (m + k)) in
    let same : m + k + 1 ≡ n = omega (arith, is) in
    subst (λ j. Grows first h (past m) (past j) rounds) same
    (old.0 ++ new.0, subst (λ (l : List Laid). Stands first h (past (m + k + 1)) l) (append_assoc rounds old.0 new.0) new.1, omega (arith, old.2, new.2))

later : (first : ℕ) (h : Header) (past : ℕ → List ℕ) → IsOf64Bits h → LivesOn h past → (m n : ℕ) (rounds : List Laid) → m ≤ n → Stands first h (past m) rounds → Grows first h (past m) (past n) rounds
later first h past fits lives m n rounds le it = later_by first h past fits lives m (n - m) n rounds (omega (arith, le)) it

up_by : (times : ℕ → ℕ) → ((i : ℕ) → times i ≤ times (i + 1)) → (i k j : ℕ) → j ≡ i + k → times i ≤ times j
up_by times onward i zero j is = let same : i ≡ j = omega (arith, is) in subst (λ k. times i ≤ times k) same (omega arith)
up_by times onward i (suc k) j is =
    let same : i + k + 1 ≡ j = omega (arith, is) in
    subst (λ n. times i ≤ times n) same (omega (arith, up_by times onward i k (i + k) refl, onward (i + k)))

-- what stands at the gate behind some of the rounds
at_gate : (first : ℕ) (h : Header) (file : List ℕ) (qs more : List Laid) (it : Stands first h file (qs ++ more))
    → file ≡ journal_front first h qs ++ (rounds_text h.key (gate_behind h qs) more ++ (shut_word ++ it.behind))
at_gate first h file qs more it = it.split ∙ front_two first h qs more (shut_word ++ it.behind) (all_parts IsOpen qs more it.gates).0

at_round : (first : ℕ) (h : Header) (file : List ℕ) (qs : List Laid) (q : Laid) (more : List Laid) (it : Stands first h file (qs ++ q ∷ more))
    → file ≡ journal_front first h qs ++ (q.0 ++ (round_text h.key (gate_behind h qs) (records_text q.1) ++ (rounds_text h.key (gate_behind h qs + size_of q) more ++ (shut_word ++ it.behind))))
at_round first h file qs q more it = at_gate first h file qs (q ∷ more) it ∙ ap (λ (l : List ℕ). journal_front first h qs ++ l) (first_apart h.key (gate_behind h qs) q more (shut_word ++ it.behind))

long_gate : (first : ℕ) (h : Header) (file : List ℕ) (qs more : List Laid) → Stands first h file (qs ++ more) → gate_behind h qs + 8 ≤ length file
long_gate first h file qs more it =
    let others = rounds_text h.key (gate_behind h qs) more in
    omega (
      arith,
      ap length (at_gate first h file qs more it),
      length-append (journal_front first h qs) (others ++ (shut_word ++ it.behind)),
      length-append others (shut_word ++ it.behind),
      front_len first h qs,
    )

long_round : (first : ℕ) (h : Header) (file : List ℕ) (qs : List Laid) (q : Laid) (more : List Laid) → Stands first h file (qs ++ q ∷ more) → length q.0 ≡ 8 → gate_behind h qs + size_of q ≤ length file
long_round first h file qs q more it word =
    let text = round_text h.key (gate_behind h qs) (records_text q.1) in
    let others = rounds_text h.key (gate_behind h qs + size_of q) more ++ (shut_word ++ it.behind) in
    omega (
      arith,
      word,
      ap length (at_round first h file qs q more it),
      length-append (journal_front first h qs) (q.0 ++ (text ++ others)),
      length-append q.0 (text ++ others),
      length-append text others,
      round_len h.key (gate_behind h qs) (records_text q.1),
      front_len first h qs,
    )

-- ---- the copy

-- Up to this gate the copy has rounds whose records are those of the first rounds of the file, which has them at the moment at which the gate is read.
record At (first : ℕ) (h : Header) (past : ℕ → List ℕ) (times : ℕ → ℕ) (copy : List ℕ) (place : ℕ) : Type 0 where
  rs : List Laid
  qs : List Laid
  more : List Laid
  tail : List ℕ
  rs_place : place ≡ gate_behind h rs
  qs_place : place ≡ gate_behind h qs
  split : copy ≡ journal_front first h rs ++ tail
  gates : AllByRecursion IsOpen rs
  same : records_in rs ≡ records_in qs
  file : Stands first h (past (times place)) (qs ++ more)

module _ (first : ℕ) (h : Header) (past : ℕ → List ℕ) (times : ℕ → ℕ) (copy : List ℕ) (made : first ≢ 0) (fits : IsOf64Bits h) (lives : LivesOn h past) (taken : IsCopy past times copy) where
  on : (i j : ℕ) (rounds : List Laid) → i ≤ j → Stands first h (past (times i)) rounds → Grows first h (past (times i)) (past (times j)) rounds
  on i j rounds le it = later first h past fits lives (times i) (times j) rounds (up_by times taken.onward i (j - i) j (omega (arith, le))) it

  -- the round at a gate stays
  round_on : (i j : ℕ) (qs : List Laid) (q : Laid) (more : List Laid) → i ≤ j → Stands first h (past (times i)) (qs ++ q ∷ more) → (more' : List Laid) × Stands first h (past (times j)) (qs ++ q ∷ more')
  round_on i j qs q more le it =
      let grown = on i j (qs ++ q ∷ more) le it in
      (more ++ grown.0, subst (λ (l : List Laid). Stands first h (past (times j)) l) (append_assoc qs (q ∷ more) grown.0) grown.1)

  round_there : (i j : ℕ) (qs : List Laid) (q : Laid) (more : List Laid) → i ≤ j → Stands first h (past (times i)) (qs ++ q ∷ more)
      → (rest : List ℕ) × (past (times j) ≡ journal_front first h qs ++ (q.0 ++ (round_text h.key (gate_behind h qs) (records_text q.1) ++ rest)))
  round_there i j qs q more le it =
      let there = round_on i j qs q more le it in
      (rounds_text h.key (gate_behind h qs + size_of q) there.0 ++ (shut_word ++ there.1.behind), at_round first h (past (times j)) qs q there.0 there.1)

  -- the copy ends no sooner than the file
  enough : (i : ℕ) (rounds : List Laid) → i ≤ length copy → Stands first h (past (times i)) rounds → length (past (times i)) ≤ length copy
  enough i rounds le it = let grown = on i (length copy) rounds le it in omega (arith, grown.2, taken.ends)

  -- what stands in the file at each moment at which a byte of it is taken stands in the copy
  piece : (done tail front part : List ℕ) → copy ≡ done ++ tail → length done ≡ length front → length front + length part ≤ length copy
      → ((j : ℕ) → j < length part → (rest : List ℕ) × (past (times (length front + j)) ≡ front ++ (part ++ rest))) → tail ≡ part ++ drop (length part) tail
  piece done tail front part split same long stands =
      let all : length copy ≡ length done + length tail = ap length split ∙ length-append done tail in
      begins tail part (omega (arith, all, same, long)) λ j low.
      let at = length front + j in
      let there = stands j low in
      let own : slice_index copy at ≡ slice_index tail j = ap (λ (l : List ℕ). slice_index l at) split ∙ ap (λ n. slice_index (done ++ tail) (n + j)) (sym same) ∙ get_or-append-add done tail j 0 in
      sym own ∙ taken.bytes at (omega (arith, low, long)) ∙ byte_at (past (times at)) front part there.0 j there.1 low

  fronts_len : (place : ℕ) (rs qs : List Laid) → place ≡ gate_behind h rs → place ≡ gate_behind h qs → length (journal_front first h rs) ≡ length (journal_front first h qs)
  fronts_len place rs qs rs_place qs_place = front_len first h rs ∙ sym rs_place ∙ qs_place ∙ sym (front_len first h qs)

  gate_within : (place : ℕ) (it : At first h past times copy place) → place + 8 ≤ length copy
  gate_within place it =
      let here : place ≤ length copy = omega (arith, ap length it.split, length-append (journal_front first h it.rs) it.tail, front_len first h it.rs, it.rs_place) in
      omega (arith, enough place (it.qs ++ it.more) here it.file, long_gate first h (past (times place)) it.qs it.more it.file, it.qs_place)

  -- where the copy's gate is shut, the file's is at the moment at which it is read
  shut_there : (place : ℕ) (rs qs more : List Laid) (tail : List ℕ) → place ≡ gate_behind h rs → place ≡ gate_behind h qs → copy ≡ journal_front first h rs ++ tail → place + 8 ≤ length copy
      → Stands first h (past (times place)) (qs ++ more) → take 8 tail ≡ shut_word → Stands first h (past (times place)) qs
  shut_there place rs qs [] tail rs_place qs_place split long it still = subst (λ (l : List Laid). Stands first h (past (times place)) l) (append-nil qs) it
  shut_there place rs qs (q ∷ more) tail rs_place qs_place split long it still =
      let q_open = (all_parts IsOpen qs (q ∷ more) it.gates).1.0 in
      let len = front_len first h qs in
      let stands : (j : ℕ) → j < length q.0 → (rest : List ℕ) × (past (times (length (journal_front first h qs) + j)) ≡ journal_front first h qs ++ (q.0 ++ rest)) = λ j low.
      let there = round_there place (length (journal_front first h qs) + j) qs q more (omega (arith, len, qs_place)) it in
      (round_text h.key (gate_behind h qs) (records_text q.1) ++ there.0, there.1) in
      let word = piece (journal_front first h rs) tail (journal_front first h qs) q.0 split (fronts_len place rs qs rs_place qs_place) (omega (arith, len, qs_place, long, q_open.word)) stands in
      absurd (q_open.other (sym (take_at q.0 (drop (length q.0) tail) 8 q_open.word) ∙ ap (λ (l : List ℕ). take 8 l) (sym word) ∙ still))

  -- the copy's gate is shut: it is whole
  ended : (place : ℕ) (it : At first h past times copy place) → take 8 it.tail ≡ shut_word → IsOfOneMoment h past times copy
  ended place it still =
      let there = shut_there place it.rs it.qs it.more it.tail it.rs_place it.qs_place it.split (gate_within place it) it.file still in
      let tail_is : it.tail ≡ shut_word ++ drop 8 it.tail = sym (take-append-drop 8 it.tail) ∙ ap (λ (l : List ℕ). l ++ drop 8 it.tail) still in
      let file_lies : Lies h (past (times place)) it.qs = record { first = first; behind = there.behind; made = made; fits = fits; split = there.split; gates = there.gates } in (
        it.rs,
        it.qs,
        record { first = first; behind = drop 8 it.tail; made = made; fits = fits; split = it.split ∙ ap (λ (l : List ℕ). journal_front first h it.rs ++ l) tail_is; gates = it.gates },
        subst (λ n. Lies h (past (times n)) it.qs) it.rs_place file_lies,
        it.same,
      )

  -- where the file's gate is still shut once the copy's is read, it was so all the while
  shut_between : (place i : ℕ) (qs more : List Laid) → place ≤ i → i ≤ place + 8 → Stands first h (past (times place)) (qs ++ more) → Stands first h (past (times (place + 8))) qs → Stands first h (past (times i)) qs
  shut_between place i qs more from to it end =
      let a = on place i (qs ++ more) from it in
      let all = (qs ++ more) ++ a.0 in
      let b = on i (place + 8) all to a.1 in
      let one = front_one first first h h (all ++ b.0) qs b.1.behind end.behind fits fits b.1.gates end.gates (sym b.1.split ∙ end.split) in
      let none : b.0 ≡ [] = nil_from_length b.0 (omega (arith, ap (λ (l : List Laid). length l) one.2, length-append all b.0, length-append (qs ++ more) a.0, length-append qs more)) in
      subst (λ (l : List Laid). Stands first h (past (times i)) l) (sym (append-nil all) ∙ ap (λ (l : List Laid). all ++ l) (sym none) ∙ one.2) a.1

  -- the copy's gate is open: so is the file's, once it is read, and the copy has the round behind it
  next : (place : ℕ) (it : At first h past times copy place) → take 8 it.tail ≢ shut_word → (after : List Laid) → Stands first h (past (times (place + 8))) (it.qs ++ after)
      → (place' : ℕ) × (place + 24 ≤ place') × At first h past times copy place'
  next place it other [] end =
      let len = front_len first h it.qs in
      let at_end = subst (λ (l : List Laid). Stands first h (past (times (place + 8))) l) (append-nil it.qs) end in
      let stands : (j : ℕ) → j < 8 → (rest : List ℕ) × (past (times (length (journal_front first h it.qs) + j)) ≡ journal_front first h it.qs ++ (shut_word ++ rest)) = λ j low.
      let there = shut_between place (length (journal_front first h it.qs) + j) it.qs it.more (omega (arith, len, it.qs_place)) (omega (arith, len, it.qs_place, low)) it.file at_end in
      (there.behind, there.split) in
      let word = piece (journal_front first h it.rs) it.tail (journal_front first h it.qs) shut_word it.split (fronts_len place it.rs it.qs it.rs_place it.qs_place) (omega (arith, len, it.qs_place, gate_within place it)) stands in
      absurd (other (ap (λ (l : List ℕ). take 8 l) word))
  next place it other (q ∷ after) end =
      let q_open = (all_parts IsOpen it.qs (q ∷ after) end.gates).1.0 in
      let within = gate_within place it in
      let front = journal_front first h it.qs in
      let len = front_len first h it.qs in
      let word = take 8 it.tail in
      let tail = drop 8 it.tail in
      let word_len : length word ≡ 8 =
      length-take-le 8 it.tail (omega (arith, within, ap length it.split, length-append (journal_front first h it.rs) it.tail, front_len first h it.rs, it.rs_place)) in
      let text = round_text h.key (gate_behind h it.qs) (records_text q.1) in
      let done = journal_front first h it.rs ++ word in
      let split : copy ≡ done ++ tail = it.split ∙ ap (λ (l : List ℕ). journal_front first h it.rs ++ l) (sym (take-append-drop 8 it.tail)) ∙ sym (append_assoc (journal_front first h it.rs) word tail) in
      let opened_len : length (front ++ q.0) ≡ place + 8 = omega (arith, length-append front q.0, len, it.qs_place, q_open.word) in
      let done_len : length done ≡ length (front ++ q.0) =
      omega (arith, opened_len, length-append (journal_front first h it.rs) word, word_len, front_len first h it.rs, it.rs_place) in
      let room : length (front ++ q.0) + length text ≤ length copy =
      omega (
        arith,
        opened_len,
        enough (place + 8) (it.qs ++ q ∷ after) within end,
        long_round first h (past (times (place + 8))) it.qs q after end q_open.word,
        round_len h.key (gate_behind h it.qs) (records_text q.1),
        it.qs_place,
      ) in
      let stands : (j : ℕ) → j < length text → (rest : List ℕ) × (past (times (length (front ++ q.0) + j)) ≡ (front ++ q.0) ++ (text ++ rest)) = λ j low.
      let there = round_there (place + 8) (length (front ++ q.0) + j) it.qs q after (omega (arith, opened_len)) end in
      (there.0, behind_both (past (times (length (front ++ q.0) + j))) front q.0 (text ++ there.0) there.1) in
      let round = piece done tail (front ++ q.0) text split done_len room stands in
      let rest = drop (length text) tail in
      let r : Laid = (word, q.1) in
      let r_open : IsOpen r = record { word = word_len; other = other; some = q_open.some; short = q_open.short } in
      let places : gate_behind h it.qs ≡ gate_behind h it.rs = sym it.qs_place ∙ it.rs_place in
      let copied : copy ≡ journal_front first h it.rs ++ (word ++ (round_text h.key (gate_behind h it.rs) (records_text q.1) ++ rest)) =
      split ∙ append_assoc (journal_front first h it.rs) word tail ∙ ap (λ (l : List ℕ). journal_front first h it.rs ++ (word ++ l)) (round ∙ ap (λ n. round_text h.key n (records_text q.1) ++ rest) places) in
      let place' = place + size_of q in
      let there = round_on (place + 8) place' it.qs q after (omega arith) end in (
        place',
        omega arith,
        record {
          rs = it.rs ++ r ∷ [];
          qs = it.qs ++ q ∷ [];
          more = there.0;
          tail = rest;
          rs_place = omega (arith, it.rs_place, rounds_size h.key 56 it.rs r it.gates word_len);
          qs_place = omega (arith, it.qs_place, rounds_size h.key 56 it.qs q (all_parts IsOpen it.qs (q ∷ after) end.gates).0 q_open.word);
          split = copied ∙ sym (front_more first h it.rs r rest it.gates);
          gates = all_two IsOpen it.rs (r ∷ []) it.gates (r_open, tt);
          same = records_in_more it.rs r ∙ ap (λ (l : List (List ℕ)). l ++ q.1) it.same ∙ sym (records_in_more it.qs q);
          file = subst (λ (l : List Laid). Stands first h (past (times place')) l) (sym (append_assoc it.qs (q ∷ []) there.0)) there.1;
        },
      )

  one_gate : (place : ℕ) → At first h past times copy place → IsOfOneMoment h past times copy ⊎ ((place' : ℕ) × (place + 24 ≤ place') × At first h past times copy place')
  one_gate place it = elim (shut_or_not (take 8 it.tail)) [
    | inl still ↦ inl (ended place it still)
    | inr other ↦
        let grown = on place (place + 8) (it.qs ++ it.more) (omega arith) it.file in
        inr (next place it other (it.more ++ grown.0) (subst (λ (l : List Laid). Stands first h (past (times (place + 8))) l) (append_assoc it.qs it.more grown.0) grown.1))
  ]

  each_gate : (left place : ℕ) → length copy ≤ place + left → At first h past times copy place → IsOfOneMoment h past times copy
  each_gate zero place few it = absurd (omega (arith, few, gate_within place it))
  each_gate (suc left) place few it = elim (one_gate place it) [
    | inl whole ↦ whole
    | inr more ↦ each_gate left more.0 (omega (arith, few, more.1)) more.2
  ]

  -- the first gate
  first_gate : 56 ≡ gate_behind h []
  unfolding rounds_text
  first_gate = refl

  begins_at : (rounds : List Laid) → Stands first h (past 0) rounds → At first h past times copy 56
  begins_at rounds it =
      let header = journal_front first h [] in
      let len : length header ≡ 56 = front_len first h [] ∙ sym first_gate in
      let begun = later first h past fits lives 0 (times 0) rounds (omega arith) it in
      let all = rounds ++ begun.0 in
      let room : 0 + length header ≤ length copy = omega (arith, enough 0 all (omega arith) begun.1, long_gate first h (past (times 0)) [] all begun.1, first_gate, len) in
      let stands : (j : ℕ) → j < length header → (rest : List ℕ) × (past (times (0 + j)) ≡ [] ++ (header ++ rest)) = λ j low.
      let there = on 0 (0 + j) all (omega arith) begun.1 in
      (rounds_text h.key (gate_behind h []) (all ++ there.0) ++ (shut_word ++ there.1.behind), at_gate first h (past (times (0 + j))) [] (all ++ there.0) there.1) in
      let copied = piece [] copy [] header refl refl room stands in
      let there = on 0 56 all (omega arith) begun.1 in
      record {
        rs = [];
        qs = [];
        more = all ++ there.0;
        tail = drop (length header) copy;
        rs_place = first_gate;
        qs_place = first_gate;
        split = copied;
        gates = tt;
        same = refl;
        file = there.1;
      }

  of_one_moment : (rounds : List Laid) → Stands first h (past 0) rounds → IsOfOneMoment h past times copy
  of_one_moment rounds it = each_gate (length copy) 56 (omega arith) (begins_at rounds it)

pub copies_are_whole : CopiesAreWhole
copies_are_whole h past times copy begun it lives taken =
    of_one_moment it.first h past times copy it.made it.fits lives taken begun (record { behind = it.behind; split = it.split; gates = it.gates })
