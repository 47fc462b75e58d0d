-- What a crash leaves in each step of an append.
use Rattle.std.proofs.Common.{◌≡◌, ◌≢◌, ◌⊎◌, inl, inr, ℕ, ◌+◌, Bool, List, [], ◌∷◌, ◌++◌, length, take, drop, refl, sym, ◌∙◌, ap, subst, arith, append_assoc, length-append}
use Rattle.sqlite_disk.specs.Disk.{Holds, Torn, Only}
use Rattle.journal_core.specs.declared.header.Header.{Header}
use Rattle.journal_core.specs.declared.journal.Journal.{Journal}
use Rattle.std.proofs.lemmas.Grind.{flat_map-append}
use Rattle.journal_core.specs.Format.{Laid, IsOpen, Lies, StandsFor, journal_front, open_word, records_in, rounds_text, shut_word}
use Rattle.journal_core.specs.declared.clocked.Clocked.{Clocked}
use Rattle.journal_core.specs.Clocked.{disk_of, GoesAs, MomentsLead}
use Rattle.journal_core.specs.LiveCopies.{ChangesBehind, GoesBySteps, MayStep, OpensGate}
use Rattle.journal_core.specs.SeveralRounds.{AreRoundsBehind}
use Rattle.journal_core.specs.Private.DiskMoments.{goes_weaker}
use Rattle.journal_core.specs.Resting.{IsSettled, KnowsLength, disk_behind}
use Rattle.journal_core.specs.Private.AllLaws.{all_two}
use Rattle.journal_core.specs.Private.Stages.{AllBegin, BeginsWith, ChangesOnce, KeepsBelow, Wrote}
use Rattle.journal_core.proofs.Numbers.{shut_or_not}
use Rattle.journal_core.proofs.Rounds.{front_len, front_two, rounds_two}
use Rattle.journal_core.proofs.Several.{laid, laid_size, laid_text, opened_is_open}
use Rattle.journal_core.proofs.Writes.{over, over_done}

-- from a journal that is at rest
module _ {D B : Type 0} (seen : D → List ℕ) (may_leave : D → List ℕ → Type 0) (is_clean : D → Bool) (j : Journal D B) (records : List (List ℕ)) (it : IsSettled seen may_leave is_clean j records) where
  abbrev before : List ℕ
  before = journal_front it.lies.first j.header it.rounds

  -- up to the gate, and with it
  abbrev pub to_gate : List ℕ
  to_gate = before ++ shut_word

  at_gate : j.at ≡ length before
  at_gate = omega (arith, it.at, front_len it.lies.first j.header it.rounds)

  pub at_behind : length to_gate ≡ j.at + 8
  at_behind = omega (arith, at_gate, length-append before shut_word)

  pub begun : BeginsWith to_gate (seen (disk_behind j))
  begun = (it.lies.behind, it.lies.split ∙ sym (append_assoc before shut_word it.lies.behind))

  pub all_begun : AllBegin to_gate (may_leave (disk_behind j))
  all_begun c left = subst (λ (f : List ℕ). BeginsWith to_gate f) (sym (it.durable c left)) begun

  pub lies_still : (c : List ℕ) → BeginsWith to_gate c → Lies j.header c it.rounds
  lies_still c is = record {
    first = it.lies.first;
    behind = is.0;
    made = it.lies.made;
    fits = it.lies.fits;
    split = is.1 ∙ append_assoc before shut_word is.0;
    gates = it.lies.gates;
  }

  pub stands_still : (c : List ℕ) → BeginsWith to_gate c → StandsFor j.header c records
  stands_still c is = inr (it.rounds, lies_still c is, it.same)

  -- what is written behind the gate makes steps
  step_behind : (a b : List ℕ) → BeginsWith to_gate a → KeepsBelow (j.at + 8) a b → MayStep j.header a b × BeginsWith to_gate b
  step_behind a b begins keeps =
      let after = keeps.begins to_gate (omega (arith, at_behind)) begins in
      let change : ChangesBehind j.header a b = record {
        first = it.lies.first;
        rounds = it.rounds;
        old = begins.0;
        new = after.0;
        keeps = record {
          made = it.lies.made;
          fits = it.lies.fits;
          gates = it.lies.gates;
          before = begins.1 ∙ append_assoc before shut_word begins.0;
          after = after.1 ∙ append_assoc before shut_word after.0;
        };
        longer = omega (arith, keeps.longer, ap length begins.1, ap length after.1, length-append to_gate begins.0, length-append to_gate after.0);
      } in
      (inl (inl change), after)

  steps_behind : {B' : Type 0} (file end : List ℕ) (more : List (D × B')) → BeginsWith to_gate file → MomentsLead (KeepsBelow (j.at + 8)) seen file more end → MomentsLead (MayStep j.header) seen file more end
  steps_behind file end [] begins it = it
  steps_behind file end (m ∷ more) begins it = let step = step_behind file (seen m.0) begins it.0 in (step.0, steps_behind (seen m.0) end more step.1 it.1)

  pub goes_behind : {B' : Type 0} (old new : Clocked D B') → seen (disk_of old) ≡ seen (disk_behind j) → GoesAs (KeepsBelow (j.at + 8)) seen old new → GoesBySteps seen j.header old new
  goes_behind old new same it = (it.0, it.1, steps_behind (seen (disk_of old)) (seen (disk_of new)) it.0 (subst (λ (f : List ℕ). BeginsWith to_gate f) (sym same) begun) it.2)

  -- nothing was written before its end
  pub rests : (k : Journal D B) → BeginsWith to_gate (seen (disk_behind k)) → Only (seen (disk_behind k)) (may_leave (disk_behind k)) → k.header ≡ j.header → k.at ≡ j.at → KnowsLength seen is_clean k → IsSettled seen may_leave is_clean k records
  rests k begins only header at knows = record {
    rounds = it.rounds;
    lies = subst (λ (h : Header). Lies h (seen (disk_behind k)) it.rounds) (sym header) (lies_still (seen (disk_behind k)) begins);
    same = it.same;
    at = subst (λ (h : Header). k.at ≡ 56 + length (rounds_text h.key 56 it.rounds)) (sym header) (at ∙ it.at);
    durable = only;
    knows = knows;
  }

  -- what is seen once the rounds stand behind the gate
  module _ (new : List (List ℕ)) (text : List ℕ) (are : AreRoundsBehind j.header.key j.at text new) where
    abbrev with_word : List ℕ → List ℕ → List ℕ
    with_word word more = before ++ (word ++ (text ++ (shut_word ++ more)))

    abbrev pub Staged : List ℕ → Type 0
    Staged mid = BeginsWith (to_gate ++ (text ++ shut_word)) mid

    staged_is : (mid : List ℕ) → (staged : Staged mid) → mid ≡ with_word shut_word staged.0
    staged_is mid staged =
        staged.1 ∙ append_assoc to_gate (text ++ shut_word) staged.0
        ∙ append_assoc before shut_word ((text ++ shut_word) ++ staged.0)
        ∙ ap (λ (l : List ℕ). before ++ (shut_word ++ l)) (append_assoc text shut_word staged.0)

    gate_torn : (mid c : List ℕ) (staged : Staged mid) → Torn j.at 8 mid c → Torn (length before) 8 (with_word shut_word staged.0) c
    gate_torn mid c staged torn = subst (λ k. Torn k 8 (with_word shut_word staged.0) c) at_gate (subst (λ (f : List ℕ). Torn j.at 8 f c) (staged_is mid staged) torn)

    abbrev rounds_with : List ℕ → List Laid
    rounds_with word = it.rounds ++ laid j.header.key j.at text new are word

    with_rounds : (more word c : List ℕ) → length word ≡ 8 → word ≢ shut_word → c ≡ with_word word more → Lies j.header c (rounds_with word)
    with_rounds more word c len other is =
        let rs = laid j.header.key j.at text new are word in
        record {
          first = it.lies.first;
          behind = more;
          made = it.lies.made;
          fits = it.lies.fits;
          split = is ∙ ap (λ (l : List ℕ). before ++ l) (laid_text j.header.key j.at text new are word (shut_word ++ more))
              ∙ ap (λ n. before ++ (rounds_text j.header.key n rs ++ (shut_word ++ more))) it.at
              ∙ sym (front_two it.lies.first j.header it.rounds rs (shut_word ++ more) it.lies.gates);
          gates = all_two IsOpen it.rounds rs it.lies.gates (record { word = len; other = other; some = are.first.some; short = are.first.short }, are.others);
        }

    with_records : (word : List ℕ) → records_in (rounds_with word) ≡ records ++ new
    with_records word = flat_map-append (λ (q : Laid). q.1) it.rounds (laid j.header.key j.at text new are word) ∙ λ i. it.same i ++ are.all i

    -- whatever stands at the gate
    pub gate_crash : (mid : List ℕ) (outcomes : List ℕ → Type 0) → Staged mid → Only mid outcomes → (c : List ℕ) → Wrote j.at 8 outcomes c → StandsFor j.header c records ⊎ StandsFor j.header c (records ++ new)
    gate_crash mid outcomes staged only c from =
        let behind = text ++ (shut_word ++ staged.0) in
        let torn = gate_torn mid c staged (subst (λ (f : List ℕ). Torn j.at 8 f c) (only from.0 from.1) from.2) in
        let word = take 8 (drop (length before) c) in
        let both : (length word ≡ 8) × (c ≡ before ++ (word ++ behind)) = over before shut_word behind c torn in
        elim (shut_or_not word) [
          | inl still ↦ inl (stands_still c (behind, both.1 ∙ ap (λ (w : List ℕ). before ++ (w ++ behind)) still ∙ sym (append_assoc before shut_word behind)))
          | inr other ↦ inr (inr (rounds_with word, with_rounds staged.0 word c both.0 other both.1, with_records word))
        ]

    -- the gate is open
    opened_is : (mid c : List ℕ) (staged : Staged mid) → Torn j.at 8 mid c → Holds c j.at open_word → c ≡ with_word open_word staged.0
    opened_is mid c staged torn holds =
        over_done before shut_word (text ++ (shut_word ++ staged.0)) open_word c refl (gate_torn mid c staged torn) (subst (λ k. Holds c k open_word) at_gate holds)

    -- which is a step
    gate_step : (mid c : List ℕ) → Staged mid → Torn j.at 8 mid c → Holds c j.at open_word → OpensGate j.header mid c
    gate_step mid c staged torn holds = record {
      first = it.lies.first;
      rounds = it.rounds;
      text = text;
      records = new;
      behind = staged.0;
      whole = subst (λ n. AreRoundsBehind j.header.key n text new) it.at are;
      keeps = record {
        made = it.lies.made;
        fits = it.lies.fits;
        gates = it.lies.gates;
        before = staged_is mid staged;
        after = opened_is mid c staged torn holds;
      };
    }

    pub gate_goes : {B' : Type 0} (old new' : Clocked D B') → Staged (seen (disk_of old)) → Torn j.at 8 (seen (disk_of old)) (seen (disk_of new')) → Holds (seen (disk_of new')) j.at open_word
        → GoesAs (ChangesOnce (seen (disk_of old)) (seen (disk_of new'))) seen old new' → GoesBySteps seen j.header old new'
    gate_goes old new' staged torn holds goes =
        let mid = seen (disk_of old) in
        let c = seen (disk_of new') in
        let step = gate_step mid c staged torn holds in
        goes_weaker (ChangesOnce mid c) seen (MayStep j.header) (λ a b once. elim once [
          | inl both ↦ inl (inr (subst (λ (f : List ℕ). OpensGate j.header f b) (sym both.0) (subst (λ (f : List ℕ). OpensGate j.header mid f) (sym both.1) step)))
          | inr same ↦ inr same
        ]) old new' goes

    pub gate_len : (mid c : List ℕ) → Staged mid → Torn j.at 8 mid c → length c ≡ length mid
    gate_len mid c staged torn =
        let len : length mid ≡ length (to_gate ++ (text ++ shut_word)) + length staged.0 = ap length staged.1 ∙ length-append (to_gate ++ (text ++ shut_word)) staged.0 in
        omega (arith, len, length-append to_gate (text ++ shut_word), at_behind, torn.no_shorter, torn.no_longer)

    -- where the gate is behind them
    end_is : j.at + (8 + length text) ≡ 56 + length (rounds_text j.header.key 56 (rounds_with open_word))
    end_is =
        let key = j.header.key in
        let rs = laid key j.at text new are open_word in
        let place = 56 + length (rounds_text key 56 it.rounds) in
        let moved : length (rounds_text key place rs) ≡ 8 + length text = ap (λ n. length (rounds_text key n rs)) (sym it.at) ∙ laid_size key j.at text new are open_word refl in
        omega (
          arith,
          it.at,
          moved,
          ap length (rounds_two key 56 it.rounds rs [] it.lies.gates),
          length-append (rounds_text key 56 (it.rounds ++ rs)) [],
          length-append (rounds_text key 56 it.rounds) (rounds_text key place rs ++ []),
          length-append (rounds_text key place rs) [],
        )

    -- and all of it is on the disk
    pub added : (j' : Journal D B) (mid : List ℕ) → Staged mid → Torn j.at 8 mid (seen (disk_behind j')) → Holds (seen (disk_behind j')) j.at open_word → Only (seen (disk_behind j')) (may_leave (disk_behind j'))
        → j'.header ≡ j.header → j'.at ≡ j.at + (8 + length text) → KnowsLength seen is_clean j' → IsSettled seen may_leave is_clean j' (records ++ new)
    added j' mid staged torn holds only header at knows = record {
      rounds = rounds_with open_word;
      lies = subst (λ (h : Header). Lies h (seen (disk_behind j')) (rounds_with open_word)) (sym header) (with_rounds staged.0 open_word (seen (disk_behind j')) refl opened_is_open (opened_is mid (seen (disk_behind j')) staged torn holds));
      same = with_records open_word;
      at = subst (λ (h : Header). j'.at ≡ 56 + length (rounds_text h.key 56 (rounds_with open_word))) (sym header) (at ∙ end_is);
      durable = only;
      knows = knows;
    }
