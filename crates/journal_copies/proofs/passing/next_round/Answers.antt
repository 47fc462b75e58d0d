use Rattle.std.proofs.Common.{rules, ◌≡◌, ◌++◌, ◌∷◌, [], ℕ, List, length, refl, sym, ◌∙◌, ap, subst, append_assoc, arith}
use Rattle.std.proofs.lemmas.Grind.{common_steps}
use Rattle.std.proofs.lemmas.List.{append-nil}
use Rattle.journal_core.specs.Format.{record_text, records_text}
use Rattle.journal_core.specs.JournalReading.{record_of}
use Rattle.journal_core.specs.Resting.{IsBeingRead, IsSettled}
use Rattle.journal_core.proofs.Records.{none_left, records_more}
use Rattle.journal_copies.proofs.passing.next_round.Goals as goal

one_more : (done : List (List ℕ)) (one : List ℕ) → records_text (done ++ one ∷ []) ≡ records_text done ++ record_text one
one_more done one = sym (append-nil (records_text (done ++ one ∷ []))) ∙ records_more done one [] ∙ ap (λ (l : List ℕ). records_text done ++ l) (append-nil (record_text one))

-- none was read of the round
none_more : (text : List ℕ) (more : List (List ℕ)) → length text ≡ 0 → text ≡ records_text more → (done : List (List ℕ)) → done ++ more ≡ done
none_more text more none is done = ap (λ (l : List (List ℕ)). done ++ l) (none_left more (sym (ap length is) ∙ none)) ∙ append-nil done

pub reading-init : goal.reading-init
reading-init g c = record {
  reads = λ done it. ([], c.new-text.ensures.items, subst (λ (l : List (List ℕ)). IsBeingRead g.D.Disk.seen g.D.Disk.is_clean c.args.journal.now c.args.reader.now l) (sym (append-nil done)) it);
  seen = refl;
  crash = λ _ left. left;
  clean = λ clean. clean;
  usable = c.requires.usable;
}

pub returns-then-is_empty-clause-ends : goal.returns-then-is_empty-clause-ends
returns-then-is_empty-clause-ends g c = λ _ done it clean only.
    let had = c.reading.invariant.reads done it in
    let none : length c.reading.text.items ≡ 0 = grind (arith, common_steps) in
    let ends = c.read.ensures.ends (search rules) (done ++ had.0) had.2 clean (λ f left. only f (c.reading.invariant.crash f left) ∙ sym c.reading.invariant.seen) in
    subst (λ (l : List (List ℕ)). IsSettled g.D.Disk.seen g.D.Disk.may_leave g.D.Disk.is_clean c.read.new.self l) (none_more c.reading.text.items had.0 none had.1 done) ends

pub returns-then-is_passed-clause-reads : goal.returns-then-is_passed-clause-reads
returns-then-is_passed-clause-reads g c = λ done it.
    let had = c.reading.invariant.reads done it in
    let one = record_of c.read.new.reader in
    let read = c.read.ensures.reads (search rules) (done ++ had.0) had.2 in (
      had.0 ++ one ∷ [],
      c.in_ok-add_record.ensures ∙ ap (λ (l : List ℕ). l ++ record_text c.record.result.now) had.1 ∙ ap (λ (l : List ℕ). records_text had.0 ++ record_text l) c.record.ensures ∙ sym (one_more had.0 one),
      subst (λ (l : List (List ℕ)). IsBeingRead g.D.Disk.seen g.D.Disk.is_clean c.read.new.self c.read.new.reader l) (append_assoc done had.0 (one ∷ [])) read,
    )

pub reading-preserved : goal.reading-preserved
reading-preserved g c = record {
  reads = λ done it.
      let had = c.reading.invariant.reads done it in
      let one = record_of c.read.new.reader in
      let read = c.read.ensures.reads (search rules) (done ++ had.0) had.2 in (
        had.0 ++ one ∷ [],
        c.in_ok-add_record.ensures ∙ ap (λ (l : List ℕ). l ++ record_text c.record.result.now) had.1 ∙ ap (λ (l : List ℕ). records_text had.0 ++ record_text l) c.record.ensures ∙ sym (one_more had.0 one),
        subst (λ (l : List (List ℕ)). IsBeingRead g.D.Disk.seen g.D.Disk.is_clean c.read.new.self c.read.new.reader l) (append_assoc done had.0 (one ∷ [])) read,
      );
  seen = c.read.ensures.seen ∙ c.reading.invariant.seen;
  crash = λ f left. c.reading.invariant.crash f (c.read.ensures.crash f left);
  clean = λ clean. c.reading.invariant.clean (c.read.ensures.clean clean);
  usable = c.read.ensures.usable;
}
