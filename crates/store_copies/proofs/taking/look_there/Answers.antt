use Rattle.std.proofs.Common.{◌≡◌, ◌<◌, ◌^◌, ◌++◌, ℕ, List, length, sym, ◌∙◌, ap, subst, arith}
use Rattle.std.proofs.lemmas.List.{append-nil}
use Rattle.std.specs.Prelude.{Some}
use Rattle.journal_copies.proofs.Coming.{have_alone}
use Rattle.journal_copies.specs.ReadRounds.{records_of_all}
use Rattle.store_copies.specs.TakenRounds.{HasInFront}
use Rattle.journal_core.proofs.Causes.{some_at}
use Rattle.store_copies.proofs.Passing.{passed}
use Rattle.store_copies.proofs.taking.look_there.Goals as goal

pub returns-in-Some-2-clause-same : goal.returns-in-Some-2-clause-same
returns-in-Some-2-clause-same g c = λ _ records new it have clean.
    let one = have_alone c.args.round.now new have in
    let all : one.0 ≡ records_of_all new = sym (append-nil one.0) ∙ ap (λ (n : List (List (List ℕ))). records_of_all n) (sym one.1) in
    let text = c.in-Some-2.text in
    let short : length text.items < 2 ^ 64 = omega (arith, text.ok.0, text.ok.1, text.small) in
    let reads = some_at _ c.in_ok-text.field-0 text c.in_ok-text.ensures.reads c.in-Some-2.is in
    subst (λ (l : List (List ℕ)). HasInFront g.D.Disk.seen g.D.Disk.may_leave g.D.Disk.is_clean c.next_round.new.journal (Some c.next_round.new.reader) (records ++ l)) all
    (passed g.D.Disk.seen g.D.Disk.may_leave g.D.Disk.is_clean c.args.journal.now c.next_round.new.journal c.args.copy.now c.in-Some.reader c.next_round.new.reader c.args.round.now text.items
    c.in-Some.is (sym c.as_slice.ensures.value ∙ c.is_of.ensures c.if-is_of.true) short reads c.next_round.ensures.seen c.next_round.ensures.crash records one.0 it one.2)
