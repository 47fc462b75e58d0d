use Rattle.std.proofs.Common.{rules, ◌≡◌, ◌∙◌, inr, refl}
use Rattle.journal_core.specs.Format.{records_in}
use Rattle.journal_copies.proofs.Breaking.{broken_there}
use Rattle.journal_copies.proofs.adopting.take_turn.Goals as goal

pub returns-in-Ok-false-clause-ends : goal.returns-in-Ok-false-clause-ends
returns-in-Ok-false-clause-ends g c = λ _ f done it clean.
    let ended = c.next.ensures.ends (search rules) f done it clean in
    (c.next.new.self.header, records_in ended.rounds, inr (ended.rounds, ended.lies, refl))

pub returns-in-Err-Damaged-clause-broken : goal.returns-in-Err-Damaged-clause-broken
returns-in-Err-Damaged-clause-broken g c = λ place is f done it clean.
    let refused = rw c.in-Err-Damaged.field-0-is at c.in-Err-Damaged.ensures.refused in
    let ends = refused tt f done it clean in
    let has = it.1 (c.next.ensures.honest clean) in
    let there = broken_there c.args.reader.now f done _ has ends in
    let told = ends.told in
    let same : place ≡ c.args.reader.now.place = cc in
    (there.0, there.1, same ∙ there.2)
