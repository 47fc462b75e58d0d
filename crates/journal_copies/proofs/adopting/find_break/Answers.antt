use Rattle.std.proofs.Common.{rules, inl, refl, [], ◌≡◌, ◌∙◌, sym, ap, subst, Ok}
use Rattle.journal_core.specs.declared.header.Header.{Header}
use Rattle.journal_core.specs.LiveCopies.{gate_behind}
use Rattle.journal_copies.specs.declared.adopting.Turn.TheVariants.{More}
use Rattle.journal_copies.specs.Broken.{IsBroken}
use Rattle.journal_copies.specs.DiskLooks.{disk_in}
use Rattle.journal_copies.specs.DiskLookLaws.{looks_on}
use Rattle.journal_copies.proofs.adopting.find_break.Goals as goal

pub returns-in_default-clause-whole : goal.returns-in_default-clause-whole
returns-in_default-clause-whole g c = λ _ front clean. (record { generation = 0; key = 0; began = 0 }, [], inl (c.in_ok-reader.ensures.new (search rules) _ front clean, refl))

pub returns-in_err-take_turn-clause-looks : goal.returns-in_err-take_turn-clause-looks
returns-in_err-take_turn-clause-looks g c = looks_on g.D.Disk.seen g.D.Disk.may_leave g.D.Disk.is_clean g.D.Disk.faults c.args.note.now c.args.file.now c.reading.file c.take_turn.new.file c.reading.invariant.1 c.take_turn.ensures.looks

pub returns-in-End-clause-looks : goal.returns-in-End-clause-looks
returns-in-End-clause-looks g c = looks_on g.D.Disk.seen g.D.Disk.may_leave g.D.Disk.is_clean g.D.Disk.faults c.args.note.now c.args.file.now c.reading.file c.take_turn.new.file c.reading.invariant.1 c.take_turn.ensures.looks

pub returns-in-Broken-clause-looks : goal.returns-in-Broken-clause-looks
returns-in-Broken-clause-looks g c = looks_on g.D.Disk.seen g.D.Disk.may_leave g.D.Disk.is_clean g.D.Disk.faults c.args.note.now c.args.file.now c.reading.file c.take_turn.new.file c.reading.invariant.1 c.take_turn.ensures.looks

pub returns-in-Broken-clause-broken : goal.returns-in-Broken-clause-broken
returns-in-Broken-clause-broken g c = λ front clean.
    let had = c.reading.invariant.2 front in
    let file = g.D.Disk.seen (disk_in c.args.file.now) in
    let told = c.in_ok-take_turn.ensures.broken c.in-Broken.place c.in-Broken.is file had.0 had.1 clean in
    let same : c.header.result ≡ c.reading.reader.header = c.header.ensures ∙ c.take_turn.ensures.header in
    (told.0, subst (λ (h : Header). IsBroken h file told.0) (sym same) told.1, told.2 ∙ ap (λ (h : Header). gate_behind h told.0) (sym same))

pub reading-preserved : goal.reading-preserved
reading-preserved g c = (
  c.take_turn.ensures.usable,
  looks_on g.D.Disk.seen g.D.Disk.may_leave g.D.Disk.is_clean g.D.Disk.faults c.args.note.now c.args.file.now c.reading.file c.take_turn.new.file c.reading.invariant.1 c.take_turn.ensures.looks,
  λ front.
      let had = c.reading.invariant.2 front in
      let turn : c.take_turn.result ≡ Ok More = c.in_ok-take_turn.was ∙ ap Ok c.in-More.is in
      c.take_turn.ensures.on turn (g.D.Disk.seen (disk_in c.args.file.now)) had.0 had.1,
)
