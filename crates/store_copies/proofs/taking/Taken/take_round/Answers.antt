use Rattle.std.proofs.Common.{rules, ◌++◌, Bool, IsTrue, sym, subst}
use Rattle.std.specs.Prelude.{Option}
use Rattle.journal_core.specs.declared.reader.Reader.{Reader}
use Rattle.journal_copies.specs.ReadRounds.{records_of_all}
use Rattle.store_copies.specs.TakenRounds.{HasInFront}
use Rattle.store_copies.proofs.taking.Taken.take_round.Goals as goal

pub returns-in-None-clause-taken : goal.returns-in-None-clause-taken
returns-in-None-clause-taken g c = λ is.
    let added = c.add_all.ensures.taken is in
    let none = c.look_there.ensures.none (search rules) in (
      added.0,
      added.1,
      added.2,
      added.3,
      λ records new had have clean.
          let settled = none.1 records had (subst (λ (b : Bool). IsTrue b) c.add_all.ensures.clean clean) in
          subst (λ (o : Option Reader). HasInFront g.D.Disk.seen g.D.Disk.may_leave g.D.Disk.is_clean c.add_all.new.journal o (records ++ records_of_all new)) (sym none.0) (added.4 records new settled have),
    )
