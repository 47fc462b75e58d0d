use Rattle.std.proofs.Common.{None, ◌+◌}
use Rattle.std.proofs.lemmas.Result.{IfOk-from_err, err_from_is_err_and}
use Rattle.journal_core.proofs.Exits.{at_exit, exit_not_ok, some_not_none}
use Rattle.journal_core.proofs.Causes.{cause_of, some_at}
use Rattle.journal_core.proofs.reader.read_head.Goals as goal

pub returns-in_err-sum-clause-cause : goal.returns-in_err-sum-clause-cause
returns-in_err-sum-clause-cause g c =
    let p = err_from_is_err_and c.from_residual-in_err-sum.result c.from_residual-in_err-sum.ensures.1 in
    rw (p.1, p.2) (
      c.in_err-sum.ensures.cause.0,
      c.in_err-sum.ensures.cause.1,
      λ file at it.
          cause_of _ _ _ (g.met.S.Source.fails_later c.args.note.now c.args.source.now c.read_word.new.source c.read_word-2.new.source c.in_ok-len.ensures.looks) (c.in_err-sum.ensures.cause.2 file (at + 8) ((some_at _ c.in_ok-len.field-0 c.in-Some.len c.in_ok-len.ensures.reads c.in-Some.is).1 file at it).0),
    )

pub returns-in_err-len-clause-reads : goal.returns-in_err-len-clause-reads
returns-in_err-len-clause-reads g c = IfOk-from_err c.from_residual.result _ c.from_residual.ensures.0

pub returns-in_err-len-clause-none : goal.returns-in_err-len-clause-none
returns-in_err-len-clause-none g c = λ is. absurd (exit_not_ok c.from_residual.result None c.from_residual.ensures.0 is)

pub returns-in_err-len-clause-cause : goal.returns-in_err-len-clause-cause
returns-in_err-len-clause-cause g c = at_exit c.from_residual.result _ c.in_err-len.field-0.0 c.from_residual.ensures.1 c.in_err-len.ensures.cause

pub returns-in_err-len-clause-honest : goal.returns-in_err-len-clause-honest
returns-in_err-len-clause-honest g c = c.read_word.ensures.honest

pub returns-in_err-len-clause-looks : goal.returns-in_err-len-clause-looks
returns-in_err-len-clause-looks g c = c.read_word.ensures.looks

pub returns-in_err-len-clause-usable : goal.returns-in_err-len-clause-usable
returns-in_err-len-clause-usable g c = c.read_word.ensures.usable

pub returns-in_default-clause-reads : goal.returns-in_default-clause-reads
returns-in_default-clause-reads g c = tt

pub returns-in_default-clause-cause : goal.returns-in_default-clause-cause
returns-in_default-clause-cause g c = tt

pub returns-in_default-clause-honest : goal.returns-in_default-clause-honest
returns-in_default-clause-honest g c = c.read_word.ensures.honest

pub returns-in_default-clause-looks : goal.returns-in_default-clause-looks
returns-in_default-clause-looks g c = c.read_word.ensures.looks

pub returns-in_default-clause-usable : goal.returns-in_default-clause-usable
returns-in_default-clause-usable g c = c.read_word.ensures.usable

pub returns-in_err-sum-clause-reads : goal.returns-in_err-sum-clause-reads
returns-in_err-sum-clause-reads g c = IfOk-from_err c.from_residual-in_err-sum.result _ c.from_residual-in_err-sum.ensures.0

pub returns-in_err-sum-clause-none : goal.returns-in_err-sum-clause-none
returns-in_err-sum-clause-none g c = λ is. absurd (exit_not_ok c.from_residual-in_err-sum.result None c.from_residual-in_err-sum.ensures.0 is)

pub returns-in_err-sum-clause-honest : goal.returns-in_err-sum-clause-honest
returns-in_err-sum-clause-honest g c = λ honest. c.read_word.ensures.honest (c.read_word-2.ensures.honest honest)

pub returns-in_err-sum-clause-looks : goal.returns-in_err-sum-clause-looks
returns-in_err-sum-clause-looks g c = g.met.S.Source.looks_on c.args.note.now c.args.source.now c.read_word.new.source c.read_word-2.new.source c.read_word.ensures.looks c.read_word-2.ensures.looks

pub returns-in_err-sum-clause-usable : goal.returns-in_err-sum-clause-usable
returns-in_err-sum-clause-usable g c = c.read_word-2.ensures.usable

pub returns-clause-none : goal.returns-clause-none
returns-clause-none g c = λ is. absurd (some_not_none _ is)

pub returns-clause-cause : goal.returns-clause-cause
returns-clause-cause g c = tt

pub returns-clause-honest : goal.returns-clause-honest
returns-clause-honest g c = λ honest. c.read_word.ensures.honest (c.read_word-2.ensures.honest honest)

pub returns-clause-looks : goal.returns-clause-looks
returns-clause-looks g c = g.met.S.Source.looks_on c.args.note.now c.args.source.now c.read_word.new.source c.read_word-2.new.source c.read_word.ensures.looks c.read_word-2.ensures.looks

pub returns-clause-usable : goal.returns-clause-usable
returns-clause-usable g c = c.read_word-2.ensures.usable
