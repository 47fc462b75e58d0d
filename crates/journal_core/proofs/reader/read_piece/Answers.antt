use Rattle.std.proofs.Common.{true, false}
use Rattle.journal_core.proofs.Exits.{at_exit, exit_not_ok}
use Rattle.journal_core.proofs.reader.read_piece.Goals as goal

pub returns-in_err-reserve_exact-clause-reads : goal.returns-in_err-reserve_exact-clause-reads
returns-in_err-reserve_exact-clause-reads g c = λ is. absurd (exit_not_ok c.from_residual.result true c.from_residual.ensures.0 is)

pub returns-in_err-reserve_exact-clause-short : goal.returns-in_err-reserve_exact-clause-short
returns-in_err-reserve_exact-clause-short g c = λ is. absurd (exit_not_ok c.from_residual.result false c.from_residual.ensures.0 is)

pub returns-in_err-reserve_exact-clause-honest : goal.returns-in_err-reserve_exact-clause-honest
returns-in_err-reserve_exact-clause-honest g c = λ honest. honest

pub returns-in_err-reserve_exact-clause-looks : goal.returns-in_err-reserve_exact-clause-looks
returns-in_err-reserve_exact-clause-looks g c = g.met.S.Source.looks_not c.args.note.now c.args.source.now

pub returns-in_err-reserve_exact-clause-usable : goal.returns-in_err-reserve_exact-clause-usable
returns-in_err-reserve_exact-clause-usable g c = c.requires.usable

pub returns-in_err-resize-clause-reads : goal.returns-in_err-resize-clause-reads
returns-in_err-resize-clause-reads g c = λ is. absurd (exit_not_ok c.from_residual-in_err-resize.result true c.from_residual-in_err-resize.ensures.0 is)

pub returns-in_err-resize-clause-short : goal.returns-in_err-resize-clause-short
returns-in_err-resize-clause-short g c = λ is. absurd (exit_not_ok c.from_residual-in_err-resize.result false c.from_residual-in_err-resize.ensures.0 is)

pub returns-in_err-resize-clause-honest : goal.returns-in_err-resize-clause-honest
returns-in_err-resize-clause-honest g c = λ honest. honest

pub returns-in_err-resize-clause-looks : goal.returns-in_err-resize-clause-looks
returns-in_err-resize-clause-looks g c = g.met.S.Source.looks_not c.args.note.now c.args.source.now

pub returns-in_err-resize-clause-usable : goal.returns-in_err-resize-clause-usable
returns-in_err-resize-clause-usable g c = c.requires.usable

pub returns-in_err-fill-clause-reads : goal.returns-in_err-fill-clause-reads
returns-in_err-fill-clause-reads g c = λ is. absurd (exit_not_ok c.from_residual-in_err-fill.result true c.from_residual-in_err-fill.ensures.0 is)

pub returns-in_err-fill-clause-short : goal.returns-in_err-fill-clause-short
returns-in_err-fill-clause-short g c = λ is. absurd (exit_not_ok c.from_residual-in_err-fill.result false c.from_residual-in_err-fill.ensures.0 is)

pub returns-in_err-fill-clause-cause : goal.returns-in_err-fill-clause-cause
returns-in_err-fill-clause-cause g c = at_exit c.from_residual-in_err-fill.result _ c.in_err-fill.field-0.0 c.from_residual-in_err-fill.ensures.1 c.in_err-fill.ensures.cause

pub returns-in_err-fill-clause-honest : goal.returns-in_err-fill-clause-honest
returns-in_err-fill-clause-honest g c = c.fill.ensures.honest

pub returns-in_err-fill-clause-looks : goal.returns-in_err-fill-clause-looks
returns-in_err-fill-clause-looks g c = c.fill.ensures.looks

pub returns-in_err-fill-clause-usable : goal.returns-in_err-fill-clause-usable
returns-in_err-fill-clause-usable g c = c.fill.ensures.usable

pub returns-clause-cause : goal.returns-clause-cause
returns-clause-cause g c = tt

pub returns-clause-honest : goal.returns-clause-honest
returns-clause-honest g c = c.fill.ensures.honest

pub returns-clause-looks : goal.returns-clause-looks
returns-clause-looks g c = c.fill.ensures.looks

pub returns-clause-usable : goal.returns-clause-usable
returns-clause-usable g c = c.fill.ensures.usable
