use Rattle.std.proofs.Common.{rules, true, false, ◌≡◌, ◌+◌, ℕ, List, length, take, drop, sym, ◌∙◌, ap, subst, arith}
use Rattle.journal_core.proofs.Causes.{cause_of}
use Rattle.journal_core.proofs.Exits.{at_exit, exit_not_ok, false_not_true}
use Rattle.journal_core.proofs.Pieces.{more_read}
use Rattle.journal_core.proofs.reader.read_rest.Goals as goal

pub reading-init : goal.reading-init
reading-init g c =
    let none = c.requires.none in (
      omega (arith, ap length none),
      c.requires.usable,
      g.met.S.Source.looks_not c.args.note.now c.args.source.now,
      λ honest. honest,
      λ file at it. (subst (λ n. g.S.Source.is_at c.args.source.now file n) (omega (arith, ap length none)) it, λ honest. none ∙ ap (λ (l : List ℕ). take (length l) (drop at file)) (sym none)),
    )

pub reading-preserved : goal.reading-preserved
reading-preserved g c =
    let inv = c.reading.invariant in
    let r = c.in_ok-read_piece.ensures.reads (search rules) in
    let old = c.reading.round.items in
    let new = c.read_piece.new.round.items in (
      omega (arith, r.1, inv.0),
      c.in_ok-read_piece.ensures.usable,
      g.met.S.Source.looks_on c.args.note.now c.args.source.now c.reading.source c.read_piece.new.source inv.2 c.in_ok-read_piece.ensures.looks,
      λ honest. inv.3 (c.in_ok-read_piece.ensures.honest honest),
      λ file at it.
          let was = inv.4 file at it in
          let more = r.2 file (at + length old) was.0 in (
            subst (λ n. g.S.Source.is_at c.read_piece.new.source file n) (omega (arith, r.0)) more.0,
            λ honest. more_read file at old new (was.1 (c.in_ok-read_piece.ensures.honest honest)) (omega (arith, r.0)) (more.1 honest).1,
          ),
    )

pub returns-in_err-read_piece-clause-reads : goal.returns-in_err-read_piece-clause-reads
returns-in_err-read_piece-clause-reads g c = λ is. absurd (exit_not_ok c.from_residual.result true c.from_residual.ensures.0 is)

pub returns-in_err-read_piece-clause-short : goal.returns-in_err-read_piece-clause-short
returns-in_err-read_piece-clause-short g c = λ is. absurd (exit_not_ok c.from_residual.result false c.from_residual.ensures.0 is)

pub returns-in_err-read_piece-clause-cause : goal.returns-in_err-read_piece-clause-cause
returns-in_err-read_piece-clause-cause g c = at_exit c.from_residual.result _ c.in_err-read_piece.field-0.0 c.from_residual.ensures.1 (
  c.in_err-read_piece.ensures.cause.0,
  c.in_err-read_piece.ensures.cause.1,
  λ file at it.
      cause_of _ _ c.in_err-read_piece.field-0.0 (g.met.S.Source.fails_later c.args.note.now c.args.source.now c.reading.source c.read_piece.new.source c.reading.invariant.2) (c.in_err-read_piece.ensures.cause.2 file (at + length c.reading.round.items) (c.reading.invariant.4 file at it).0),
)

pub returns-in_err-read_piece-clause-honest : goal.returns-in_err-read_piece-clause-honest
returns-in_err-read_piece-clause-honest g c = λ honest. c.reading.invariant.3 (c.read_piece.ensures.honest honest)

pub returns-in_err-read_piece-clause-looks : goal.returns-in_err-read_piece-clause-looks
returns-in_err-read_piece-clause-looks g c = g.met.S.Source.looks_on c.args.note.now c.args.source.now c.reading.source c.read_piece.new.source c.reading.invariant.2 c.read_piece.ensures.looks

pub returns-in_err-read_piece-clause-usable : goal.returns-in_err-read_piece-clause-usable
returns-in_err-read_piece-clause-usable g c = c.read_piece.ensures.usable

pub returns-then-not-branch-clause-reads : goal.returns-then-not-branch-clause-reads
returns-then-not-branch-clause-reads g c = λ is. absurd (false_not_true is)

pub returns-then-not-branch-clause-cause : goal.returns-then-not-branch-clause-cause
returns-then-not-branch-clause-cause g c = tt

pub returns-then-not-branch-clause-honest : goal.returns-then-not-branch-clause-honest
returns-then-not-branch-clause-honest g c = λ honest. c.reading.invariant.3 (c.read_piece.ensures.honest honest)

pub returns-then-not-branch-clause-looks : goal.returns-then-not-branch-clause-looks
returns-then-not-branch-clause-looks g c = g.met.S.Source.looks_on c.args.note.now c.args.source.now c.reading.source c.read_piece.new.source c.reading.invariant.2 c.read_piece.ensures.looks

pub returns-then-not-branch-clause-usable : goal.returns-then-not-branch-clause-usable
returns-then-not-branch-clause-usable g c = c.read_piece.ensures.usable

pub returns-clause-reads : goal.returns-clause-reads
returns-clause-reads g c =
    let old = c.reading.round.items in
    let full : length old ≡ c.args.len = omega (arith, c.reading.invariant.0, c.reading-test.false) in
    λ _. (
      full,
      λ file at it.
          let was = c.reading.invariant.4 file at it in
          (subst (λ n. g.S.Source.is_at c.reading.source file (at + n)) full was.0, λ honest. was.1 honest ∙ ap (λ n. take n (drop at file)) full),
    )

pub returns-clause-short : goal.returns-clause-short
returns-clause-short g c = λ is. absurd (false_not_true (sym is))

pub returns-clause-cause : goal.returns-clause-cause
returns-clause-cause g c = tt

pub returns-clause-honest : goal.returns-clause-honest
returns-clause-honest g c = c.reading.invariant.3

pub returns-clause-looks : goal.returns-clause-looks
returns-clause-looks g c = c.reading.invariant.2

pub returns-clause-usable : goal.returns-clause-usable
returns-clause-usable g c = c.reading.invariant.1
