use Rattle.std.proofs.Common.{◌≤◌, ◌+◌, ℕ, List, drop, subst, arith, below_more}
use Rattle.journal_core.proofs.Pieces.{slice_behind}
use Rattle.journal_copies.specs.WholeRounds.{HasNoRound, HasRound}
use Rattle.journal_copies.proofs.searching.find_round.Goals as goal

pub returns-then-has_round : goal.returns-then-has_round
returns-then-has_round c =
    let at = c.searching.at in
    let bytes = c.args.bytes.now in
    let has = c.has_round.ensures.has c.if-has_round.true in
    (c.searching.auto.at, omega arith, subst (λ (l : List ℕ). (text : List ℕ) × HasRound c.args.key (c.args.base + at) l text) (slice_behind (at + 8) bytes) has, c.searching.invariant)

pub searching-preserved : goal.searching-preserved
searching-preserved c = λ at low lt.
    let here = c.searching.at in
    let bytes = c.args.bytes.now in
    let key = c.args.key in
    let base = c.args.base in
    let none = subst (λ (l : List ℕ). HasNoRound key (base + here) l) (slice_behind (here + 8) bytes) (c.has_round.ensures.none c.if-has_round.false) in
    below_more (λ k. c.args.from ≤ k → HasNoRound key (base + k) (drop (k + 8) bytes)) here (λ k below above. c.searching.invariant k above below) (λ _. none) at lt low

pub returns : goal.returns
returns c = λ at low fits. c.searching.invariant at low (omega arith)
