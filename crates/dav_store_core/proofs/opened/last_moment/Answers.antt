use Rattle.std.proofs.Common.{◌≤◌, arith}
use Rattle.dav_store_core.proofs.MomentLemmas.{goes_back, last_now, ordered_on}
use Rattle.dav_store_core.proofs.opened.last_moment.Goals as goal

pub returns-then-note-last-clause-none : goal.returns-then-note-last-clause-none
returns-then-note-last-clause-none c = λ _.
    goes_back c.args.notes.now c.looking.note-index c.note-item.result c.args.before.0 c.looking.last.0 c.looking-test.true c.note-item.is c.looking.invariant.last c.if-note-last.true

pub looking-preserved : goal.looking-preserved
looking-preserved c =
    let le : c.looking.last.0 ≤ c.note-item.result.request.now.0 = omega (arith, c.if-note-last.false) in
    record {
      ordered = ordered_on c.args.notes.now c.looking.note-index c.note-item.result c.args.before.0 c.looking.last.0 c.looking-test.true c.note-item.is c.looking.invariant.ordered
          c.looking.invariant.last le;
      last = last_now c.args.notes.now c.looking.note-index c.note-item.result c.args.before.0 c.looking-test.true c.note-item.is;
    }
