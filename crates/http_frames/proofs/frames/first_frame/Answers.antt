use Rattle.std.proofs.Common.{◌+◌, ◌≤◌, ℕ, List, length, take, length-take, sym, subst, arith, inr}
use Rattle.http_frames.specs.Frames.{IsFrame}
use Rattle.http_frames.proofs.Lines.{no_feed, none_before, first_line, framed, cut}
use Rattle.http_frames.proofs.frames.first_frame.Goals as goal

pub returns-in_default-clause-some : goal.returns-in_default-clause-some
returns-in_default-clause-some c = c.no_line.ensures.some (no_feed c.args.bytes.now c.in_default.ensures)

pub returns-in_default-clause-none : goal.returns-in_default-clause-none
returns-in_default-clause-none c = c.no_line.ensures.none (no_feed c.args.bytes.now c.in_default.ensures)

pub returns-then-more-bytes-clause-none : goal.returns-then-more-bytes-clause-none
returns-then-more-bytes-clause-none c = λ same.
    cut c.of-head.result c.args.bytes.now c.in-Some.end c.more_of-more.result (first_line c.args.bytes.now c.in-Some.end c.if-end-ge-LONGEST_LINE.false c.in-Some.ensures) (sym c.of-head.ensures) c.more_of-more.ensures
    c.if-more-bytes.true

pub returns-clause-some : goal.returns-clause-some
returns-clause-some c =
    let line = first_line c.args.bytes.now c.in-Some.end c.if-end-ge-LONGEST_LINE.false c.in-Some.ensures in
    let within : c.in-Some.end + 1 + c.more_of-more.result ≤ length c.args.bytes.now = omega (arith, c.if-more-bytes.false, c.in-Some.ensures.0.high) in
    let text = take (c.in-Some.end + 1 + c.more_of-more.result) c.args.bytes.now in
    (within, subst (λ (bytes : List ℕ). IsFrame c.of-head.result bytes text) (sym c.given_of.ensures) (framed c.of-head.result c.args.bytes.now c.in-Some.end c.more_of-more.result line (sym c.of-head.ensures) c.more_of-more.ensures within))

pub returns-then-end-ge-LONGEST_LINE-clause-some : goal.returns-then-end-ge-LONGEST_LINE-clause-some
returns-then-end-ge-LONGEST_LINE-clause-some c =
    let long : 4096 ≤ length c.args.bytes.now = omega (arith, c.if-end-ge-LONGEST_LINE.true, c.in-Some.ensures.0.high) in
    (long, inr (none_before c.args.bytes.now c.in-Some.end 4096 c.if-end-ge-LONGEST_LINE.true c.in-Some.ensures, omega (arith, long, length-take 4096 c.args.bytes.now)))
