use Rattle.std.proofs.Common.{Bool, Ok, sym, ap, ◌∙◌}
use Rattle.http_frames.specs.ConnectionEvents.{Closed}
use Rattle.http_frames.specs.Frames.{bytes_at_hand, unread}
use Rattle.http_frames.proofs.Ends.{cut_end, whole_end}
use Rattle.http_frames.proofs.Moments.{one, same_line, still}
use Rattle.http_frames.proofs.serving.read_on.Goals as goal

pub returns-then-branch-clause-ok : goal.returns-then-branch-clause-ok
returns-then-branch-clause-ok g c = λ part. (
  still c.args.clients.now c.begin_round.new.self c.begin_round.ensures.stays (same_line c.args.clients.now c.begin_round.new.self c.begin_round.ensures.queue) c.begin_round.ensures.settings.config c.begin_round.ensures.settings.window,
  c.in_ok-read.ensures.keeps,
)

pub returns-then-is_empty-clause-ok : goal.returns-then-is_empty-clause-ok
returns-then-is_empty-clause-ok g c = λ part.
    let end = c.in_ok-read.ensures.end (ap (λ (b : Bool). Ok b) c.if-branch.false) in (
      one c.args.clients.now c.close.new.self Closed c.close.ensures.closes (same_line c.args.clients.now c.close.new.self c.close.ensures.queue) c.close.ensures.config c.close.ensures.window,
      c.in_ok-read.ensures.keeps,
      whole_end c.close.new.self (unread g.I.Read.remaining c.read.new.self) end.1.0 (bytes_at_hand c.read.new.self) (sym c.is_empty.ensures ∙ c.if-is_empty.true) end.1.1 end.1.2,
    )

pub returns-else-is_empty-clause-ok : goal.returns-else-is_empty-clause-ok
returns-else-is_empty-clause-ok g c = λ part.
    let end = c.in_ok-read.ensures.end (ap (λ (b : Bool). Ok b) c.if-branch.false) in (
      one c.args.clients.now c.close.new.self Closed c.close.ensures.closes (same_line c.args.clients.now c.close.new.self c.close.ensures.queue) c.close.ensures.config c.close.ensures.window,
      c.in_ok-read.ensures.keeps,
      cut_end c.close.new.self (unread g.I.Read.remaining c.read.new.self) end.1.0 (bytes_at_hand c.read.new.self) (bytes_at_hand c.args.frames.now) (sym c.is_empty.ensures ∙ c.if-is_empty.false)
          end.1.1 end.1.2 end.0 part,
    )
