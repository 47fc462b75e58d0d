use Rattle.dav_headers_core.specs.Timeouts.{timeout_of}
use Rattle.dav_headers_core.proofs.lists.EveryLemmas.{every_more, every_refused}
use Rattle.dav_headers_core.proofs.davheaders.timeouts.timeouts_of.Goals as goal

pub returns-in-None : goal.returns-in-None
returns-in-None c = every_refused timeout_of (λ piece. piece.now) c.args.pieces.now c.loop-piece.piece-index _ c.loop-piece-test.true c.in-None.ensures

pub loop-piece-preserved : goal.loop-piece-preserved
loop-piece-preserved c = every_more timeout_of (λ piece. piece.now) c.args.pieces.now c.loop-piece.piece-index _ c.loop-piece.timeouts.items c.push.new.self.items c.in-Some.timeout c.loop-piece-test.true c.loop-piece.invariant c.in-Some.ensures c.in_ok-push-in-Some.ensures.items
