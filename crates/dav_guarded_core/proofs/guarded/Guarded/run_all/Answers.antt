use Rattle.std.proofs.Common.{arith}
use Rattle.dav_guarded_core.proofs.RunLaws.{run_on}
use Rattle.dav_guarded_core.specs.Stores.{state_of}
use Rattle.dav_guarded_core.specs.Served.{request_of, answer_of}
use Rattle.dav_guarded_core.proofs.guarded.Guarded.run_all.Goals as goal

pub loop-request-preserved : goal.loop-request-preserved
loop-request-preserved g c = record {
  ran = run_on request_of answer_of (state_of c.args.self.now (g.R.Rng.stream c.args.rng.now)) (state_of c.loop-request.self (g.R.Rng.stream c.loop-request.rng)) (state_of c.apply-answer.new.self (g.R.Rng.stream c.apply-answer.new.rng)) c.args.requests.now c.loop-request.request-index c.loop-request.answers.items _ c.request-item.result c.apply-answer.result
      c.loop-request-test.true c.request-item.is c.add_answer.ensures.items c.loop-request.invariant.ran c.apply-answer.ensures.step;
  count = omega arith;
  room = omega arith;
  exclusive = c.apply-answer.ensures.exclusive;
  shape = c.apply-answer.ensures.shape;
}
