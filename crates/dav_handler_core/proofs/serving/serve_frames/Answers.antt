use Rattle.http_frames.proofs.Simulations.{served_to}
use Rattle.dav_handler_core.specs.Serving.{BeginsTurn, Clocked, Listed, Replies, timing}
use Rattle.dav_handler_core.proofs.serving.serve_frames.Goals as goal

-- the service is seen as a server and its clock
pub returns : goal.returns
returns g c =
    let view = timing g.R.Rng.stream in
    let tells = g.C.Clock.tells in
    record {
      served = λ has.
          served_to view (λ s n s'. BeginsTurn tells (view s) n (view s')) (λ s request response s'. Replies (view s) request response (view s')) (λ s moment s'. Clocked (view s) moment (view s'))
          (λ s file s'. Listed (view s) file (view s')) (BeginsTurn tells) Replies Clocked Listed (λ s n s' x. x) (λ s request response s' x. x) (λ s moment s' x. x) (λ s file s' x. x) c.serve.result c.args.clients.now c.serve.new.clients
          c.args.server.now.service c.serve.new.service.service _ _ _ _ (c.serve.ensures has);
    }
