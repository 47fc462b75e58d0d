use Rattle.http_server.specs.Connection.{history}
use Rattle.dav_handler_core.specs.ServerViews.{server}
use Rattle.dav_handler_core.proofs.FrameLemmas.{clock_stays}
use Rattle.dav_handler_core.proofs.serving.serve_one.Goals as goal

pub returns-clause-clock : goal.returns-clause-clock
returns-clause-clock g c =
    clock_stays (λ dav. server g.R.Rng.stream dav) c.args.dav.now c.serve.new.service (history c.args.connection.now).calls (history c.serve.new.connection).calls c.serve.ensures.calls
