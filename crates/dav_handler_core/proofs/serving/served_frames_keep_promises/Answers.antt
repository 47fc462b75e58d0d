use Rattle.dav_handler_core.specs.TagHistories.Becomes.{itself}
use Rattle.dav_handler_core.proofs.PromiseLaws.{each_answer, left_stand}
use Rattle.dav_handler_core.proofs.serving.served_frames_keep_promises.Goals as goal

pub returns : goal.returns
returns g c = record {
  each = λ result clients clients' begun after input input' output output' new h.
      each_answer g.C.Clock.tells begun.server new begun h.done after itself h.leads;
  lives = λ result clients clients' begun before after input input' output output' new became h.
      each_answer g.C.Clock.tells begun new before h.done after became h.leads;
  exact = left_stand;
}
