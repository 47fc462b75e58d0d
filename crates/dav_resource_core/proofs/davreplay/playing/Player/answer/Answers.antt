use Rattle.std.proofs.Common.{Result, Ok, Err, refl}
use Rattle.std.specs.Prelude.{OnOk}
use Rattle.dav_guarded_core.specs.Served.{answer_of}
use Rattle.dav_resource_core.proofs.davreplay.playing.Player.answer.Goals as goal

joined : {A E : Type 0} (r : Result A E) (P Q W : Type 0) → (P → Q → W) → OnOk r P → OnOk r Q → OnOk r W
joined (Ok x) P Q W f p q = f p q
joined (Err e) P Q W f p q = tt

pub returns : goal.returns
returns g c = joined c.write_answer.result _ _ _ (λ tokens line. (_, (answer_of c.apply-answer.result, c.apply-answer.ensures.step, tokens, refl), line)) c.write_answer.ensures.tokens c.write_answer.ensures.line
