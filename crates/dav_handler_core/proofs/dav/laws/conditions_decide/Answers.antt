use Rattle.std.proofs.Common.{◌≡◌, ◌<◌, ◌⊎◌, ◌∙◌, sym, subst}
use Rattle.dav_handler_core.specs.Deciding.{SaysDone}
use Rattle.dav_handler_core.proofs.DecidingLaws.{held_off, part_sent, sends_part, sends_tag, stays, tag_sent, went_on}
use Rattle.dav_handler_core.proofs.dav.laws.conditions_decide.Goals as goal

pub returns-clause-went_on : goal.returns-clause-went_on
returns-clause-went_on c = λ before after request response h look low.
    went_on before after request h.own h.method h.result h.done look (subst (SaysDone h.method) h.status low)

pub returns-clause-held_off : goal.returns-clause-held_off
returns-clause-held_off c = λ before after request response h off.
    let is = subst (λ n. (n ≡ 304) ⊎ (n ≡ 412)) h.status off in (
      held_off before after request h.own h.method h.result h.done is,
      stays before after request h.own h.method h.result h.done h.refused is,
    )

pub returns-clause-part : goal.returns-clause-part
returns-clause-part c = λ before after request response h part.
    part_sent before request response after h (sym h.status ∙ part) (sends_part before after request h.own h.method h.result h.done (sym h.status ∙ part))

pub returns-clause-tag : goal.returns-clause-tag
returns-clause-tag c = λ before after request response h look low.
    let under = subst (λ n. n < 400) h.status low in
    tag_sent before request response after h look under (sends_tag before after request h.own h.method h.result h.done look under)
