use Rattle.std.proofs.Common.{sym, subst, ◌∙◌}
use Rattle.dav_handler_core.specs.Deciding.{SaysDone}
use Rattle.dav_handler_core.proofs.DateLaws.{not_modified_finds, went_on_finds}
use Rattle.dav_handler_core.proofs.DecidingLaws.{went_on}
use Rattle.dav_handler_core.proofs.dav.tag_laws.dates_tell_bytes.Goals as goal

pub returns-clause-lets : goal.returns-clause-lets
returns-clause-lets c = λ begun earlier before after request response new first then h look done.
    went_on_finds begun earlier before new first then request h.method after look
    (went_on before after request h.own h.method h.result h.done look (subst (SaysDone h.method) h.status done))

pub returns-clause-not_modified : goal.returns-clause-not_modified
returns-clause-not_modified c = λ begun earlier before after request response new first then h told.
    not_modified_finds begun earlier before new first then request after h.own h.method h.result h.done (sym h.status ∙ told)
