use Rattle.std.proofs.Common.{◌∙◌, ap, subst, vec_len, vec_capacity}
use Rattle.dav_guarded_core.specs.Served.{answer_of, command_of, request_of}
use Rattle.dav_notes_core.specs.Asking.{asker_of, asking, sender_of}
use Rattle.dav_notes_core.specs.Changes.{is_look}
use Rattle.dav_notes_core.specs.Noting.{drawn_for}
use Rattle.dav_notes_core.specs.Seen.{Seen}
use Rattle.dav_notes_core.specs.Stepping.{AnsweredBy, SameLiveStores}
use Rattle.dav_notes_core.proofs.LiveLemmas.{looks_live}
use Rattle.dav_notes_core.proofs.NotedLemmas.{answered_alone, holds_alone, look_alone}
use Rattle.dav_notes_core.proofs.noted.NotedStores.look.Goals as goal

pub invariant_of-self : goal.invariant_of-self
invariant_of-self c =
    let it = c.self.inside in
    let command = command_of c.args.command in (
      holds_alone it.keeps it.base.items it.notes.items (vec_len it.notes) (vec_capacity it.notes) it.who c.swap_asker-2.new.who it.spares.items it.stores c.apply-answer.new.self command it.next
          (answer_of c.apply-answer.result) c.self.invariant.0 (look_alone it.keeps (is_look command) c.requires)
          (answered_alone (sender_of it.who) command (request_of c.swap_asker.new.request) (answer_of c.apply-answer.result) it.stores c.apply-answer.new.self it.next _ (c.swap_asker.ensures.request ∙ ap (asking (sender_of it.who)) c.unasked-request.ensures.command)
          c.apply-answer.ensures.step)
          (c.swap_asker-2.ensures.who ∙ ap asker_of (c.swap_asker.ensures.request ∙ ap (asking (sender_of it.who)) c.unasked-request.ensures.command)),
      c.self.invariant.1,
    )

pub returns-clause-step : goal.returns-clause-step
returns-clause-step c =
    let it = c.self.inside in
    let command = command_of c.args.command in
    subst (λ (s : Seen). AnsweredBy (drawn_for command s.next) s.stores (asking s.who command) (answer_of c.apply-answer.result) c.apply-answer.new.self) c.self.view_is
    (answered_alone (sender_of it.who) command (request_of c.swap_asker.new.request) (answer_of c.apply-answer.result) it.stores c.apply-answer.new.self it.next _ (c.swap_asker.ensures.request ∙ ap (asking (sender_of it.who)) c.unasked-request.ensures.command)
    c.apply-answer.ensures.step)

pub returns-clause-looks : goal.returns-clause-looks
returns-clause-looks c =
    let it = c.self.inside in
    let command = command_of c.args.command in
    subst (λ (s : Seen). SameLiveStores s.who.now s.stores c.apply-answer.new.self) c.self.view_is
    (looks_live (drawn_for command it.next) it.stores c.apply-answer.new.self (asking (sender_of it.who) command) (answer_of c.apply-answer.result) c.requires
    (answered_alone (sender_of it.who) command (request_of c.swap_asker.new.request) (answer_of c.apply-answer.result) it.stores c.apply-answer.new.self it.next _ (c.swap_asker.ensures.request ∙ ap (asking (sender_of it.who)) c.unasked-request.ensures.command)
    c.apply-answer.ensures.step))
