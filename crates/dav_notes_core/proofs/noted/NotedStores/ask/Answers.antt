use Rattle.std.proofs.Common.{rules, ◌≡◌, ◌+◌, refl, sym, subst, ap, ◌∙◌, arith, vec_len, vec_capacity}
use Rattle.dav_guarded_core.specs.Served.{answer_of, command_of, request_of}
use Rattle.dav_notes_core.specs.Stepping.{AnsweredBy, SameLiveStores}
use Rattle.dav_notes_core.proofs.LiveLemmas.{looks_live}
use Rattle.dav_notes_core.specs.Costs.{cost_for}
use Rattle.dav_notes_core.specs.Noting.{drawn_for}
use Rattle.dav_notes_core.specs.Seen.{HasNoteRoom, Seen, spent_on}
use Rattle.dav_notes_core.specs.Asking.{asker_of, asking, sender_of}
use Rattle.dav_notes_core.proofs.BudgetLemmas.{held_for, spent_alone, spent_changed, within_changed}
use Rattle.dav_notes_core.proofs.NotedLemmas.{answered_alone, holds_alone, holds_changed}
use Rattle.dav_notes_core.proofs.noted.NotedStores.ask.Goals as goal

pub invariant_of-self : goal.invariant_of-self
invariant_of-self g c =
    let it = c.self.inside in
    let command = command_of c.args.command in (
      holds_alone it.keeps it.base.items it.notes.items (vec_len it.notes) (vec_capacity it.notes) it.who c.swap_asker-then-not-is_noted.new.who it.spares.items it.stores c.apply-alone.new.self command it.next
          (answer_of c.apply-alone.result) c.self.invariant.0 (sym c.is_noted.ensures ∙ c.if-not-is_noted.true)
          (answered_alone (sender_of it.who) command (request_of c.swap_asker.new.request) (answer_of c.apply-alone.result) it.stores c.apply-alone.new.self it.next _ (c.swap_asker.ensures.request ∙ ap (asking (sender_of it.who)) c.unasked-request.ensures.command)
          c.apply-alone.ensures.step)
          (c.swap_asker-then-not-is_noted.ensures.who ∙ ap asker_of (c.swap_asker.ensures.request ∙ ap (asking (sender_of it.who)) c.unasked-request.ensures.command)),
      c.self.invariant.1,
    )

pub returns-then-not-is_noted-clause-step : goal.returns-then-not-is_noted-clause-step
returns-then-not-is_noted-clause-step g c =
    let it = c.self.inside in
    let command = command_of c.args.command in
    subst (λ (s : Seen). AnsweredBy (drawn_for command s.next) s.stores (asking s.who command) (answer_of c.apply-alone.result) c.apply-alone.new.self) c.self.view_is
    (answered_alone (sender_of it.who) command (request_of c.swap_asker.new.request) (answer_of c.apply-alone.result) it.stores c.apply-alone.new.self it.next _ (c.swap_asker.ensures.request ∙ ap (asking (sender_of it.who)) c.unasked-request.ensures.command)
    c.apply-alone.ensures.step)

pub returns-then-not-is_noted-clause-looks : goal.returns-then-not-is_noted-clause-looks
returns-then-not-is_noted-clause-looks g c = λ look.
    let it = c.self.inside in
    let command = command_of c.args.command in (
      refl,
      subst (λ (s : Seen). SameLiveStores s.who.now s.stores c.apply-alone.new.self) c.self.view_is
          (looks_live (drawn_for command it.next) it.stores c.apply-alone.new.self (asking (sender_of it.who) command) (answer_of c.apply-alone.result) look
          (answered_alone (sender_of it.who) command (request_of c.swap_asker.new.request) (answer_of c.apply-alone.result) it.stores c.apply-alone.new.self it.next _ (c.swap_asker.ensures.request ∙ ap (asking (sender_of it.who)) c.unasked-request.ensures.command)
          c.apply-alone.ensures.step)),
    )

pub returns-then-not-is_noted-clause-room : goal.returns-then-not-is_noted-clause-room
returns-then-not-is_noted-clause-room g c = λ count bytes h kept.
    let room = subst (λ (s : Seen). HasNoteRoom (count + 1) (bytes + cost_for s.who (command_of c.args.command)) s) (sym c.self.view_is) h kept in
    (omega (arith, room.0), omega (arith, room.1))

pub returns-then-not-is_noted-clause-spent : goal.returns-then-not-is_noted-clause-spent
returns-then-not-is_noted-clause-spent g c =
    let command = command_of c.args.command in
    subst (λ (s : Seen). c.self.inside.budget.left + spent_on s.keeps s.who command (answer_of c.apply-alone.result) ≡ s.left) c.self.view_is
    (spent_alone c.self.inside.keeps (sender_of c.self.inside.who) command (answer_of c.apply-alone.result) c.self.inside.budget.left (sym c.is_noted.ensures ∙ c.if-not-is_noted.true))

pub invariant_of-self-2 : goal.invariant_of-self-2
invariant_of-self-2 g c =
    let it = c.self.inside in
    let notes = c.change-answer.new.notes in
    let within = c.self.invariant.1 in (
      holds_changed it.keeps it.base.items it.notes.items c.spare_of.new.notes.items notes.items (vec_len notes) (vec_capacity notes) it.who c.replace-asker.result c.replace-asker.new.dest
          c.in-Ok.spare c.spare_of.new.spares.items it.stores c.change-answer.new.stores (command_of c.args.command) it.next c.change-answer.result (sym c.is_noted.ensures ∙ c.if-not-is_noted.false)
          c.self.invariant.0.kept c.self.invariant.0.changes c.spare_of.ensures.notes c.replace-asker.ensures.value c.replace-asker.ensures.after c.in-Ok.ensures.ok c.change-answer.ensures.step
          c.change-answer.ensures.ok c.change-answer.ensures.err c.spare_of.ensures.copies (omega (arith, c.in-Ok.ensures.room, c.change-answer.ensures.used, c.change-answer.ensures.capacity)),
      within_changed (sender_of it.who) (command_of c.args.command) it.next c.cost_for-cost.result it.notes.items c.spare_of.new.notes.items notes.items c.change-answer.result it.budget.held
          it.budget.left it.budget.given c.spend.new.self.held c.spend.new.self.left c.spend.new.self.given within c.spare_of.ensures.notes c.cost_for-cost.ensures c.in-Ok.ensures.fits
          (search rules) (search rules) (search rules) (search rules) (search rules),
    )

pub returns-clause-room : goal.returns-clause-room
returns-clause-room g c = λ count bytes h kept.
    let room = subst (λ (s : Seen). HasNoteRoom (count + 1) (bytes + cost_for s.who (command_of c.args.command)) s) (sym c.self.view_is) h kept in (
      omega (arith, room.0, c.spare_of.ensures.kept),
      held_for c.is_ok-made.result c.cost_for-cost.result (cost_for (sender_of c.self.inside.who) (command_of c.args.command)) c.self.inside.budget.held c.spend.new.self.held bytes
          c.cost_for-cost.ensures c.spend.ensures.held room.1,
    )

pub returns-clause-spent : goal.returns-clause-spent
returns-clause-spent g c =
    let it = c.self.inside in
    let command = command_of c.args.command in
    let within = c.self.invariant.1 in
    subst (λ (s : Seen). c.spend.new.self.left + spent_on s.keeps s.who command (answer_of c.change-answer.result) ≡ s.left) c.self.view_is
    (spent_changed (sender_of it.who) command it.next c.cost_for-cost.result it.keeps c.change-answer.result it.budget.left c.spend.new.self.left (sym c.is_noted.ensures ∙ c.if-not-is_noted.false)
    c.cost_for-cost.ensures c.in-Ok.ensures.fits (omega (arith, within.cost, within.most)) (search rules))
