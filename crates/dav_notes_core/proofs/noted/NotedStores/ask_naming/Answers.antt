use Rattle.std.proofs.Common.{rules, ◌≡◌, ◌+◌, sym, subst, ◌∙◌, arith, string_bytes, vec_len, vec_capacity}
use Rattle.dav_guarded_core.specs.Served.{answer_of, command_of}
use Rattle.dav_notes_core.specs.Asking.{Caller, also_naming, sender_of}
use Rattle.dav_notes_core.specs.Seen.{Seen, spent_on}
use Rattle.dav_notes_core.proofs.BudgetLemmas.{held_beside, spent_alone, spent_changed, within_changed}
use Rattle.dav_notes_core.proofs.NotedLemmas.{holds_named, holds_naming}
use Rattle.dav_notes_core.proofs.noted.NotedStores.ask_naming.Goals as goal

pub invariant_of-self : goal.invariant_of-self
invariant_of-self g c =
    let it = c.self.inside in (
      holds_named it.keeps it.base.items it.notes.items (vec_len it.notes) (vec_capacity it.notes) it.who c.answer_naming.new.who (string_bytes c.args.token) it.spares.items it.stores
          c.answer_naming.new.stores (command_of c.args.command) it.next (answer_of c.in-Ok.alone) c.self.invariant.0 (sym c.is_noted.ensures ∙ c.if-not-is_noted.true) c.in-Ok.ensures.step
          c.answer_naming.ensures.who,
      c.self.invariant.1,
    )

pub invariant_of-self-2 : goal.invariant_of-self-2
invariant_of-self-2 g c =
    let it = c.self.inside in
    let notes = c.change-answer.new.notes in
    let within = c.self.invariant.1 in (
      holds_naming it.keeps it.base.items it.notes.items c.naming-named.new.notes.items notes.items (vec_len notes) (vec_capacity notes) it.who c.in-Ok-named.named.0 (string_bytes c.args.token)
          it.spares.items it.stores c.change-answer.new.stores (command_of c.args.command) it.next c.change-answer.result (sym c.is_noted.ensures ∙ c.if-not-is_noted.false) c.self.invariant.0.kept
          c.self.invariant.0.changes c.naming-named.ensures.notes c.in-Ok-named.ensures.ok c.change-answer.ensures.step c.change-answer.ensures.ok c.change-answer.ensures.err c.self.invariant.0.copies
          (omega (arith, c.in-Ok-named.ensures.room, c.change-answer.ensures.used, c.change-answer.ensures.capacity)),
      within_changed (sender_of c.in-Ok-named.named.0) (command_of c.args.command) it.next c.in-Ok-named.named.1 it.notes.items c.naming-named.new.notes.items notes.items c.change-answer.result
          it.budget.held it.budget.left it.budget.given c.spend_beside.new.self.held c.spend_beside.new.self.left c.spend_beside.new.self.given within c.naming-named.ensures.notes
          c.in-Ok-named.ensures.cost (omega (arith, c.in-Ok-named.ensures.fits)) c.change-answer.ensures.ok c.change-answer.ensures.err (search rules)
          (held_beside c.is_ok-made.result c.in-Ok-named.named.1 it.budget.held it.budget.left c.spend_beside.new.self.held c.spend_beside.new.self.left c.in-Ok-named.ensures.fits within.held
          c.spend_beside.ensures.held c.spend_beside.ensures.left) c.spend_beside.ensures.given,
    )

pub returns-in-Ok-clause-spent : goal.returns-in-Ok-clause-spent
returns-in-Ok-clause-spent g c =
    let it = c.self.inside in
    let command = command_of c.args.command in
    let token = string_bytes c.args.token in
    subst (λ (s : Seen). it.budget.left + spent_on s.keeps (also_naming s.who token) command (answer_of c.in-Ok.alone) ≡ s.left) c.self.view_is
    (spent_alone it.keeps (also_naming (sender_of it.who) token) command (answer_of c.in-Ok.alone) it.budget.left (sym c.is_noted.ensures ∙ c.if-not-is_noted.true))

pub returns-clause-spent : goal.returns-clause-spent
returns-clause-spent g c =
    let it = c.self.inside in
    let command = command_of c.args.command in
    let token = string_bytes c.args.token in
    let within = c.self.invariant.1 in
    let Spent : Caller → Type 0 = λ w. c.spend_beside.new.self.left + spent_on it.keeps w command (answer_of c.change-answer.result) ≡ it.budget.left in
    subst (λ (s : Seen). c.spend_beside.new.self.left + spent_on s.keeps (also_naming s.who token) command (answer_of c.change-answer.result) ≡ s.left) c.self.view_is
    (subst Spent c.in-Ok-named.ensures.ok
    (spent_changed (sender_of c.in-Ok-named.named.0) command it.next c.in-Ok-named.named.1 it.keeps c.change-answer.result it.budget.left c.spend_beside.new.self.left
    (sym c.is_noted.ensures ∙ c.if-not-is_noted.false) c.in-Ok-named.ensures.cost (omega (arith, c.in-Ok-named.ensures.fits)) (omega (arith, within.cost, within.most)) (search rules)))
