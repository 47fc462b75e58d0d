use Rattle.std.proofs.Common.{rules, ◌∙◌, sym, vec_len, vec_capacity}
use Rattle.dav_notes_core.proofs.BudgetLemmas.{within_none}
use Rattle.dav_notes_core.proofs.NotedLemmas.{holds_none}
use Rattle.dav_notes_core.proofs.noted.NotedStores.take.Goals as goal

pub invariant_of-self : goal.invariant_of-self
invariant_of-self c =
    let notes = c.replace-notes.new.dest in (
      holds_none c.self.inside.keeps c.new.result.items c.and-base.result.items notes.items (vec_len notes) (vec_capacity notes) c.self.inside.who c.new-3.result.items c.self.inside.stores
          c.new.ensures c.and-base.ensures (rw c.replace-notes.ensures.after c.new-2.ensures.items) (rw c.replace-notes.ensures.after c.new-2.ensures.len) c.new-3.ensures.items,
      within_none notes.items c.renew.new.self.held c.renew.new.self.left c.renew.new.self.given (rw c.replace-notes.ensures.after c.new-2.ensures.items) c.renew.ensures.held (c.renew.ensures.left ∙ sym c.renew.ensures.given) (search rules),
    )
