use Rattle.std.proofs.Common.{◌∙◌, sym, vec_len, vec_capacity, rules}
use Rattle.dav_notes_core.proofs.BudgetLemmas.{within_none}
use Rattle.dav_notes_core.proofs.NotedLemmas.{holds_none}
use Rattle.dav_notes_core.proofs.noted.NotedStores.set_room.Goals as goal

pub invariant_of-self : goal.invariant_of-self
invariant_of-self c = (
  holds_none c.self.inside.keeps c.new.result.items c.and-base.result.items c.new-2.result.items (vec_len c.new-2.result) (vec_capacity c.new-2.result) c.self.inside.who c.new-3.result.items
      c.self.inside.stores c.new.ensures c.and-base.ensures c.new-2.ensures.items c.new-2.ensures.len c.new-3.ensures.items,
  within_none c.new-2.result.items c.of-self-inside.result.held c.of-self-inside.result.left c.of-self-inside.result.given c.new-2.ensures.items c.of-self-inside.ensures.held
      (c.of-self-inside.ensures.left ∙ sym c.of-self-inside.ensures.given) (search rules),
)
