use Rattle.std.proofs.Common.{rules, ◌∙◌, sym, vec_len, vec_capacity}
use Rattle.dav_notes_core.proofs.BudgetLemmas.{within_none}
use Rattle.dav_notes_core.proofs.NotedLemmas.{holds_none}
use Rattle.dav_notes_core.proofs.noted.NotedStores.new.Goals as goal

pub invariant_of-result : goal.invariant_of-result
invariant_of-result g c = (
  holds_none c.args.keeps c.new.result.items c.and-base.result.items c.new-3.result.items (vec_len c.new-3.result) (vec_capacity c.new-3.result) c.args.who c.new-2.result.items
      c.args.stores c.new.ensures c.and-base.ensures c.new-3.ensures.items c.new-3.ensures.len c.new-2.ensures.items,
  within_none c.new-3.result.items c.of.result.held c.of.result.left c.of.result.given c.new-3.ensures.items c.of.ensures.held (c.of.ensures.left ∙ sym c.of.ensures.given) (search rules),
)
