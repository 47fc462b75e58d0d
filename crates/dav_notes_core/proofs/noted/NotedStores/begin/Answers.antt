use Rattle.std.proofs.Common.{◌≡◌, ◌≤◌, true, refl, sym, subst, arith, vec_len, vec_capacity}
use Rattle.dav_notes_core.specs.Seen.{Seen}
use Rattle.dav_notes_core.proofs.BudgetLemmas.{within_held}
use Rattle.dav_notes_core.proofs.NotedLemmas.{holds_later}
use Rattle.dav_notes_core.proofs.noted.NotedStores.begin.Goals as goal

pub invariant_of-self : goal.invariant_of-self
invariant_of-self c =
    let it = c.self.inside in
    let later = subst (λ (s : Seen). s.keeps ≡ true → s.who.now ≤ c.args.who.now.0) (sym c.self.view_is) c.requires.later in (
      holds_later it.keeps it.base.items it.notes.items (vec_len it.notes) (vec_capacity it.notes) it.who c.args.who it.spares.items c.new.result.items it.stores c.self.invariant.0 later
          c.new.ensures.items,
      within_held it.notes.items it.notes.items it.budget.held it.budget.left it.budget.given c.release.new.self.held c.release.new.self.left c.release.new.self.given c.self.invariant.1 refl
          c.release.ensures.left c.release.ensures.given (omega (arith, c.release.ensures.held)),
    )
