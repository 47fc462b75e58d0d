use Rattle.std.proofs.Common.{sym, ap, ◌∙◌, subst}
use Rattle.dav_locks_core.specs.Private.LockWalking.{AllThere, locks_by}
use Rattle.dav_locks_core.proofs.answers.ListingLemmas.{all_stand, all_walked}
use Rattle.dav_locks_core.proofs.memls.MemLs.iter.Goals as goal

pub new-requires : goal.new-requires
new-requires c =
    subst (AllThere c.self.inside.tree.keyed) (sym c.iter.ensures.rest)
    (all_stand c.self.inside.tree.keyed c.self.inside.next c.self.inside.ends c.self.invariant.kept c.iter.ensures.found)

pub returns : goal.returns
returns c =
    c.new.ensures ∙ ap (locks_by c.self.inside.tree.keyed) c.iter.ensures.rest
    ∙ all_walked c.self.inside.tree.keyed c.self.inside.next c.self.inside.ends c.self.invariant.kept c.iter.ensures.ordered ∙ c.self.view_is
