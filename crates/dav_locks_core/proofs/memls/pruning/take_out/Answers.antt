use Rattle.std.proofs.Common.{refl, inl, sym, ◌∙◌}
use Rattle.dav_locks_core.specs.Private.LockTree.{is_segment}
use Rattle.dav_path_core.proofs.walks.AboveLemmas.{no_parent}
use Rattle.dav_locks_core.proofs.memls.pruning.take_out.Goals as goal

pub returns-in_default-clause-taken : goal.returns-in_default-clause-taken
returns-in_default-clause-taken c =
    (refl, inl (no_parent is_segment c.args.tree.now.keyed c.parent_of.ensures.shape.tree c.args.node c.requires.known (sym c.parent_of.ensures.parent ∙ c.in_default.is)))
