use Rattle.std.proofs.Common.{ap, sym, ◌∙◌}
use Rattle.dav_path_core.specs.Segments.{segments}
use Rattle.dav_locks_core.specs.Locks.{without_below}
use Rattle.dav_locks_core.specs.Private.LockTree.{lock_list}
use Rattle.dav_locks_core.proofs.ends.EndLemmas.{ends-delete}
use Rattle.dav_locks_core.proofs.answers.LockListLemmas.{IsKeptAs, seen-delete, kept-delete, none_deleted}
use Rattle.dav_locks_core.proofs.walks.SubtreeLemmas.{way_known}
use Rattle.dav_locks_core.proofs.memls.MemLs.delete_below.Goals as goal

pub forget_below-requires-clause-known : goal.forget_below-requires-clause-known
forget_below-requires-clause-known c = way_known c.self.inside.tree.keyed 1 c.in-Some.node (segments c.args.path.now.bytes) c.self.invariant.kept.tree.list.represents.tree.root.0 (sym c.in-Some.ensures)

pub clear-requires-clause-known : goal.clear-requires-clause-known
clear-requires-clause-known c = way_known c.self.inside.tree.keyed 1 c.in-Some.node (segments c.args.path.now.bytes) c.self.invariant.kept.tree.list.represents.tree.root.0 (sym c.in-Some.ensures)

pub prune-requires-clause-needed : goal.prune-requires-clause-needed
prune-requires-clause-needed c = let d = seen-delete c.self.inside.tree.keyed c.clear.new.tree.keyed c.self.inside.next c.in-Some.node (segments c.args.path.now.bytes) c.self.invariant.kept.tree (sym c.in-Some.ensures) (way_known c.self.inside.tree.keyed 1 c.in-Some.node (segments c.args.path.now.bytes) c.self.invariant.kept.tree.list.represents.tree.root.0 (sym c.in-Some.ensures)) c.clear.ensures.cleared in d.needed

deleted : (c : goal.After-prune) → IsKeptAs c.prune.new.tree.keyed c.self.inside.next (without_below (segments c.args.path.now.bytes) (lock_list c.self.inside.tree.keyed))
deleted c =
    kept-delete c.self.inside.tree.keyed c.clear.new.tree.keyed c.prune.new.tree.keyed c.self.inside.next c.in-Some.node (segments c.args.path.now.bytes)
    (seen-delete c.self.inside.tree.keyed c.clear.new.tree.keyed c.self.inside.next c.in-Some.node (segments c.args.path.now.bytes) c.self.invariant.kept.tree (sym c.in-Some.ensures) (way_known c.self.inside.tree.keyed 1 c.in-Some.node (segments c.args.path.now.bytes) c.self.invariant.kept.tree.list.represents.tree.root.0 (sym c.in-Some.ensures)) c.clear.ensures.cleared) c.prune.ensures.same c.prune.ensures.needed

pub invariant_of-self : goal.invariant_of-self
invariant_of-self c = record {
  kept = record {
    tree = (deleted c).keeps;
    are_ends = ends-delete c.self.inside.tree.keyed c.self.inside.next c.self.invariant.kept.tree c.self.inside.ends c.self.invariant.kept.are_ends c.clear.new.tree.keyed c.prune.new.tree.keyed c.forget_below.new.ends c.in-Some.node c.clear.ensures.cleared c.forget_below.ensures c.prune.ensures.same;
  };
  indexed = c.prune.ensures.indexed;
}

pub returns-in-Some-clause-left : goal.returns-in-Some-clause-left
returns-in-Some-clause-left c = (deleted c).seen ∙ ap (without_below (segments c.args.path.now.bytes)) c.self.view_is

pub returns-in-Some-clause-exclusive : goal.returns-in-Some-clause-exclusive
returns-in-Some-clause-exclusive c = (deleted c).keeps.list.exclusive

pub returns-in_default-clause-left : goal.returns-in_default-clause-left
returns-in_default-clause-left c =
    sym (ap (without_below (segments c.args.path.now.bytes)) (sym c.self.view_is)
    ∙ none_deleted c.self.inside.tree.keyed c.self.inside.next (segments c.args.path.now.bytes) c.self.invariant.kept.tree (sym c.lookup_node.ensures ∙ c.in_default.is) ∙ c.self.view_is)
