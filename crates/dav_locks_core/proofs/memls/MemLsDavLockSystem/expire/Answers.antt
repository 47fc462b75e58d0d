use Rattle.std.proofs.Common.{ap, ◌∙◌}
use Rattle.dav_locks_core.specs.Stale.{without_stale}
use Rattle.dav_locks_core.proofs.memls.MemLsDavLockSystem.expire.Goals as goal

pub end_stale-requires-clause-kept : goal.end_stale-requires-clause-kept
end_stale-requires-clause-kept c = (c.self.inside.next, c.self.invariant.kept)

pub invariant_of-self : goal.invariant_of-self
invariant_of-self c = record { kept = c.end_stale.ensures.expires.kept c.self.inside.next c.self.invariant.kept; indexed = c.end_stale.ensures.indexed }

pub returns-clause-left : goal.returns-clause-left
returns-clause-left c = c.end_stale.ensures.expires.left c.self.inside.next c.self.invariant.kept ∙ ap (without_stale c.args.now.0) c.self.view_is

pub returns-clause-exclusive : goal.returns-clause-exclusive
returns-clause-exclusive c = (c.end_stale.ensures.expires.kept c.self.inside.next c.self.invariant.kept).tree.list.exclusive
