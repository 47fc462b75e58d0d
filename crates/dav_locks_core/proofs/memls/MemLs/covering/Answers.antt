use Rattle.std.proofs.Common.{ap, ◌∙◌}
use Rattle.std.proofs.lemmas.Result.{IfOk-weaker, on_err_weaker}
use Rattle.dav_path_core.specs.Segments.{segments}
use Rattle.dav_locks_core.specs.Locks.{discovered_locks}
use Rattle.dav_locks_core.proofs.answers.LockListLemmas.{seen-discovered}
use Rattle.dav_locks_core.proofs.memls.MemLs.covering.Goals as goal

pub returns-clause-copies : goal.returns-clause-copies
returns-clause-copies c =
    IfOk-weaker c.covering_locks.result _ _ (λ v is. is ∙ seen-discovered c.self.inside.tree.keyed c.self.inside.next (segments c.args.path.now.bytes) c.self.invariant.kept.tree.list
    ∙ ap (λ locks. discovered_locks locks (segments c.args.path.now.bytes)) c.self.view_is) c.covering_locks.ensures.copies

pub returns-clause-refused : goal.returns-clause-refused
returns-clause-refused c =
    on_err_weaker c.covering_locks.result (λ some none.
    some (seen-discovered c.self.inside.tree.keyed c.self.inside.next (segments c.args.path.now.bytes) c.self.invariant.kept.tree.list
    ∙ ap (λ locks. discovered_locks locks (segments c.args.path.now.bytes)) c.self.view_is ∙ none)) c.covering_locks.ensures.refused
