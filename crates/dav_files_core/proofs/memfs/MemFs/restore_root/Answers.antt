use Rattle.std.proofs.Common.{refl, sym, inr}
use Rattle.dav_files_core.specs.Restoring.{resource_of}
use Rattle.dav_files_core.proofs.changes.LeftLemmas.{stands_for}
use Rattle.dav_files_core.proofs.changes.RestoredLemmas.{not_root_there}
use Rattle.dav_files_core.proofs.memfs.MemFs.restore_root.Goals as goal

pub returns-then-not-is_root_at-clause-answer : goal.returns-then-not-is_root_at-clause-answer
returns-then-not-is_root_at-clause-answer c = λ p x here number. (
  refl,
  inr (not_root_there c.args.self.now (stands_for _ _ c.self.view_is c.self.invariant).is_map p x (resource_of c.args.entry) here c.args.id number (sym c.if-not-is_root_at.ensures)),
)
