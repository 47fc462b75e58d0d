use Rattle.std.proofs.Common.{◌≡◌}
use Rattle.store_changes.proofs.importing.Importer.enter.Given as goal

-- nothing is added
abbrev pub invariant-loop-name : goal.invariant-loop-name
invariant-loop-name g l = l.self.added ≡ l.fn.self.added
