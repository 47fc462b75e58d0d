use Rattle.std.proofs.Common.{◌≡◌, ◌++◌, ℕ, List}
use Rattle.std.specs.Prelude.{Contains}
use Rattle.dav_path_core.proofs.davpath.reading.drop_last.Given as goal

-- what is gone holds no slash
abbrev pub invariant-loop-byte : goal.invariant-loop-byte
invariant-loop-byte l = (gone : List ℕ) × (l.fn.path.items ≡ l.path.items ++ gone) × (¬ Contains gone 47)

abbrev pub decreases-loop-byte : goal.decreases-loop-byte
decreases-loop-byte l = goal.left-loop-byte l
