use Rattle.std.proofs.Common.{arith}
use Rattle.dav_files_core.proofs.laws.RestoredLaws.{restored_from_walk}
use Rattle.dav_files_core.proofs.memfs.restoring.walked_files_are_restored.Goals as goal

pub returns : goal.returns
returns c = λ m ss now is_map small walk. restored_from_walk m is_map (omega (arith, small)) ss walk now
