use Rattle.std.proofs.Common.{◌≡◌, ◌++◌, take}
use Rattle.kept_frames.specs.Outputs.{bytes_in}
use Rattle.kept_frames.proofs.told.note.Given as goal

abbrev pub invariant-noting : goal.invariant-noting
invariant-noting l = bytes_in l.taken ≡ bytes_in l.fn.taken ++ take l.byte-index l.bytes
