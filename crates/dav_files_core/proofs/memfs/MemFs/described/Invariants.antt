use Rattle.dav_files_core.specs.Private.Listed.{Described}
use Rattle.dav_files_core.proofs.memfs.MemFs.described.Given as goal

abbrev pub invariant-loop-name : goal.invariant-loop-name
invariant-loop-name l = Described l.self l.yielded l.entries.items
