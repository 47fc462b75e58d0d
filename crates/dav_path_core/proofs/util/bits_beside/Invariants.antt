use Rattle.std.proofs.Common.{◌≡◌, map, drop}
use Rattle.dav_path_core.specs.MethodSets.{bits_in}
use Rattle.dav_path_core.specs.Private.Tables.{table_entry}
use Rattle.dav_path_core.proofs.util.bits_beside.Given as goal

-- what stands before the index is another word
abbrev pub invariant-loop-name : goal.invariant-loop-name
invariant-loop-name l = bits_in (map table_entry l.table) l.word ≡ bits_in (map table_entry (drop l.name-index l.table)) l.word
