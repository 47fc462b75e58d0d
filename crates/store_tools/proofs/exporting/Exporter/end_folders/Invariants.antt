use Rattle.std.proofs.Common.{◌≡◌, ◌++◌, length, reverse}
use Rattle.std.specs.List.{flat_map}
use Rattle.store_tools.specs.Exports.{calls_done, ends}
use Rattle.store_tools.specs.Private.ExportWork.{folders_of}
use Rattle.store_tools.proofs.exporting.Exporter.end_folders.Given as goal

-- what was done, with what is left to be done, is the whole
abbrev pub invariant-ending : goal.invariant-ending
invariant-ending g l = record {
  left : calls_done (g.C.Calls.history l.calls) ++ flat_map ends (reverse (folders_of l.self)) ≡ calls_done (g.C.Calls.history l.fn.calls) ++ flat_map ends (reverse (folders_of l.fn.self));
  whole : l.self.is_whole ≡ l.fn.self.is_whole;
}

abbrev pub decreases-ending : goal.decreases-ending
decreases-ending g l = length l.self.folders.items
