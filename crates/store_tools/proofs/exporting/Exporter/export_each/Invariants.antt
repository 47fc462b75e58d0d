use Rattle.std.proofs.Common.{◌≡◌, ◌++◌, List}
use Rattle.dav_files_core.specs.Walks.{Stored}
use Rattle.store_tools.specs.Private.ExportWork.{ExportsEach, work_of}
use Rattle.store_tools.proofs.exporting.Exporter.export_each.Given as goal

-- those in front are made, or left out
abbrev pub invariant-exporting : goal.invariant-exporting
invariant-exporting g l = (front : List Stored) × (front ++ l.stored-iterator ≡ l.fn.walk) × ExportsEach front (work_of l.fn.self (g.C.Calls.history l.fn.calls)) (work_of l.self (g.C.Calls.history l.calls))
