use Rattle.std.proofs.Common.{◌++◌, ◌∷◌, [], List, refl, sym, ◌∙◌, ap, append_assoc}
use Rattle.dav_files_core.specs.Walks.{Stored}
use Rattle.store_tools.specs.Private.ExportWork.{work_of}
use Rattle.store_tools.proofs.ExportLemmas.{each_more, each_none, one_same}
use Rattle.store_tools.proofs.exporting.Exporter.export_each.Goals as goal

pub exporting-init : goal.exporting-init
exporting-init g c = ([], c.into_iter-stored-iterator.ensures.into_iter_gives, each_none (work_of c.args.self.now (g.C.Calls.history c.args.calls.now)))

pub exporting-preserved : goal.exporting-preserved
exporting-preserved g c =
    let history = g.C.Calls.history in
    let front = c.exporting.invariant.0 in
    let s = c.in-Some.stored in
    let before = work_of c.exporting.self (history c.exporting.calls) in
    let behind = work_of c.export_one.new.self (history c.export_one.new.calls) in
    let told = work_of c.tell_progress.new.self (history c.export_one.new.calls) in (
      front ++ s ∷ [],
      append_assoc front (s ∷ []) c.next.new.self ∙ (ap (λ (l : List Stored). front ++ l) (sym c.in-Some.ensures.steps) ∙ c.exporting.invariant.1),
      each_more front s (work_of c.args.self.now (history c.args.calls.now)) before told c.exporting.invariant.2 (one_same s before behind told c.in_ok-export_one.ensures.exported c.tell_progress.ensures.folders c.tell_progress.ensures.whole refl),
    )
