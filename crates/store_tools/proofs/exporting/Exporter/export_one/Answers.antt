use Rattle.std.proofs.Common.{refl, ap}
use Rattle.store_tools.specs.Private.ExportWork.{Work, is_left_out, work_of}
use Rattle.store_tools.proofs.ExportLemmas.{one_left, one_made}
use Rattle.store_tools.proofs.exporting.Exporter.export_one.Goals as goal

pub returns-in-Ok : goal.returns-in-Ok
returns-in-Ok g c =
    let history = g.C.Calls.history in
    record { exported = one_made c.args.stored.now (work_of c.args.self.now (history c.args.calls.now)) (work_of c.make.new.self (history c.make.new.calls)) c.in-Ok.ensures.made }

pub returns-in-Err-LeftOut : goal.returns-in-Err-LeftOut
unfolding is_left_out
returns-in-Err-LeftOut g c =
    let history = g.C.Calls.history in
    let stays = c.in-Err-LeftOut.ensures.left (ap is_left_out c.in-Err-LeftOut.field-0-is) in
    record {
      exported = one_left c.args.stored.now (work_of c.args.self.now (history c.args.calls.now)) (record { folders = (work_of c.make.new.self (history c.make.new.calls)).folders; whole = _; done = (work_of c.make.new.self (history c.make.new.calls)).done })
          (ap (λ (w : Work). w.folders) stays) refl (ap (λ (w : Work). w.done) stays);
    }
