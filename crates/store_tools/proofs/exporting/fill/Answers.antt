use Rattle.std.proofs.Common.{string_bytes}
use Rattle.store_tools.specs.Exports.{sets_time, syncs, writes}
use Rattle.store_tools.proofs.ExportLemmas.{three_on}
use Rattle.store_tools.proofs.exporting.fill.Goals as goal

pub returns : goal.returns
returns g c =
    let place = string_bytes c.args.place.now in
    let history = g.C.Calls.history in
    record {
      filled = three_on c.sync.result (history c.args.calls.now) (history c.write.new.self) (history c.set_time.new.self) (history c.sync.new.self) (writes place c.args.bytes.now) (sets_time place c.args.time.0) (syncs place)
          c.in_ok-write.ensures.noted c.in_ok-set_time.ensures.noted c.sync.ensures.noted;
    }
