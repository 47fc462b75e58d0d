use Rattle.std.proofs.Common.{string_bytes}
use Rattle.store_tools.specs.Exports.{opens, sets_time, syncs}
use Rattle.store_tools.proofs.ExportLemmas.{three_on}
use Rattle.store_tools.proofs.exporting.end_folder.Goals as goal

pub returns : goal.returns
returns g c =
    let place = string_bytes c.args.place.now in
    let history = g.C.Calls.history in
    record {
      ended = three_on c.sync.result (history c.args.calls.now) (history c.open_folder.new.self) (history c.set_time.new.self) (history c.sync.new.self) (opens place) (sets_time place c.args.time.0) (syncs place)
          c.in_ok-open_folder.ensures.noted c.in_ok-set_time.ensures.noted c.sync.ensures.noted;
    }
