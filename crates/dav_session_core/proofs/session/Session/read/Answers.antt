use Rattle.std.proofs.Common.{◌≡◌, ◌∙◌, sym, ap, take, drop}
use Rattle.dav_path_core.specs.Segments.{segments}
use Rattle.dav_guarded_core.specs.Requests.{Bytes}
use Rattle.dav_guarded_core.specs.Served.{reply_of}
use Rattle.dav_guarded_core.proofs.Telling.{read_tells}
use Rattle.dav_session_core.proofs.session.Session.read.Goals as goal

pub returns-in-Ok-Bytes-clause-ok : goal.returns-in-Ok-Bytes-clause-ok
returns-in-Ok-Bytes-clause-ok g c =
    let told = read_tells c.args.self.now.stores.stores.map c.look.new.self.stores.stores.map (segments c.args.path.bytes) c.args.at c.args.count (reply_of c.in-Ok-Bytes.field-0) c.in-Ok-Bytes.ensures.step.1.0 in
    let told_of : Bytes c.in-Ok-Bytes.bytes ≡ Bytes (take c.args.count (drop c.args.at told.0.node.bytes)) = sym (ap reply_of c.in-Ok-Bytes.field-0-is) ∙ told.3 in
    let same : c.in-Ok-Bytes.bytes ≡ take c.args.count (drop c.args.at told.0.node.bytes) = cc in
    (told.0, told.1, told.2, same)
