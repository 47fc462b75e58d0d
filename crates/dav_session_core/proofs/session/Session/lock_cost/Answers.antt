use Rattle.std.proofs.Common.{◌∙◌, option_map, string_bytes, ap}
use Rattle.dav_path_core.specs.Segments.{segments}
use Rattle.dav_guarded_core.specs.Requests.{Command}
use Rattle.dav_notes_core.specs.Asking.{Caller}
use Rattle.dav_notes_core.specs.Costs.{cost_for, in_eight_bytes}
use Rattle.dav_session_core.specs.Sessions.{caller}
use Rattle.dav_session_core.proofs.session.Session.lock_cost.Goals as goal

pub returns : goal.returns
returns g c = λ timeout shared deep token long.
    let who = caller c.args.self.now in
    let back = Command.Unlock (segments c.args.path.now.bytes) token in
    let lock = Command.Lock c.args.path.now (option_map string_bytes c.args.owner.now) timeout shared deep in
    c.sum_of.ensures (cost_for who back) (cost_for who lock)
    (c.cost_of_unlock-back.ensures token long ∙ ap (λ (w : Caller). in_eight_bytes (cost_for w back)) c.who-who.ensures)
    (c.cost_of_lock.ensures timeout shared deep ∙ ap (λ (w : Caller). in_eight_bytes (cost_for w lock)) c.who-who.ensures)
