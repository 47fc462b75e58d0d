use Rattle.std.proofs.Common.{◌≡◌, ◌∙◌, ℕ, sym, ap, rules}
use Rattle.std.proofs.lemmas.Result.{on_ok_weaker}
use Rattle.dav_path_core.specs.Segments.{segments}
use Rattle.dav_guarded_core.specs.Requests.{Command}
use Rattle.dav_notes_core.specs.Asking.{Caller}
use Rattle.dav_notes_core.specs.Costs.{cost_for, in_eight_bytes}
use Rattle.dav_session_core.specs.Sessions as spec
use Rattle.dav_session_core.proofs.session.Session.make_room_to_unlock.Goals as goal

pub returns-clause-ok : goal.returns-clause-ok
returns-clause-ok g c =
    let ended = Command.Unlock (segments c.args.path.now.bytes) c.args.token.now in
    on_ok_weaker c.make_room.result
    (λ (ok : (n : ℕ) → c.cost_of_unlock-bytes.result ≡ in_eight_bytes n → spec.HasRoomForNotes 1 n c.make_room.new.self).
    ok (cost_for (spec.caller c.make_room.new.self) ended)
    (c.cost_of_unlock-bytes.ensures c.args.token.now (search rules) ∙ ap (λ (w : Caller). in_eight_bytes (cost_for w ended)) (c.who.ensures ∙ sym c.make_room.ensures.same.who)))
    c.make_room.ensures.ok
