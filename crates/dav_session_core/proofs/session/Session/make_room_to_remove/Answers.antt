use Rattle.std.proofs.Common.{◌≡◌, ◌∙◌, ℕ, length, sym, ap}
use Rattle.std.proofs.lemmas.Result.{on_ok_weaker}
use Rattle.dav_notes_core.specs.Asking.{Caller}
use Rattle.dav_notes_core.specs.Costs.{in_eight_bytes}
use Rattle.dav_session_core.specs.NoteCosts.{removal_cost}
use Rattle.dav_session_core.specs.Sessions as spec
use Rattle.dav_session_core.specs.Unhindered.{paths_of}
use Rattle.dav_session_core.proofs.session.Session.make_room_to_remove.Goals as goal

pub returns-clause-ok : goal.returns-clause-ok
returns-clause-ok g c =
    let all : Caller → ℕ = λ w. removal_cost w (paths_of c.args.places.now) in
    on_ok_weaker c.make_room.result
    (λ (ok : (n : ℕ) → c.cost_of_removals-bytes.result ≡ in_eight_bytes n → spec.HasRoomForNotes (length c.args.places.now) n c.make_room.new.self).
    ok (all (spec.caller c.make_room.new.self)) (c.cost_of_removals-bytes.ensures ∙ ap (λ (w : Caller). in_eight_bytes (all w)) (c.who.ensures ∙ sym c.make_room.ensures.same.who)))
    c.make_room.ensures.ok
