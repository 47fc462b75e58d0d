use Rattle.std.proofs.Common.{◌≡◌, ◌∙◌, ◌+◌, ◌≤◌, ◌<◌, arith, ℕ, Bool, List, Option, length, option_map, string_bytes, sym, ap}
use Rattle.std.proofs.lemmas.Result.{on_ok_weaker, IfErr-weaker}
use Rattle.dav_path_core.specs.Segments.{segments}
use Rattle.dav_guarded_core.specs.Requests.{Command}
use Rattle.dav_notes_core.specs.Asking.{Caller}
use Rattle.dav_notes_core.specs.Costs.{cost_for, in_eight_bytes}
use Rattle.dav_notes_core.proofs.BudgetLemmas.{in_eight_bytes-le}
use Rattle.dav_session_core.specs.Sessions as spec
use Rattle.dav_session_core.specs.declared.session.rooms.RoomError.{RoomError}
use Rattle.dav_session_core.specs.declared.session.rooms.RoomError.TheVariants.{NoRoom}
use Rattle.dav_session_core.proofs.session.Session.make_room_to_lock.Goals as goal

pub returns-clause-ok : goal.returns-clause-ok
returns-clause-ok g c =
    on_ok_weaker c.make_room.result
    (λ (ok : (n : ℕ) → c.lock_cost-bytes.result ≡ in_eight_bytes n → spec.HasRoomForNotes 2 n c.make_room.new.self) timeout shared deep token long.
    let both : Caller → ℕ = λ w. cost_for w (Command.Unlock (segments c.args.path.now.bytes) token) + cost_for w (Command.Lock c.args.path.now (option_map string_bytes c.args.owner.now) timeout shared deep) in
    ok (both (spec.caller c.make_room.new.self)) (c.lock_cost-bytes.ensures timeout shared deep token long ∙ ap (λ (w : Caller). in_eight_bytes (both w)) (sym c.make_room.ensures.same.who)))
    c.make_room.ensures.ok

pub returns-clause-no_room : goal.returns-clause-no_room
returns-clause-no_room g c =
    let both : Option ℕ → Bool → Bool → List ℕ → ℕ = λ timeout shared deep token.
    cost_for (spec.caller c.args.self.now) (Command.Unlock (segments c.args.path.now.bytes) token) + cost_for (spec.caller c.args.self.now) (Command.Lock c.args.path.now (option_map string_bytes c.args.owner.now) timeout shared deep) in
    IfErr-weaker c.make_room.result (λ e. e ≡ NoRoom → spec.bytes_left c.args.self.now < c.lock_cost-bytes.result)
    (λ e. e ≡ NoRoom → (timeout : Option ℕ) → (shared deep : Bool) → (token : List ℕ) → length token ≡ 45 → spec.bytes_left c.args.self.now < both timeout shared deep token)
    (λ e less is timeout shared deep token long. omega (arith, less is, c.lock_cost-bytes.ensures timeout shared deep token long, in_eight_bytes-le (both timeout shared deep token)))
    c.make_room.ensures.no_room
