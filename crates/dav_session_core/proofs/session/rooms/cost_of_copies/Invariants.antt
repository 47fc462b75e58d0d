use Rattle.std.proofs.Common.{◌≡◌, take}
use Rattle.dav_notes_core.specs.Asking.{sender_of}
use Rattle.dav_notes_core.specs.Costs.{in_eight_bytes}
use Rattle.dav_session_core.specs.NoteCosts.{copies_cost}
use Rattle.dav_session_core.specs.Unhindered.{ends_of}
use Rattle.dav_session_core.proofs.session.rooms.cost_of_copies.Given as goal

abbrev pub invariant-adding : goal.invariant-adding
invariant-adding l = l.sum ≡ in_eight_bytes (copies_cost (sender_of l.who) (ends_of (take l.transfer-index l.transfers)))
