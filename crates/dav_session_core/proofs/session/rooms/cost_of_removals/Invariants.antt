use Rattle.std.proofs.Common.{◌≡◌, take}
use Rattle.dav_notes_core.specs.Asking.{sender_of}
use Rattle.dav_notes_core.specs.Costs.{in_eight_bytes}
use Rattle.dav_session_core.specs.NoteCosts.{removal_cost}
use Rattle.dav_session_core.specs.Unhindered.{paths_of}
use Rattle.dav_session_core.proofs.session.rooms.cost_of_removals.Given as goal

abbrev pub invariant-adding : goal.invariant-adding
invariant-adding l = l.sum ≡ in_eight_bytes (removal_cost (sender_of l.who) (paths_of (take l.place-index l.places)))
