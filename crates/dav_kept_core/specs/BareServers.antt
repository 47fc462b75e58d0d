-- A server as its clients see it, whatever is noted of what changes (own).
use Rattle.std.specs.Prelude.{false, [], Result, Ok, Err}
use Rattle.dav_handler_core.specs.Server.{Server}
use Rattle.dav_handler_core.specs.Serving.{Timing}
use Rattle.dav_kept_core.specs.KeptServers.{KeptServer}

-- the server, of which no notes are kept
abbrev pub bare : Server → Server
bare s = record s { noting = record { keeps = false; base = []; given = 0 } }

-- the bare server of a kept one, and its clock
abbrev pub as_served : {C : Type 0} → KeptServer C → Timing C
as_served s = record { server = bare s.timing.server; clock = s.timing.clock }

-- the result, with this fault for whatever failed
abbrev pub with_fault : {A E F : Type 0} → F → Result A E → Result A F
with_fault fault (Ok end) = Ok end
with_fault fault (Err e) = Err fault
