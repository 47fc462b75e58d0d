-- One life of a kept server behind another (own).
use Rattle.std.specs.Prelude.{◌≤◌, ℕ, List}
use Rattle.dav_locks_core.specs.Exclusive.{Exclusive}
use Rattle.dav_store_core.specs.StandingFor.{StandFor}
use Rattle.dav_handler_core.specs.Server.{Server}
use Rattle.dav_kept_core.specs.KeptServers.{KeptServer, stores_in}

-- The server has the stores that the records stand for, which were left by the other one. It begins at no earlier moment: the clock did not go back. (Its locks are apart, as those of all stores are.)
pub record Opens {C : Type 0} (records : List (List ℕ)) (left : KeptServer C) (opened : Server) : Type 0 where
  pub last : ℕ
  pub stand : StandFor left.header records (stores_in opened) last
  pub apart : Exclusive opened.state.locks
  pub moments : left.timing.server.last ≤ opened.last
