-- A life behind another one goes on with what new stores became.
use Rattle.std.proofs.Common.{ℕ, List, Option, ap}
use Rattle.http_frames.specs.ConnectionEvents.{Event}
use Rattle.http_frames.specs.TurnRuns.{EventsLead}
use Rattle.http_frames.proofs.Simulations.{leads_to}
use Rattle.dav_guarded_core.specs.Stores.{Stores}
use Rattle.dav_handler_core.specs.Server.{Server}
use Rattle.dav_handler_core.specs.Serving.{BeginsTurn, Clocked, Listed, Replies}
use Rattle.dav_handler_core.specs.TagHistories.{Becomes, Restarts}
use Rattle.dav_handler_core.specs.TagHistories.Becomes.{by_restart}
use Rattle.dav_handler_core.proofs.FrameLemmas.{run_becomes}
use Rattle.dav_kept_core.specs.BareServers.{as_served, bare}
use Rattle.dav_kept_core.specs.KeptServers.{BeginsKept, ClockedKept, KeptServer, ListedKept, RepliesKept, StandsForServer, stores_in}
use Rattle.dav_kept_core.specs.Lives.{Opens}
use Rattle.dav_kept_core.proofs.BareRuns.{bare_begins, bare_clocked, bare_listed, bare_replies}
use Rattle.dav_kept_core.proofs.StandLemmas.{opens_one}

module _ {C : Type 0} (tells : C → Option ℕ → C → Type 0) where
  opens_restart : (records : List (List ℕ)) (left : KeptServer C) (opened : Server) → StandsForServer records left → Opens records left opened → Restarts (bare left.timing.server) (bare opened)
  opens_restart records left opened stands opens =
      let same = opens_one records left (stores_in opened) opens.last stands opens.stand in
      record {
        map = ap (λ (s : Stores). s.map) same.0;
        locks = ap (λ (s : Stores). s.locks) same.0;
        apart = opens.apart;
        moments = opens.moments;
      }

  pub goes_on : (begun : Server) (s left : KeptServer C) (events : List Event) (records : List (List ℕ)) (opened : Server) → Becomes begun (as_served s).server
      → EventsLead (BeginsKept tells) RepliesKept ClockedKept ListedKept s events left → StandsForServer records left → Opens records left opened → Becomes begun (bare opened)
  goes_on begun s left events records opened became leads stands opens =
      let led = leads_to as_served (BeginsKept tells) RepliesKept ClockedKept ListedKept (BeginsTurn tells) Replies Clocked Listed (bare_begins tells) (bare_replies tells) (bare_clocked tells) (bare_listed tells) events s left leads in
      by_restart (bare left.timing.server) (bare opened) (run_becomes tells begun events (as_served s) (as_served left) became led) (opens_restart records left opened stands opens)
