-- Runs of a server behind a login, and of one that is read-only (own).
use Rattle.std.specs.Prelude.{◌≤◌, ℕ, Option, List}
use Rattle.rand_core.specs.Stream.{Stream}
use Rattle.http.specs.declared.request.Request.{Request}
use Rattle.http_server.specs.declared.response.Response.{Response}
use Rattle.http_frames.specs.ConnectionEvents.{Event}
use Rattle.turn_fronts.specs.declared.read_only.ReadOnly.{ReadOnly}
use Rattle.turn_fronts.specs.declared.named.Named.{Named}
use Rattle.turn_fronts.specs.Looking.{LetsLook}
use Rattle.turn_fronts.specs.NamedUsers.{AnswersNamed, BeginsUnnamed, HandsOnAs, NamedRun}
use Rattle.dav_users_core.specs.declared.error.UsersError.{UsersError}
use Rattle.dav_login_core.specs.declared.login.Login.{Login}
use Rattle.dav_login_core.specs.LoggedIn.{Door}
use Rattle.dav_login_core.specs.RunsBehind.{AreRunBehind, LoginRun}
use Rattle.dav_notes_core.specs.Stepping.{SameLiveStores}
use Rattle.dav_handler_core.specs.declared.serving.Timed.{Timed}
use Rattle.dav_handler_core.specs.Promises.{EachAnswer, KeepsTo}
use Rattle.dav_handler_core.specs.Server.{Server}
use Rattle.dav_handler_core.specs.Serving.{BeginsTurn, Clocked, Leads, Listed, Replies, Timing, timing}
use Rattle.dav_kept_core.specs.declared.recorded.Recorded.{Recorded}
use Rattle.dav_kept_core.specs.KeptServers.{BeginsKept, ClockedKept, ListedKept, RepliesKept, kept_server, stores_in}

-- ---- what is promised

-- Behind the login the server is led by the events whose calls were passed on, and each of its answers keeps what is promised of it.
pub record PromisesBehind {C H : Type 0} (tells : C → Option ℕ → C → Type 0) (told : H → UsersError → H → Type 0) (begun : Server) (door : Door) (host : H) (events : List Event) (last : Door) (last_host : H)
    (before after : Timing C) : Type 0 where
  pub inner : List Event
  pub behind : AreRunBehind told door host events inner last last_host
  pub leads : Leads tells before inner after
  pub each : EachAnswer tells (KeepsTo begun) before inner after leads

-- The folders, files and properties are the same, and the locks, but for those that have expired by the last moment, which is no earlier one.
pub record StaysAsItWas (before after : Server) : Type 0 where
  pub stores : SameLiveStores after.last (stores_in before) (stores_in after)
  pub moments : before.last ≤ after.last

-- ---- a run, of a server in memory and of one that is kept

module _ {R C : Type 0} (stream : R → Stream) (tells : C → Option ℕ → C → Type 0) where
  -- what happens to the server, as it is seen
  abbrev pub TimedBegins : Timed R C → ℕ → Timed R C → Type 0
  TimedBegins s number s' = BeginsTurn tells (timing stream s) number (timing stream s')

  abbrev pub TimedReplies : Timed R C → Request (List ℕ) → Response → Timed R C → Type 0
  TimedReplies s request response s' = Replies (timing stream s) request response (timing stream s')

  abbrev pub TimedClocked : Timed R C → ℕ → Timed R C → Type 0
  TimedClocked s moment s' = Clocked (timing stream s) moment (timing stream s')

  abbrev pub TimedListed : Timed R C → List ℕ → Timed R C → Type 0
  TimedListed s file s' = Listed (timing stream s) file (timing stream s')

  abbrev pub KeptBegins : Recorded R C → ℕ → Recorded R C → Type 0
  KeptBegins s number s' = BeginsKept tells (kept_server stream s) number (kept_server stream s')

  abbrev pub KeptReplies : Recorded R C → Request (List ℕ) → Response → Recorded R C → Type 0
  KeptReplies s request response s' = RepliesKept (kept_server stream s) request response (kept_server stream s')

  abbrev pub KeptClocked : Recorded R C → ℕ → Recorded R C → Type 0
  KeptClocked s moment s' = ClockedKept (kept_server stream s) moment (kept_server stream s')

  abbrev pub KeptListed : Recorded R C → List ℕ → Recorded R C → Type 0
  KeptListed s file s' = ListedKept (kept_server stream s) file (kept_server stream s')

  -- Behind the login stands the service that tells users, and behind that the server.
  abbrev pub TimedLoginRun : {H : Type 0} → (H → UsersError → H → Type 0) → Login (Named (Timed R C)) H → List Event → Login (Named (Timed R C)) H → Type 0
  TimedLoginRun = LoginRun (BeginsUnnamed TimedBegins) (AnswersNamed TimedReplies) (HandsOnAs TimedClocked) (HandsOnAs TimedListed)

  abbrev pub KeptLoginRun : {H : Type 0} → (H → UsersError → H → Type 0) → Login (Named (Recorded R C)) H → List Event → Login (Named (Recorded R C)) H → Type 0
  KeptLoginRun = LoginRun (BeginsUnnamed KeptBegins) (AnswersNamed KeptReplies) (HandsOnAs KeptClocked) (HandsOnAs KeptListed)

  -- Behind the service that tells users stands the one that lets only look, and behind that the server.
  abbrev pub TimedReadOnlyRun : Named (ReadOnly (Timed R C)) → List Event → Named (ReadOnly (Timed R C)) → Type 0
  TimedReadOnlyRun =
      NamedRun (λ s n s'. TimedBegins s.service n s'.service) (λ s request response s'. LetsLook TimedReplies s.service request response s'.service) (λ s moment s'. TimedClocked s.service moment s'.service)
      (λ s file s'. TimedListed s.service file s'.service)

  abbrev pub KeptReadOnlyRun : Named (ReadOnly (Recorded R C)) → List Event → Named (ReadOnly (Recorded R C)) → Type 0
  KeptReadOnlyRun =
      NamedRun (λ s n s'. KeptBegins s.service n s'.service) (λ s request response s'. LetsLook KeptReplies s.service request response s'.service) (λ s moment s'. KeptClocked s.service moment s'.service)
      (λ s file s'. KeptListed s.service file s'.service)
