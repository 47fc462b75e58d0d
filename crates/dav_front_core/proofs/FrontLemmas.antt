-- What is promised of a server, behind a login and of one that is read-only, over each view of its states.
use Rattle.std.proofs.Common.{ℕ, Option, List, map}
use Rattle.rand_core.specs.Stream.{Stream}
use Rattle.http_frames.specs.ConnectionEvents.{Event}
use Rattle.http_frames.specs.TurnRuns.{EventsLead}
use Rattle.http_frames.proofs.Simulations.{leads_to}
use Rattle.turn_fronts.specs.declared.read_only.ReadOnly.{ReadOnly}
use Rattle.turn_fronts.specs.declared.named.Named.{Named}
use Rattle.turn_fronts.specs.Looking.{with_looks}
use Rattle.turn_fronts.specs.NamedUsers.{AnswersNamed, BeginsUnnamed, HandsOnAs}
use Rattle.turn_fronts.proofs.LookRuns.{leads_looks}
use Rattle.turn_fronts.proofs.NamedRuns.{named_leads}
use Rattle.dav_users_core.specs.declared.error.UsersError.{UsersError}
use Rattle.dav_login_core.specs.declared.login.Login.{Login}
use Rattle.dav_login_core.specs.LoginViews.{login}
use Rattle.dav_login_core.proofs.RunLemmas.{run_behind}
use Rattle.dav_handler_core.specs.declared.serving.Timed.{Timed}
use Rattle.dav_handler_core.specs.KeptDocuments.{IsNew}
use Rattle.dav_handler_core.specs.Server.{Server}
use Rattle.dav_handler_core.specs.Serving.{BeginsTurn, Clocked, Leads, Listed, Replies, Timing, timing}
use Rattle.dav_handler_core.specs.TagHistories.{Becomes}
use Rattle.dav_handler_core.proofs.PromiseLaws.{each_answer}
use Rattle.dav_kept_core.specs.declared.recorded.Recorded.{Recorded}
use Rattle.dav_kept_core.specs.BareServers.{as_served}
use Rattle.dav_kept_core.specs.KeptServers.{kept_server}
use Rattle.dav_kept_core.proofs.BareRuns.{bare_begins, bare_clocked, bare_listed, bare_replies}
use Rattle.dav_front_core.specs.FrontRuns.{KeptBegins, KeptClocked, KeptListed, KeptLoginRun, KeptReadOnlyRun, KeptReplies, PromisesBehind, StaysAsItWas, TimedBegins, TimedClocked, TimedListed, TimedLoginRun, TimedReadOnlyRun, TimedReplies}
use Rattle.dav_front_core.proofs.LookLemmas.{looks_stay}

module _ {R C : Type 0} (stream : R → Stream) (tells : C → Option ℕ → C → Type 0) where
  -- ---- events of services lead what these are seen as

  abbrev pub view : Timed R C → Timing C
  view = timing stream

  abbrev pub kept_view : Recorded R C → Timing C
  kept_view s = as_served (kept_server stream s)

  timed_leads : (events : List Event) (s t : Timed R C) → EventsLead (TimedBegins stream tells) (TimedReplies stream tells) (TimedClocked stream tells) (TimedListed stream tells) s events t → Leads tells (view s) events (view t)
  timed_leads events s t x =
      leads_to view (TimedBegins stream tells) (TimedReplies stream tells) (TimedClocked stream tells) (TimedListed stream tells) (BeginsTurn tells) Replies Clocked Listed (λ s n s' x. x) (λ s request response s' x. x)
      (λ s moment s' x. x) (λ s file s' x. x) events s t x

  kept_leads : (events : List Event) (s t : Recorded R C) → EventsLead (KeptBegins stream tells) (KeptReplies stream tells) (KeptClocked stream tells) (KeptListed stream tells) s events t
      → Leads tells (kept_view s) events (kept_view t)
  kept_leads events s t x =
      leads_to kept_view (KeptBegins stream tells) (KeptReplies stream tells) (KeptClocked stream tells) (KeptListed stream tells) (BeginsTurn tells) Replies Clocked Listed
      (λ s n s' x. bare_begins tells (kept_server stream s) n (kept_server stream s') x) (λ s request response s' x. bare_replies tells (kept_server stream s) request response (kept_server stream s') x)
      (λ s moment s' x. bare_clocked tells (kept_server stream s) moment (kept_server stream s') x) (λ s file s' x. bare_listed tells (kept_server stream s) file (kept_server stream s') x) events s t x

  -- ---- behind a login

  pub timed_login : {H : Type 0} (told : H → UsersError → H → Type 0) (begun : Server) (old new : Login (Named (Timed R C)) H) (events : List Event) → IsNew begun → Becomes begun (view old.service.service).server
      → TimedLoginRun stream tells told old events new
      → PromisesBehind tells told begun (login old).door (login old).host events (login new).door (login new).host (view old.service.service) (view new.service.service)
  timed_login told begun old new events fresh became run =
      let behind = run_behind (BeginsUnnamed (TimedBegins stream tells)) (AnswersNamed (TimedReplies stream tells)) (HandsOnAs (TimedClocked stream tells)) (HandsOnAs (TimedListed stream tells)) told events old new run in
      let leads = timed_leads behind.inner old.service.service new.service.service
      (named_leads (TimedBegins stream tells) (TimedReplies stream tells) (TimedClocked stream tells) (TimedListed stream tells) behind.inner old.service new.service behind.leads) in
      record {
        inner = behind.inner;
        behind = behind.behind;
        leads = leads;
        each = each_answer tells begun fresh (view old.service.service) behind.inner (view new.service.service) became leads;
      }

  pub kept_login : {H : Type 0} (told : H → UsersError → H → Type 0) (begun : Server) (old new : Login (Named (Recorded R C)) H) (events : List Event) → IsNew begun → Becomes begun (kept_view old.service.service).server
      → KeptLoginRun stream tells told old events new
      → PromisesBehind tells told begun (login old).door (login old).host events (login new).door (login new).host (kept_view old.service.service) (kept_view new.service.service)
  kept_login told begun old new events fresh became run =
      let behind = run_behind (BeginsUnnamed (KeptBegins stream tells)) (AnswersNamed (KeptReplies stream tells)) (HandsOnAs (KeptClocked stream tells)) (HandsOnAs (KeptListed stream tells)) told events old new run in
      let leads = kept_leads behind.inner old.service.service new.service.service
      (named_leads (KeptBegins stream tells) (KeptReplies stream tells) (KeptClocked stream tells) (KeptListed stream tells) behind.inner old.service new.service behind.leads) in
      record {
        inner = behind.inner;
        behind = behind.behind;
        leads = leads;
        each = each_answer tells begun fresh (kept_view old.service.service) behind.inner (kept_view new.service.service) became leads;
      }

  -- ---- read-only

  pub timed_stays : (old new : Named (ReadOnly (Timed R C))) (events : List Event) → TimedReadOnlyRun stream tells old events new → StaysAsItWas (view old.service.service).server (view new.service.service).server
  timed_stays old new events run =
      looks_stay tells events (view old.service.service) (view new.service.service) (timed_leads (map with_looks events) old.service.service new.service.service
      (leads_looks (TimedBegins stream tells) (TimedReplies stream tells) (TimedClocked stream tells) (TimedListed stream tells) events old.service new.service
      (named_leads _ _ _ _ events old new run)))

  pub kept_stays : (old new : Named (ReadOnly (Recorded R C))) (events : List Event) → KeptReadOnlyRun stream tells old events new → StaysAsItWas (kept_view old.service.service).server (kept_view new.service.service).server
  kept_stays old new events run =
      looks_stay tells events (kept_view old.service.service) (kept_view new.service.service) (kept_leads (map with_looks events) old.service.service new.service.service
      (leads_looks (KeptBegins stream tells) (KeptReplies stream tells) (KeptClocked stream tells) (KeptListed stream tells) events old.service new.service
      (named_leads _ _ _ _ events old new run)))
