-- A run that is kept is a run of its bare server.
use Rattle.std.proofs.Common.{◌≡◌, ℕ, Bool, List, Option, None, Some, Result, Ok, Err, sym, ◌∙◌, ap, subst}
use Rattle.std.specs.Prelude.{IfOk}
use Rattle.std.specs.Io.KnownBytes.{Appends}
use Rattle.http.specs.declared.request.Request.{Request}
use Rattle.http_server.specs.declared.response.Response.{Response}
use Rattle.http_frames.specs.declared.clients.Clients.{Clients}
use Rattle.http_frames.specs.declared.serving.End.{End}
use Rattle.http_frames.specs.TurnRuns.{Ends, RunsInTurns, told_text}
use Rattle.http_frames.proofs.Simulations.{served_to}
use Rattle.dav_handler_core.specs.Answers.{Answers}
use Rattle.dav_handler_core.specs.Server.{Server}
use Rattle.dav_handler_core.specs.Serving.{AreServed, BeginsTurn, Clocked, Listed, Replies, Timing, with_clock}
use Rattle.dav_kept_core.specs.BareServers.{as_served, bare, with_fault}
use Rattle.dav_kept_core.specs.KeptServers.{BeginsKept, ClockedKept, KeptServer, ListedKept, RepliesKept, with_room}
use Rattle.dav_kept_core.proofs.BareAnswers.{bare_answers}

-- ---- each step

bare_clock : (told : Option ℕ) (s s' : Server) → s' ≡ with_clock told s → bare s' ≡ with_clock told (bare s)
bare_clock None s s' is = ap bare is
bare_clock (Some moment) s s' is = ap bare is

module _ {C : Type 0} (tells : C → Option ℕ → C → Type 0) where
  pub bare_begins : (s : KeptServer C) (number : ℕ) (s' : KeptServer C) → BeginsKept tells s number s' → BeginsTurn tells (as_served s) number (as_served s')
  bare_begins s number s' x = (x.begins.0, x.begins.1, bare_clock x.begins.0 (with_room x.given s.timing.server) s'.timing.server x.begins.2)

  pub bare_replies : (s : KeptServer C) (request : Request (List ℕ)) (response : Response) (s' : KeptServer C) → RepliesKept s request response s' → Replies (as_served s) request response (as_served s')
  bare_replies s request response s' x =
      let made = x.replies.0 in (
        made,
        subst (λ (v : Server). Answers (bare s.timing.server) request made v) (sym (ap bare x.takes.server)) (bare_answers s.timing.server request x.answered.server made x.replies.1),
        x.replies.2,
        x.clock ∙ x.replies.3,
      )

  pub bare_clocked : (s : KeptServer C) (moment : ℕ) (s' : KeptServer C) → ClockedKept s moment s' → Clocked (as_served s) moment (as_served s')
  bare_clocked s moment s' x = (bare_clock (Some moment) s.timing.server s'.timing.server x.clocked.0, x.clocked.1)

  pub bare_listed : (s : KeptServer C) (file : List ℕ) (s' : KeptServer C) → ListedKept s file s' → Listed (as_served s) file (as_served s')
  bare_listed s file s' x = ap as_served x

  -- ---- a run

  if_ok : {A E F : Type 0} (fault : F) (result : Result A E) (P : A → Type 0) → IfOk result P → IfOk (with_fault fault result) P
  if_ok fault (Ok a) P h = h
  if_ok fault (Err e) P h = tt

  pub served_so_far : {E F : Type 0} (fault : F) (result : Result End E) (c c' : Clients) (s s' : Timing C) (input input' output output' : Option (List ℕ))
      → AreServed tells result c c' s s' input input' output output' → AreServed tells (with_fault fault result) c c' s s' input input' output output'
  served_so_far fault result c c' s s' input input' output output' x = record {
    done = x.done;
    always = x.always;
    has = x.has;
    in_order = x.in_order;
    leads = x.leads;
    writes = x.writes;
    ends = if_ok fault result (λ end. Ends end x.done c' input input') x.ends;
    wrote = if_ok fault result (λ end. Appends output output' (told_text x.done)) x.wrote;
  }

  pub run_served : {E : Type 0} (result : Result End E) (c c' : Clients) (s s' : KeptServer C) (input input' output output' : Option (List ℕ)) → RunsInTurns (BeginsKept tells) RepliesKept ClockedKept ListedKept result c c' s s' input input' output output'
      → AreServed tells result c c' (as_served s) (as_served s') input input' output output'
  run_served result c c' s s' input input' output output' x =
      served_to as_served (BeginsKept tells) RepliesKept ClockedKept ListedKept (BeginsTurn tells) Replies Clocked Listed bare_begins bare_replies bare_clocked bare_listed result c c' s s' input input' output output' x
