-- What a server becomes by the calls of a connection, and by a run of events.
use Rattle.std.proofs.Common.{◌≡◌, inl, inr, ℕ, List, [], ◌∷◌, Option, ap, sym, subst}
use Rattle.http_server.specs.Exchange.{Call, Calls, Chain}
use Rattle.http_frames.specs.ConnectionEvents.{Event, Answered, Clock}
use Rattle.http_frames.specs.Gate.{TakesTurn}
use Rattle.http_frames.specs.TurnRuns.{EventDoes}
use Rattle.dav_handler_core.specs.Answers.{Answers}
use Rattle.dav_handler_core.specs.Server.{Server}
use Rattle.dav_handler_core.specs.Serving.{BeginsTurn, Clocked, Leads, Listed, Replies, Timing}
use Rattle.dav_handler_core.specs.TagHistories.{Becomes}
use Rattle.dav_handler_core.specs.TagHistories.Becomes.{by_clock, by_answer}
use Rattle.dav_handler_core.proofs.TagLaws.{calls_stay, told_on}

-- ---- one connection

module _ {S : Type 0} (view : S → Server) where
  -- calls of a service are calls of what it is seen as
  seen : (calls : List Call) (s s' : S) → Chain (λ before request response after. Answers (view before) request response (view after)) s calls s' → Chain Answers (view s) calls (view s')
  seen [] s s' x = ap view x
  seen (c ∷ calls) s s' x = (view x.0, x.1, seen calls x.0 s' x.2)

  -- its calls leave the clock
  pub clock_stays : (old new : S) (before after : List Call)
      → Calls (λ before request response after. Answers (view before) request response (view after)) old new before after
      → (view new).clock ≡ (view old).clock
  clock_stays old new before after x =
      (calls_stay (view old) (view new) x.0 (seen x.0 old new x.2)).0

-- ---- many

module _ {C : Type 0} (tells : C → Option ℕ → C → Type 0) (begun : Server) where
  calls_become : (calls : List Call) (s s' : Timing C) → Becomes begun s.server → Chain Replies s calls s' → Becomes begun s'.server
  calls_become [] s s' run chain = subst (λ (t : Timing C). Becomes begun t.server) (sym chain) run
  calls_become (c ∷ calls) s s' run chain =
      calls_become calls chain.0 s' (by_answer s.server chain.0.server c.0 chain.1.0 run chain.1.1) chain.2

  pub begins_becomes : (number : ℕ) (s s' : Timing C) → Becomes begun s.server → BeginsTurn tells s number s' → Becomes begun s'.server
  begins_becomes number s s' run told = subst (Becomes begun) (sym told.2) (told_on told.0 begun s.server run)

  turn_becomes : (number : ℕ) (calls : List Call) (s s' : Timing C) → Becomes begun s.server → TakesTurn (BeginsTurn tells) Replies s number calls s' → Becomes begun s'.server
  turn_becomes number calls s s' run (inl none) = subst (λ (t : Timing C). Becomes begun t.server) (sym none.1) run
  turn_becomes number calls s s' run (inr turn) =
      calls_become calls turn.0 s' (begins_becomes number s turn.0 run turn.1) turn.2.chain

  pub event_becomes : (e : Event) (s s' : Timing C) → Becomes begun s.server → EventDoes (BeginsTurn tells) Replies Clocked Listed e s s' → Becomes begun s'.server
  event_becomes (Answered number calls) s s' run does = turn_becomes number calls s s' run does
  event_becomes (Clock moment) s s' run does = subst (Becomes begun) (sym does.0) (by_clock s.server moment run)
  event_becomes _ s s' run does = subst (λ (t : Timing C). Becomes begun t.server) (sym does) run

  pub run_becomes : (events : List Event) (s s' : Timing C) → Becomes begun s.server → Leads tells s events s' → Becomes begun s'.server
  run_becomes [] s s' run leads = subst (λ (t : Timing C). Becomes begun t.server) (sym leads) run
  run_becomes (e ∷ events) s s' run leads =
      run_becomes events leads.0 s' (event_becomes e s leads.0 run leads.1) leads.2
