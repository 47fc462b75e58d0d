-- Requests that look change nothing of a server.
use Rattle.std.proofs.Common.{◌≡◌, ◌≤◌, ℕ, arith, Bool, true, false, List, [], ◌∷◌, Option, None, Some, Result, Ok, Err, codes, cond, map, refl, sym, ap, subst, ◌∙◌, inl, inr}
use Rattle.std.proofs.lemmas.Bool.{true≢false}
use Rattle.http.specs.declared.request.Request.{Request}
use Rattle.http.specs.Method.{is_among, safe_methods}
use Rattle.http.specs.Request.{head_of}
use Rattle.http_server.specs.declared.response.Response.{Response}
use Rattle.http_server.specs.Exchange.{Call, Chain}
use Rattle.http_frames.specs.ConnectionEvents.{Event, Answered, Clock}
use Rattle.http_frames.specs.Gate.{TakesTurn}
use Rattle.http_frames.specs.TurnRuns.{EventDoes}
use Rattle.turn_fronts.specs.Looking.{looking, only_looks, with_looks}
use Rattle.dav_path_core.specs.declared.util.DavMethod.{DavMethod}
use Rattle.dav_path_core.specs.declared.util.DavMethod.TheVariants as method
use Rattle.dav_path_core.specs.Methods.{word}
use Rattle.dav_faults_core.specs.declared.faults.Fault.{Fault}
use Rattle.dav_guarded_core.specs.Step.{State}
use Rattle.dav_guarded_core.specs.Stores.{Stores}
use Rattle.dav_notes_core.proofs.LiveLemmas.{same_later}
use Rattle.dav_session_core.specs.Callers.{SameLive, live}
use Rattle.dav_fields_core.specs.Fields.{Sent}
use Rattle.dav_handler_core.specs.Answers.{Answers, AnswersTo, IsMethod}
use Rattle.dav_handler_core.specs.Server.{Server}
use Rattle.dav_handler_core.specs.Serving.{BeginsTurn, Clocked, Leads, Listed, Replies, Timing, with_clock}
use Rattle.dav_kept_core.specs.KeptServers.{stores_in}
use Rattle.dav_front_core.specs.FrontRuns.{StaysAsItWas}

-- ---- one server and the next

pub stays_itself : (s : Server) → StaysAsItWas s s
stays_itself s = record { stores = refl; moments = omega arith }

pub stays_on : (s m t : Server) → StaysAsItWas s m → StaysAsItWas m t → StaysAsItWas s t
stays_on s m t h k = record {
  stores = k.stores ∙ same_later m.last t.last (stores_in s) (stores_in m) k.moments h.stores;
  moments = omega (arith, h.moments, k.moments);
}

abbrev stores_of_state : State → Stores
stores_of_state s = record { map = s.map; locks = s.locks }

stays_live : (s t : Server) → SameLive t.last s.state t.state → s.last ≤ t.last → StaysAsItWas s t
stays_live s t h moments = record { stores = ap stores_of_state h; moments = moments }

stays_clocked : (told : Option ℕ) (s t : Server) → t ≡ with_clock told s → StaysAsItWas s t
stays_clocked None s t is = subst (StaysAsItWas s) (sym is) (stays_itself s)
stays_clocked (Some moment) s t is = subst (StaysAsItWas s) (sym is) (record { stores = refl; moments = omega arith })

-- ---- one answer

module _ (before after : Server) (request : Request (List ℕ)) (looked : only_looks request ≡ true) where
  -- it has none of the other methods
  no_look : (m : DavMethod) → word m ≡ (head_of request).method → is_among (codes "PROPFIND" ∷ safe_methods) (word m) ≡ false → SameLive after.last before.state after.state
  no_look m is other = absurd (true≢false (sym looked ∙ ap (is_among (codes "PROPFIND" ∷ safe_methods)) (sym is) ∙ other))

  same_state : after.state ≡ before.state → SameLive after.last before.state after.state
  same_state is = ap (live after.last) is

  method_stays : (m : Option DavMethod) (result : Result ℕ Fault) (own : Sent) → IsMethod m (head_of request).method → AnswersTo m before request result own after
      → SameLive after.last before.state after.state
  method_stays (Some method.Get) result own is done = done.1
  method_stays (Some method.Head) result own is done = done.1
  method_stays (Some method.PropFind) result own is done = done.1
  method_stays (Some method.Options) (Ok status) own is done = same_state done.1
  method_stays (Some method.Options) (Err e) own is done = same_state done.1
  method_stays (Some method.Put) result own is done = no_look method.Put is refl
  method_stays (Some method.Delete) result own is done = no_look method.Delete is refl
  method_stays (Some method.Copy) result own is done = no_look method.Copy is refl
  method_stays (Some method.Move) result own is done = no_look method.Move is refl
  method_stays (Some method.MkCol) result own is done = no_look method.MkCol is refl
  method_stays (Some method.Unlock) result own is done = no_look method.Unlock is refl
  method_stays (Some method.Lock) result own is done = no_look method.Lock is refl
  method_stays (Some method.PropPatch) result own is done = no_look method.PropPatch is refl
  method_stays (Some method.Patch) result own is done = same_state done.1
  method_stays (Some method.Report) result own is done = same_state done.1
  method_stays (Some method.MkCalendar) result own is done = same_state done.1
  method_stays (Some method.MkAddressbook) result own is done = same_state done.1
  method_stays None result own is done = same_state done.1

  answer_stays : (response : Response) → Answers before request response after → StaysAsItWas before after
  answer_stays response h = stays_live before after (method_stays h.method h.result h.own h.is_method h.done) h.moves.moments

-- ---- a run

module _ {C : Type 0} (tells : C → Option ℕ → C → Type 0) where
  calls_stay : (calls : List Call) (s t : Timing C) → Chain Replies s (looking calls) t → StaysAsItWas s.server t.server
  calls_stay [] s t same = subst (λ (u : Timing C). StaysAsItWas s.server u.server) (sym same) (stays_itself s.server)
  calls_stay (c ∷ calls) s t chain = by (only_looks c.0) refl (λ u rest. calls_stay calls u t rest) chain
    where
      by : (b : Bool) → only_looks c.0 ≡ b → ((u : Timing C) → Chain Replies u (looking calls) t → StaysAsItWas u.server t.server) → Chain Replies s (cond b (c ∷ looking calls) (looking calls)) t
          → StaysAsItWas s.server t.server
      by true is rest chain = stays_on s.server (chain.0).server t.server (answer_stays s.server (chain.0).server c.0 is chain.1.0 chain.1.1) (rest chain.0 chain.2)
      by false is rest chain = rest s chain

  turn_stays : (number : ℕ) (calls : List Call) (s t : Timing C) → TakesTurn (BeginsTurn tells) Replies s number (looking calls) t → StaysAsItWas s.server t.server
  turn_stays number calls s t (inl none) = subst (λ (u : Timing C). StaysAsItWas s.server u.server) (sym none.1) (stays_itself s.server)
  turn_stays number calls s t (inr turn) =
      stays_on s.server (turn.0).server t.server (stays_clocked turn.1.0 s.server (turn.0).server turn.1.2) (calls_stay calls turn.0 t turn.2.chain)

  event_stays : (e : Event) (s t : Timing C) → EventDoes (BeginsTurn tells) Replies Clocked Listed (with_looks e) s t → StaysAsItWas s.server t.server
  event_stays (Answered number calls) s t does = turn_stays number calls s t does
  event_stays (Clock moment) s t does = stays_clocked (Some moment) s.server t.server does.0
  event_stays _ s t does = subst (λ (u : Timing C). StaysAsItWas s.server u.server) (sym does) (stays_itself s.server)

  -- a server that is asked what only_looks alone stays as it was
  pub looks_stay : (events : List Event) (s t : Timing C) → Leads tells s (map with_looks events) t → StaysAsItWas s.server t.server
  looks_stay [] s t same = subst (λ (u : Timing C). StaysAsItWas s.server u.server) (sym same) (stays_itself s.server)
  looks_stay (e ∷ events) s t leads = stays_on s.server (leads.0).server t.server (event_stays e s leads.0 leads.1) (looks_stay events leads.0 t leads.2)
