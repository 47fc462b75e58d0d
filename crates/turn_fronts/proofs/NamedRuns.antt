-- The events of a service that tells users lead the service behind it.
use Rattle.std.proofs.Common.{ℕ, List}
use Rattle.http.specs.declared.request.Request.{Request}
use Rattle.http_server.specs.declared.response.Response.{Response}
use Rattle.http_frames.specs.ConnectionEvents.{Event}
use Rattle.http_frames.specs.TurnRuns.{EventsLead}
use Rattle.http_frames.proofs.Simulations.{leads_to}
use Rattle.turn_fronts.specs.declared.named.Named.{Named}
use Rattle.turn_fronts.specs.NamedUsers.{AnswersNamed, BeginsUnnamed, HandsOnAs, NamedRun}

module _ {S : Type 0} (begins : S → ℕ → S → Type 0) (answers : S → Request (List ℕ) → Response → S → Type 0) (clocked : S → ℕ → S → Type 0) (listed : S → List ℕ → S → Type 0) where
  pub named_leads : (events : List Event) (old new : Named S) → NamedRun begins answers clocked listed old events new → EventsLead begins answers clocked listed old.service events new.service
  named_leads events old new run =
      leads_to (λ (n : Named S). n.service) (BeginsUnnamed begins) (AnswersNamed answers) (HandsOnAs clocked) (HandsOnAs listed) begins answers clocked listed (λ s n s' x. x.begun) (λ s request response s' x. x.answered)
      (λ s moment s' x. x.taken) (λ s file s' x. x.taken) events old new run
