-- Through a gate that is open at first one call goes at most, and the log is told of it.
use Rattle.std.proofs.Common.{◌≡◌, ℕ, List, [], ◌∷◌, IsTrue, IsFalse, refl, sym, ap, ◌∙◌, subst, arith, true≢false}
use Rattle.http.specs.declared.request.Request.{Request}
use Rattle.http_server.specs.declared.response.Response.{Response}
use Rattle.http_server.specs.Exchange.{Call, Chain}
use Rattle.http_frames.specs.declared.gate.OneCall.{OneCall}
use Rattle.http_frames.specs.Gate.{CallsOnce}
use Rattle.http_frames.specs.Logging.{LogsCalls}

module _ {S L : Type 0} (answers : S → Request (List ℕ) → Response → S → Type 0) (answered : L → Request (List ℕ) → Response → List ℕ → L → Type 0) (user : S → List ℕ) where
  abbrev Gated : OneCall S L → Request (List ℕ) → Response → OneCall S L → Type 0
  Gated old request response new = IsFalse old.spent × IsTrue new.spent × answers old.service request response new.service × answered old.log request response (user new.service) new.log

  pub once : (calls : List Call) (old new : OneCall S L) → Chain Gated old calls new → CallsOnce answers old.service calls new.service
  once [] old new x = record { one = omega arith; chain = ap (λ (o : OneCall S L). o.service) x }
  once (c ∷ []) old new x = record { one = omega arith; chain = (x.0.service, x.1.2, ap (λ (o : OneCall S L). o.service) x.2) }
  once (c ∷ d ∷ calls) old new x = absurd (true≢false (sym x.1.1 ∙ x.2.1.0))

  pub logged : (calls : List Call) (old new : OneCall S L) → Chain Gated old calls new → LogsCalls answered (user new.service) calls old.log new.log
  logged [] old new x = ap (λ (o : OneCall S L). o.log) x
  logged (c ∷ []) old new x = subst (λ (o : OneCall S L). answered old.log c.0 c.1 (user o.service) o.log) (sym x.2) x.1.3
  logged (c ∷ d ∷ calls) old new x = absurd (true≢false (sym x.1.1 ∙ x.2.1.0))

  -- where a call was made, the gate is shut
  pub spent : (calls : List Call) (old new : OneCall S L) → Chain Gated old calls new → ¬ (calls ≡ []) → IsTrue new.spent
  spent [] old new x some = absurd (some refl)
  spent (c ∷ []) old new x some = ap (λ (o : OneCall S L). o.spent) x.2 ∙ x.1.1
  spent (c ∷ d ∷ calls) old new x some = absurd (true≢false (sym x.1.1 ∙ x.2.1.0))
