-- The calls and the turns of a login are some of the service behind it.
use Rattle.std.proofs.Common.{◌⊎◌, ◌≤◌, ℕ, List, [], ◌∷◌, length, refl, ap, subst, ◌∙◌, inl, inr, arith}
use Rattle.http.specs.declared.request.Request.{Request}
use Rattle.http_server.specs.declared.response.Response.{Response}
use Rattle.http_server.specs.Exchange.{Call, Chain}
use Rattle.http_frames.specs.Gate.{CallsOnce, IsTold}
use Rattle.dav_login_core.specs.CallsBehind.{AreBehind, LeadsBehind, TurnsBehind}
use Rattle.dav_login_core.specs.declared.known.Known.{Known}
use Rattle.dav_login_core.specs.declared.login.Login.{Login}
use Rattle.dav_login_core.specs.LoggedIn.{Door, HandsOn, IsPutOff, IsNotKnown, IsTurnedAway, IsUnknown, LoggedIn, LoginState, TurnsAway, PassesOn}
use Rattle.dav_login_core.specs.LoginViews.{login}

-- it is turned away, whatever is known
turned : (door : Door) (request : Request (List ℕ)) (response : Response) (known : List Known) → IsUnknown door request response ⊎ (IsPutOff request response × IsNotKnown door known request)
    → IsTurnedAway door request response
turned door request response known (inl unknown) = inl unknown
turned door request response known (inr held) = inr held.0

-- no more are passed on than there are
behind_short : (door : Door) (calls inner : List Call) → AreBehind door calls inner → length inner ≤ length calls
behind_short door [] inner none = omega (arith, ap length none)
behind_short door (c ∷ calls) inner (inl refused) = omega (arith, behind_short door calls inner refused.1)
behind_short door (c ∷ calls) inner (inr passed) = omega (arith, ap length passed.2, behind_short door calls passed.1 passed.4)

module _ {S H : Type 0} (answers : S → Request (List ℕ) → Response → S → Type 0) where
  one_more : (c : Call) (calls : List Call) (old next new : LoginState S H) → LoggedIn answers old c.0 c.1 next → LeadsBehind answers next calls new
      → LeadsBehind answers old (c ∷ calls) new
  one_more c calls old next new answered leads = by answered.answer
    where
      behind : AreBehind old.door calls leads.inner
      behind = subst (λ (d : Door). AreBehind d calls leads.inner) answered.door leads.behind

      by : TurnsAway old c.0 c.1 next ⊎ PassesOn old c.0 c.1 next answers
          → LeadsBehind answers old (c ∷ calls) new
      by (inl refuses) = record {
        inner = leads.inner;
        behind = inl (turned old.door c.0 c.1 old.known refuses.refused, behind);
        chain = subst (λ (s : LoginState S H). Chain answers s.service leads.inner new.service) refuses.stays leads.chain;
        door = leads.door ∙ answered.door;
        host = leads.host ∙ answered.host;
      }
      by (inr serves) = record {
        inner = (serves.inner, c.1) ∷ leads.inner;
        behind = inr (serves.inner, leads.inner, refl, serves.passed, behind);
        chain = (next.service, serves.answered, leads.chain);
        door = leads.door ∙ answered.door;
        host = leads.host ∙ answered.host;
      }

module _ {S H : Type 0} (begins : S → ℕ → S → Type 0) (answers : S → Request (List ℕ) → Response → S → Type 0) where
  -- what the login begins, and what it answers
  abbrev pub LoginBegins : Login S H → ℕ → Login S H → Type 0
  LoginBegins old number new = HandsOn begins (login old) number (login new)

  abbrev pub LoginAnswers : Login S H → Request (List ℕ) → Response → Login S H → Type 0
  LoginAnswers old request response new = LoggedIn answers (login old) request response (login new)

  -- the calls of a login lead where those behind it lead the service
  pub leads_behind : (old new : Login S H) (calls : List Call) → Chain LoginAnswers old calls new → LeadsBehind answers (login old) calls (login new)
  leads_behind old new [] same = record {
    inner = [];
    behind = refl;
    chain = ap (λ (l : Login S H). l.service) same;
    door = ap (λ (l : Login S H). (login l).door) same;
    host = ap (λ (l : Login S H). (login l).host) same;
  }
  leads_behind old new (c ∷ calls) chain = one_more answers c calls (login old) (login chain.0) (login new) chain.1 (leads_behind chain.0 new calls chain.2)

  -- where the login was called once at most, so was the service
  once_by : (old new : Login S H) (calls : List Call) (leads : LeadsBehind answers (login old) calls (login new)) → length calls ≤ 1 → CallsOnce answers old.service leads.inner new.service
  once_by old new calls leads one = record { one = omega (arith, one, behind_short (login old).door calls leads.inner leads.behind); chain = leads.chain }

  pub once_behind : (old new : Login S H) (calls : List Call) → CallsOnce LoginAnswers old calls new → (inner : List Call) × CallsOnce answers old.service inner new.service
  once_behind old new calls once =
      let leads = leads_behind old new calls once.chain in
      (leads.inner, once_by old new calls leads once.one)

  -- where the login was told of a turn, the service was
  pub turns_behind : (old new : Login S H) (number : ℕ) (calls : List Call) → IsTold LoginBegins LoginAnswers old number calls new
      → TurnsBehind begins answers (login old) number calls (login new)
  turns_behind old new number calls told =
      let leads = leads_behind told.0 new calls told.2.chain in
      record {
        inner = leads.inner;
        behind = subst (λ (d : Door). AreBehind d calls leads.inner) told.1.door leads.behind;
        told = (told.0.service, told.1.service, once_by told.0 new calls leads told.2.one);
        door = leads.door ∙ told.1.door;
        host = leads.host ∙ told.1.host;
      }
