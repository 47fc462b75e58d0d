-- How long a lock with a timeout stands over a run of a server.
use Rattle.std.proofs.Common.{◌≡◌, ◌⊎◌, inl, inr, ℕ, ◌≤◌, ◌+◌, Bool, true, false, not, List, Option, None, Some, Ok, refl, sym, ◌∙◌, ap, subst, arith}
use Rattle.std.specs.Prelude.{Contains, nat_le, if◌then◌else◌}
use Rattle.std.proofs.Math.Nat.{le-max_right}
use Rattle.std.proofs.lemmas.Bool.{cases_Bool, leb-false, leb-true, le-leb, true≢false}
use Rattle.http.specs.declared.request.Request.{Request}
use Rattle.http_server.specs.declared.response.Response.{Response}
use Rattle.dav_path_core.proofs.lists.MemberLemmas.{Contains-In, In, In-Contains, In-filter}
use Rattle.dav_locks_core.specs.Exclusive.{Exclusive}
use Rattle.dav_locks_core.specs.Lock.{Lock}
use Rattle.dav_locks_core.specs.Stale.{has_come, is_stale}
use Rattle.dav_session_core.proofs.AnewLemmas.{of_filter}
use Rattle.dav_handler_core.specs.Answers.{Answers}
use Rattle.dav_handler_core.specs.LockTimes.{FindsNoneBehind, IsEndedByHolder, StandsItsTime}
use Rattle.dav_handler_core.specs.RequestMoments.{ComesAt}
use Rattle.dav_handler_core.specs.RequestMoments.ComesAt.{begun, unread}
use Rattle.dav_handler_core.specs.Server.{Server}
use Rattle.dav_handler_core.specs.TagHistories.{Becomes, Restarts}
use Rattle.dav_handler_core.specs.TagHistories.Becomes.{by_answer, by_clock, by_restart, itself}
use Rattle.dav_handler_core.proofs.HoldingLaws.{stands_unless_ended}
use Rattle.dav_handler_core.proofs.SameLocks.{contained}

-- what hasn't come at a moment hasn't come before it
not_earlier : (now later : ℕ) (l : Lock) → now ≤ later → is_stale later l ≡ false → is_stale now l ≡ false
not_earlier now later l h lasts = by l.timeout_at refl lasts
  where
    by : (o : Option ℕ) → l.timeout_at ≡ o → has_come later o ≡ false → has_come now o ≡ false
    by None is h = refl
    by (Some end) is none = elim (cases_Bool (nat_le end now)) [
      | inl came ↦ absurd (omega (arith, leb-true end now came, h, leb-false end later none))
      | inr fine ↦ fine
    ]

-- moments go on, and the locks stay apart
run_on : (s s' : Server) → Becomes s s' → (s.last ≤ s'.last) × (Exclusive s.state.locks → Exclusive s'.state.locks)
run_on s s' itself = (omega arith, λ x. x)
run_on s s' (by_clock mid now h) = run_on s mid h
run_on s s' (by_answer mid after request response h answer) =
    let so_far = run_on s mid h in
    (omega (arith, so_far.0, answer.moves.moments), λ x. answer.exclusive (so_far.1 x))
run_on s s' (by_restart mid after h again) = let so_far = run_on s mid h in (omega (arith, so_far.0, again.moments), λ x. again.apart)

-- one more clock or answer behind a request that ended it
ended_more : (l : Lock) (s mid after : Server) → ((b : Server) → Becomes b mid → Becomes b after)
    → IsEndedByHolder l s mid → IsEndedByHolder l s after
ended_more l s mid after on h = record {
  before = h.before;
  after = h.after;
  request = h.request;
  response = h.response;
  first = h.first;
  answers = h.answers;
  rest = on h.after h.rest;
  holders = h.holders;
  stood = h.stood;
  gone = h.gone;
}

-- a lock that has not expired stands again
opened_again : (mid after : Server) → Restarts mid after → (l : Lock) → is_stale mid.last l ≡ false → Contains mid.state.locks l → Contains after.state.locks l
opened_again mid after again l lasts still =
    let lives : Lock → Bool = λ l. not (is_stale mid.last l) in
    let here = In-filter lives mid.state.locks l (In-Contains mid.state.locks l still) (ap not lasts) in
    Contains-In after.state.locks l (of_filter lives after.state.locks l (subst (In l) (sym again.locks) here)).0

-- one more answer: the lock stands, or it is gone, and the request was its holder's
ended_here : (l : Lock) (s mid after : Server) (request : Request (List ℕ)) (response : Response)
    → Exclusive mid.state.locks → Becomes s mid → Answers mid request response after
    → Contains mid.state.locks l → is_stale after.last l ≡ false
    → Contains after.state.locks l ⊎ IsEndedByHolder l s after
ended_here l s mid after request response x h answer still lasts = elim (contained l after.state.locks) [
  | inl stands ↦ inl stands
  | inr gone ↦ elim (stands_unless_ended mid after request response answer x l (record { stood = still; lasts = lasts })) [
    | inl stands ↦ inl stands
    | inr holders ↦ inr (record {
      before = mid;
      after = after;
      request = request;
      response = response;
      first = h;
      answers = answer;
      rest = itself;
      holders = holders;
      stood = still;
      gone = gone;
    })
  ]
]

pub stands_its_time : (s s' : Server) → Exclusive s.state.locks → Becomes s s' → StandsItsTime s s'
stands_its_time s s' x itself l stood lasts = inl stood
stands_its_time s s' x (by_clock mid now h) l stood lasts = elim (stands_its_time s mid x h l stood lasts) [
  | inl still ↦ inl still
  | inr ended ↦ inr (ended_more l s mid (record mid { clock = now }) (λ b run. by_clock mid now run) ended)
]
stands_its_time s s' x (by_answer mid after request response h answer) l stood lasts =
    elim (stands_its_time s mid x h l stood (not_earlier mid.last after.last l answer.moves.moments lasts)) [
      | inl still ↦ ended_here l s mid after request response ((run_on s mid h).1 x) h answer still lasts
      | inr ended ↦ inr (ended_more l s mid after (λ b run. by_answer mid after request response run answer) ended)
    ]
stands_its_time s s' x (by_restart mid after h again) l stood lasts =
    let before = not_earlier mid.last after.last l again.moments lasts in
    elim (stands_its_time s mid x h l stood before) [
      | inl still ↦ inl (opened_again mid after again l before still)
      | inr ended ↦ inr (ended_more l s mid after (λ b run. by_restart mid after run again) ended)
    ]

-- a lock whose end has come at the clock has expired at the moment of a request
pub finds_none : (changes : Bool) (before after : Server) (request : Request (List ℕ)) (status : ℕ) → ComesAt changes before request (Ok status) after → FindsNoneBehind before after
finds_none changes before after request status (unread e is h at) l end ends came within = absurd (cc)
finds_none changes before after request status (begun path who begins at) l end ends came within =
    let clock = le-max_right (if changes then before.last + 1 else before.last) before.clock in
    let here : before.clock ≤ after.last = subst (λ n. before.clock ≤ n) (sym at.0) clock in
    let stale : is_stale after.last l ≡ true = ap (has_come after.last) ends ∙ le-leb end after.last (omega (arith, came, here)) in
    let left = (of_filter (λ l. not (is_stale after.last l)) before.state.locks l (In-Contains _ l within)).1 in
    true≢false (sym left ∙ ap not stale)
