-- One request to one server has one answer, and leaves one server.
use Rattle.std.proofs.Common.{◌≡◌, ◌⊎◌, inl, inr, ℕ, ◌/◌, Bool, true, false, List, [], Option, None, Some, Result, Ok, Err, refl, sym, ap, ◌∙◌, subst}
use Rattle.std.specs.Prelude.{IfErr, IfOk, OnOk, bytes_eq, if◌then◌else◌}
use Rattle.http.specs.declared.request.Request.{Request}
use Rattle.http.specs.Request.{head_of}
use Rattle.http_server.specs.declared.response.Response.{Response}
use Rattle.http_header.specs.FieldValue.{FieldValue}
use Rattle.http_header.specs.HeaderMap.{Entries}
use Rattle.dav_path_core.specs.declared.util.DavMethod.{DavMethod}
use Rattle.dav_path_core.specs.declared.util.DavMethod.TheVariants as method
use Rattle.dav_path_core.specs.Methods.{word}
use Rattle.dav_path_core.specs.Fronts.{Path}
use Rattle.dav_files_core.specs.Resources.{IsResourceMap}
use Rattle.dav_guarded_core.specs.Step.{State}
use Rattle.dav_faults_core.specs.Faults.{fault_status}
use Rattle.dav_faults_core.specs.declared.faults.Fault.{Fault}
use Rattle.dav_faults_core.specs.declared.faults.Fault.TheVariants as fault
use Rattle.dav_fields_core.specs.AnswerFields.{first_fields}
use Rattle.dav_fields_core.specs.Dates.{IsHttpDate}
use Rattle.dav_fields_core.specs.Fields.{Field, Sent, nothing_sent, sent_behind, sent_of}
use Rattle.dav_fields_core.specs.RequestRefusals.{IsLastMoment}
use Rattle.dav_fields_core.proofs.DateTextLemmas.{date_once}
use Rattle.dav_fields_core.proofs.OneDestinationLaws.{one_destination}
use Rattle.dav_session_core.specs.Callers.{Caller, SameLive, live}
use Rattle.dav_methods_core.specs.CreatedPlaces.{TellsPlace, place_fields}
use Rattle.dav_methods_core.specs.DeleteMethod.{FailsToRemove, Removes}
use Rattle.dav_methods_core.specs.MkcolMethod.{FailsToMake, Makes}
use Rattle.dav_safe_methods_core.specs.RefusalAnswers.{TellsWhy, refusal_sent}
use Rattle.dav_methods_core.specs.SameFaults.{AreAlike, IsDetermined}
use Rattle.dav_methods_core.specs.UnlockMethod.{FailsToUnlock, Unlocks}
use Rattle.dav_answers_core.proofs.DeleteAlikeLaws.{removes_once}
use Rattle.dav_answers_core.proofs.MkcolAlikeLaws.{makes_once}
use Rattle.dav_answers_core.proofs.SameFaultLemmas.{IsShort, equal_alike}
use Rattle.dav_answers_core.proofs.UnlockAlikeLaws.{unlocks_once}
use Rattle.dav_handler_core.specs.Answers.{Answers, AnswersTo, IsMethod, Leaves, SendsBehind, SendsOwn, status_of}
use Rattle.dav_handler_core.specs.MethodAnswers.{BareAnswers, IsWhole, PutAnswers, has_body}
use Rattle.dav_handler_core.specs.RequestMoments.{Comes, ComesAt, answer_moment, may_change}
use Rattle.dav_handler_core.specs.SameAnswers.{AreOneAnswer, LacksMemory, as_left}
use Rattle.dav_handler_core.specs.Server.{Server, site_for}
use Rattle.dav_answers_core.proofs.AnswerAlikeLaws.{another_left, bare, copies_here, finds_here, gets_here, leaves_by, lock_here, moves_here, patch_here, puts_here, refused_both, said, unchanged, with_own}
use Rattle.dav_answers_core.proofs.OneEndLaws.{AreOne, BothBegin, IsShortResult, NeitherBegins, comes_once}

-- ---- the method that a word names

abbrev named_as : List ℕ → DavMethod → Option DavMethod → Option DavMethod
named_as text m other = if bytes_eq text (word m) then Some m else other

abbrev named : List ℕ → Option DavMethod
named text =
    named_as text method.Head (named_as text method.Get (named_as text method.Put
    (named_as text method.Patch (named_as text method.Options (named_as text method.PropFind
    (named_as text method.PropPatch (named_as text method.MkCol (named_as text method.Copy
    (named_as text method.Move (named_as text method.Delete (named_as text method.Lock
    (named_as text method.Unlock (named_as text method.Report (named_as text method.MkCalendar
    (named_as text method.MkAddressbook None)))))))))))))))

named_word : (m : DavMethod) → named (word m) ≡ Some m
named_word method.Head = refl
named_word method.Get = refl
named_word method.Put = refl
named_word method.Patch = refl
named_word method.Options = refl
named_word method.PropFind = refl
named_word method.PropPatch = refl
named_word method.MkCol = refl
named_word method.Copy = refl
named_word method.Move = refl
named_word method.Delete = refl
named_word method.Lock = refl
named_word method.Unlock = refl
named_word method.Report = refl
named_word method.MkCalendar = refl
named_word method.MkAddressbook = refl

one_method : (m n : Option DavMethod) (text : List ℕ) → IsMethod m text → IsMethod n text → m ≡ n
one_method None None text h k = refl
one_method None (Some n) text h k = absurd (h n k)
one_method (Some m) None text h k = absurd (k m h)
one_method (Some m) (Some n) text h k = sym (named_word m) ∙ ap named (h ∙ sym k) ∙ named_word n

-- ---- a refusal leaves all as it was, but for want of memory

left_as_it_was : (m : Option DavMethod) (before : Server) (request : Request (List ℕ)) (e : Fault)
    (after : Server) → ¬ IsShort e → Leaves m before request e after
    → SameLive after.last before.state after.state
left_as_it_was (Some method.Copy) before request fault.InsufficientStorage after long h =
    absurd (long refl)
left_as_it_was (Some method.Copy) before request _ after long h = h
left_as_it_was (Some method.Move) before request fault.InsufficientStorage after long h =
    absurd (long refl)
left_as_it_was (Some method.Move) before request _ after long h = h
left_as_it_was (Some method.Lock) before request fault.InsufficientStorage after long h =
    absurd (long refl)
left_as_it_was (Some method.Lock) before request _ after long h = h
left_as_it_was _ before request e after long h = h

-- ---- by the method

-- the answer of a method, and when it comes
record By (before : Server) (request : Request (List ℕ)) (m : Option DavMethod)
    (result : Result ℕ Fault) (own : Sent) (end : Server) : Type 0 where
  done : AnswersTo m before request result own end
  sends : SendsOwn m before request result own
  comes : Comes m before request result end

module _ (before : Server) (request : Request (List ℕ)) (is_map : IsResourceMap before.state.map)
    (after other : Server) (own told : Sent) (result also : Result ℕ Fault) where
  abbrev States : Type 0
  States = live after.last after.state ≡ live after.last other.state

  record IsOneEnd : Type 0 where
    last : other.last ≡ after.last
    one : AreOne result also ((own ≡ told) × States)

  abbrev Outcome : Type 0
  Outcome = IsOneEnd ⊎ (IsShortResult result ⊎ IsShortResult also)

  -- where both begin, they end in one way
  by_moment : (changes : Bool) → ComesAt changes before request result after
      → ComesAt changes before request also other
      → ((changes ≡ true → ¬ IsLastMoment before.last) → other.last ≡ after.last
      → AreOne result also ((own ≡ told) × States)) → Outcome
  by_moment changes h k both = by (comes_once before request changes result also after other h k)
    where
      by : BothBegin before request changes after other
          ⊎ (NeitherBegins before request changes result also after other
          ⊎ (IsShortResult result ⊎ IsShortResult also)) → Outcome
      by (inl begin) = inl (record { last = begin.one; one = both begin.early begin.one })
      by (inr (inl neither)) = inl (record {
        last = neither.one;
        one = refused_both result also neither.e neither.f _ neither.is neither.also_is neither.alike;
      })
      by (inr (inr short)) = inr short

  -- what tells nothing of its own
  bare_told : AreOne result also States → OnOk result (own ≡ nothing_sent)
      → OnOk also (told ≡ nothing_sent) → AreOne result also ((own ≡ told) × States)
  bare_told one h k =
      with_own result also States (λ status sent. sent ≡ nothing_sent) own told one
      (said result (own ≡ nothing_sent) h) (said also (told ≡ nothing_sent) k)
      (λ status h k. h ∙ sym k)

  -- what tells where something was made
  abbrev Place : ℕ → Sent → Type 0
  Place status sent =
      TellsPlace (site_for before.options request) before.options.prefix (head_of request).headers
      status sent

  place_told : AreOne result also States → IfOk result (λ status. Place status own)
      → IfOk also (λ status. Place status told) → AreOne result also ((own ≡ told) × States)
  place_told one h k =
      with_own result also States Place own told one h k (λ status h k. h.tells
      ∙ ap (λ to. record {
        fields = place_fields before.options.prefix to status;
        body = [];
      }) (one_destination (site_for before.options request) before.options.prefix
      (head_of request).headers h.to k.to h.leads k.leads)
      ∙ sym k.tells)

  one_options : (h : AnswersTo (Some method.Options) before request result own after)
      → AnswersTo (Some method.Options) before request also told other
      → SendsOwn (Some method.Options) before request result own
      → SendsOwn (Some method.Options) before request also told
      → other.last ≡ after.last → AreOne result also ((own ≡ told) × States)
  one_options h k first second last = by result also h k first second
    where
      by : (r q : Result ℕ Fault) → AnswersTo (Some method.Options) before request r own after
          → AnswersTo (Some method.Options) before request q told other
          → SendsOwn (Some method.Options) before request r own
          → SendsOwn (Some method.Options) before request q told
          → AreOne r q ((own ≡ told) × States)
      by (Ok status) (Ok code) h k first second = (
        h.0 ∙ sym k.0,
        (first ∙ sym second, ap (live after.last) (h.1 ∙ sym k.1)),
      )
      by (Ok status) (Err f) h k first second = k.0
      by (Err e) (Ok code) h k first second = h.0
      by (Err e) (Err f) h k first second = inl h.0

  -- a method that isn't served
  unserved : (result ≡ Err fault.NotImplemented) × (after.state ≡ before.state)
      → (also ≡ Err fault.NotImplemented) × (other.state ≡ before.state)
      → after.last ≡ before.last → other.last ≡ before.last → Outcome
  unserved h k last at = inl (record {
    last = at ∙ sym last;
    one = refused_both result also fault.NotImplemented fault.NotImplemented _ h.0 k.0
        (equal_alike fault.NotImplemented fault.NotImplemented refl);
  })

  one_put : By before request (Some method.Put) result own after
      → By before request (Some method.Put) also told other → Outcome
  one_put h k = by h.comes k.comes
    where
      part : (r : Result ℕ Fault) (sent : Sent) (end : Server)
          → PutAnswers before request r sent end → ¬ IsWhole request → r ≡ Err fault.BadRequest
      part (Ok status) sent end done partly = absurd (partly done.0)
      part (Err e) sent end (inl bad) partly = ap Err bad.1
      part (Err e) sent end (inr done) partly = absurd (partly done.0)

      by : Comes (Some method.Put) before request result after
          → Comes (Some method.Put) before request also other → Outcome
      by (inl first) (inl second) = inl (record {
        last = second.1 ∙ sym first.1;
        one = refused_both result also fault.BadRequest fault.BadRequest _
            (part result own after h.done (λ whole. whole first.0))
            (part also told other k.done (λ whole. whole second.0))
            (equal_alike fault.BadRequest fault.BadRequest refl);
      })
      by (inl first) (inr second) = absurd (second.0 first.0)
      by (inr first) (inl second) = absurd (first.0 second.0)
      by (inr first) (inr second) =
          by_moment true first.1 second.1 (λ early last. another_left result also _ _
          (λ left. (left.0, ap (live after.last) left.1))
          (puts_here before request is_map after other own told early last first.0 result also h.done
          k.done))

  -- a method that only looks
  look_end : ComesAt false before request result after → ComesAt false before request also other
      → SameLive after.last before.state after.state
      → SameLive other.last before.state other.state
      → (other.last ≡ after.last → AreOne result also (own ≡ told)) → Outcome
  look_end h k left also_left one =
      by_moment false h k (λ early last. another_left result also _ _
      (λ same. (same, unchanged before request is_map after other last left also_left)) (one last))

  -- a method that takes no body and tells nothing of its own
  bare_end : (changes : Bool) (Does : State → Caller → Path → ℕ → State → Type 0)
      (Refuses : State → Caller → Path → Fault → Type 0)
      → ((s : State) (who : Caller) (p : Path) → IsResourceMap s.map
      → IsDetermined (Does s who p) (Refuses s who p))
      → ComesAt changes before request result after → ComesAt changes before request also other
      → BareAnswers changes Does Refuses before request result after
      → BareAnswers changes Does Refuses before request also other
      → OnOk result (own ≡ nothing_sent) → OnOk also (told ≡ nothing_sent) → Outcome
  bare_end changes Does Refuses law comes also_comes done also_done sends also_sends =
      by_moment changes comes also_comes (λ early last. bare_told
      (bare before request is_map after other changes Does Refuses
      (λ s who p shape. leaves_by before request is_map after other who.now _ _
      (law s who p shape)) early last result also done also_done) sends also_sends)

  abbrev headers : Entries FieldValue
  headers = (head_of request).headers

  one_end : (m : Option DavMethod) → By before request m result own after
      → By before request m also told other → Outcome
  one_end (Some method.Get) h k =
      look_end h.comes k.comes h.done.1 k.done.1 (λ last.
      gets_here before request is_map after other method.Get own told last result also h.done.0
      k.done.0)
  one_end (Some method.Head) h k =
      look_end h.comes k.comes h.done.1 k.done.1 (λ last.
      gets_here before request is_map after other method.Head own told last result also h.done.0
      k.done.0)
  one_end (Some method.PropFind) h k =
      look_end h.comes k.comes h.done.1 k.done.1 (λ last.
      finds_here before request is_map after other own told last result also h.done.0 k.done.0)
  one_end (Some method.Put) h k = one_put h k
  one_end (Some method.Delete) h k =
      bare_end true (Removes headers) (FailsToRemove headers) (removes_once headers) h.comes k.comes
      h.done k.done h.sends k.sends
  one_end (Some method.MkCol) h k =
      bare_end true (Makes headers) (FailsToMake headers)
      (λ s who p shape. makes_once headers s who p) h.comes k.comes h.done k.done h.sends k.sends
  one_end (Some method.Unlock) h k =
      bare_end false (Unlocks headers) (FailsToUnlock headers)
      (λ s who p shape. unlocks_once headers s who p) h.comes k.comes h.done k.done h.sends k.sends
  one_end (Some method.Copy) h k =
      by_moment true h.comes k.comes (λ early last. place_told
      (copies_here before request is_map after other early last result also h.done k.done)
      h.sends k.sends)
  one_end (Some method.Move) h k =
      by_moment true h.comes k.comes (λ early last. place_told
      (moves_here before request is_map after other early last result also h.done k.done)
      h.sends k.sends)
  one_end (Some method.PropPatch) h k =
      by_moment false h.comes k.comes (λ early last.
      patch_here before request is_map after other own told last result also h.done k.done)
  one_end (Some method.Lock) h k =
      by_moment (has_body request) h.comes k.comes (λ early last.
      lock_here before request is_map after other own told early last result also h.done k.done)
  one_end (Some method.Options) h k = inl (record {
    last = k.comes ∙ sym h.comes;
    one = one_options h.done k.done h.sends k.sends (k.comes ∙ sym h.comes);
  })
  one_end (Some method.Patch) h k = unserved h.done k.done h.comes k.comes
  one_end (Some method.Report) h k = unserved h.done k.done h.comes k.comes
  one_end (Some method.MkCalendar) h k = unserved h.done k.done h.comes k.comes
  one_end (Some method.MkAddressbook) h k = unserved h.done k.done h.comes k.comes
  one_end None h k = unserved h.done k.done h.comes k.comes

-- ---- what is told, and what is left

module _ (before : Server) (request : Request (List ℕ)) (date : List ℕ) (own told : Sent)
    (response answer : Response) (after other : Server) (long : ¬ LacksMemory response)
    (long_also : ¬ LacksMemory answer) where
  abbrev prefix : List ℕ
  prefix = before.options.prefix

  abbrev first : List Field
  first = first_fields date

  abbrev Lives : Type 0
  Lives = live after.last after.state ≡ live other.last other.state

  -- a refusal that is told with its date says why
  says_why : (e : Fault) (r : Response) → ¬ LacksMemory r → TellsWhy first prefix e (sent_of r)
      → sent_of r ≡ sent_behind first (refusal_sent prefix e)
  says_why e r whole (inl told) = told
  says_why e r whole (inr bare) = absurd (whole (inr (ap (λ (s : Sent). s.fields) bare.1)))

  -- a refusal isn't for want of memory
  not_short : (e : Fault) (r : Response) → ¬ LacksMemory r → r.status ≡ fault_status e → ¬ IsShort e
  not_short e r whole status short = whole (inl (status ∙ ap fault_status short))

  one_told : (r q : Result ℕ Fault) (m n : Option DavMethod) → other.last ≡ after.last
      → AreOne r q ((own ≡ told) × (live after.last after.state ≡ live after.last other.state))
      → response.status ≡ status_of r → answer.status ≡ status_of q
      → SendsBehind first prefix r own (sent_of response)
      → SendsBehind first prefix q told (sent_of answer)
      → IfErr r (λ e. Leaves m before request e after)
      → IfErr q (λ e. Leaves n before request e other)
      → AreOneAnswer prefix response answer × Lives
  one_told (Ok status) (Ok code) m n last one at also_at sends also_sends left also_left = (
    inl (
      at ∙ one.0 ∙ sym also_at,
      sends ∙ ap (sent_behind first) one.1.0 ∙ sym also_sends,
    ),
    one.1.1 ∙ ap (λ now. live now other.state) (sym last),
  )
  one_told (Ok status) (Err f) m n last one at also_at sends also_sends left also_left =
      absurd (not_short f answer long_also also_at one)
  one_told (Err e) (Ok code) m n last one at also_at sends also_sends left also_left =
      absurd (not_short e response long at one)
  one_told (Err e) (Err f) m n last one at also_at sends also_sends left also_left = (by one, lives)
    where
      why : sent_of response ≡ sent_behind first (refusal_sent prefix e)
      why = says_why e response long sends

      why_also : sent_of answer ≡ sent_behind first (refusal_sent prefix f)
      why_also = says_why f answer long_also also_sends

      by : AreAlike e f → AreOneAnswer prefix response answer
      by (inl short) = absurd (not_short e response long at short)
      by (inr (inl short)) = absurd (not_short f answer long_also also_at short)
      by (inr (inr (inl same))) = inl (
        at ∙ ap fault_status same ∙ sym also_at,
        why ∙ ap (λ x. sent_behind first (refusal_sent prefix x)) same ∙ sym why_also,
      )
      by (inr (inr (inr shows))) = inr (record {
        date = date;
        fault = e;
        also = f;
        shows = shows.0;
        alike = shows.1;
        told = record { status = at; sends = why };
        told_also = record { status = also_at; sends = why_also };
      })

      lives : Lives
      lives =
          left_as_it_was m before request e after (not_short e response long at) left
          ∙ sym (ap (λ now. live now before.state) last)
          ∙ sym (left_as_it_was n before request f other (not_short f answer long_also also_at) also_left)

-- ---- the law

module _ (before after other : Server) (request : Request (List ℕ)) (response answer : Response)
    (is_map : IsResourceMap before.state.map) (h : Answers before request response after)
    (k : Answers before request answer other) (long : ¬ LacksMemory response)
    (long_also : ¬ LacksMemory answer) where
  same_method : k.method ≡ h.method
  same_method =
      one_method k.method h.method (head_of request).method k.is_method h.is_method

  first_by : By before request h.method h.result h.own after
  first_by = record { done = h.done; sends = h.sends_own; comes = h.comes }

  second_by : By before request h.method k.result k.own other
  second_by =
      subst (λ m. By before request m k.result k.own other) same_method (record { done = k.done; sends = k.sends_own; comes = k.comes })

  one_date : h.date ≡ k.date
  one_date =
      date_once _ h.date k.date h.dated
      (subst (λ m. IsHttpDate (answer_moment (may_change m request) before / 1_000_000_000) k.date)
      same_method k.dated)

  lacks : (result : Result ℕ Fault) (r : Response) → r.status ≡ status_of result
      → IsShortResult result → LacksMemory r
  lacks (Ok status) r is short = absurd short
  lacks (Err e) r is short = inl (is ∙ ap fault_status short)

  left_once : other.last ≡ after.last
      → live after.last after.state ≡ live other.last other.state → as_left after ≡ as_left other
  left_once last states =
      let options : after.options ≡ other.options = h.moves.options ∙ sym k.moves.options in
      let clock : after.clock ≡ other.clock = h.moves.clock ∙ sym k.moves.clock in
      let noting : after.noting ≡ other.noting = h.moves.noting ∙ sym k.moves.noting in
      λ i. record {
        options = options i;
        state = states i;
        last = sym last i;
        clock = clock i;
        noting = noting i;
      }

  abbrev One : Type 0
  One = AreOneAnswer before.options.prefix response answer × (as_left after ≡ as_left other)

  pub one_answer : One
  one_answer =
      by (one_end before request is_map after other h.own k.own h.result k.result h.method first_by
      second_by)
    where
      by : Outcome before request is_map after other h.own k.own h.result k.result → One
      by (inl end) =
          let both = one_told before request h.date h.own k.own response answer after other long
          long_also h.result k.result h.method k.method end.last end.one h.status k.status h.sends
          (subst (λ date. SendsBehind (first_fields date) before.options.prefix k.result k.own
          (sent_of answer)) (sym one_date) k.sends) h.refused k.refused in
          (both.0, left_once end.last both.1)
      by (inr (inl short)) = absurd (long (lacks h.result response h.status short))
      by (inr (inr short)) = absurd (long_also (lacks k.result answer k.status short))
