-- One request to one server is answered in one way, method by method.
use Rattle.std.proofs.Common.{◌≡◌, ◌≢◌, ◌⊎◌, inl, inr, ℕ, Bool, true, false, List, [], ◌∷◌, Option, Some, Result, Ok, Err, refl, sym, ap, ◌∙◌, subst}
use Rattle.std.specs.Prelude.{IfOk, OnOk}
use Rattle.std.proofs.lemmas.Bool.{false≢true}
use Rattle.http.specs.declared.request.Request.{Request}
use Rattle.http.specs.Request.{body_of, head_of}
use Rattle.http_header.specs.FieldValue.{FieldValue}
use Rattle.http_header.specs.HeaderMap.{Entries}
use Rattle.dav_path_core.specs.declared.util.DavMethod.{DavMethod}
use Rattle.dav_path_core.specs.Fronts.{Path}
use Rattle.dav_path_core.specs.PathText.{PathText}
use Rattle.dav_path_core.specs.Segments.{segments}
use Rattle.dav_path_core.proofs.lists.FinMaps.{one_some}
use Rattle.dav_files_core.specs.Resources.{IsResourceMap, Resource, at_path}
use Rattle.dav_guarded_core.specs.Step.{State}
use Rattle.dav_faults_core.specs.declared.faults.Fault.{Fault}
use Rattle.dav_faults_core.specs.declared.faults.Fault.TheVariants as fault
use Rattle.dav_fields_core.specs.AnswerFields.{tag_field}
use Rattle.dav_fields_core.specs.Bases.{Site}
use Rattle.dav_fields_core.specs.Fields.{Sent, nothing_sent}
use Rattle.dav_fields_core.specs.FileTags.{tag_of}
use Rattle.dav_fields_core.specs.RequestRefusals.{IsLastMoment}
use Rattle.dav_documents_core.specs.PropertyUpdates.{Update, updates_in}
use Rattle.dav_documents_core.specs.PatchBodies.{patch_nodes}
use Rattle.dav_xml_core.specs.Writing.{document_bytes}
use Rattle.dav_session_core.specs.Callers.{Caller, SameLive, live}
use Rattle.dav_methods_core.specs.CopyMethod.{Copies, FailsToCopy}
use Rattle.dav_safe_methods_core.specs.GetMethod.{FailsToGet, Gets}
use Rattle.dav_methods_core.specs.LockMethod.{FailsToLock, IsGranted}
use Rattle.dav_methods_core.specs.MoveMethod.{FailsToMove, Moves}
use Rattle.dav_safe_methods_core.specs.PropfindMethod.{FailsToTell, TellsFound}
use Rattle.dav_methods_core.specs.ProppatchMethod.{FailsToPatch, Patches}
use Rattle.dav_methods_core.specs.PutMethod.{FailsToPut, Puts, Writes}
use Rattle.dav_methods_core.specs.RefreshMethod.{FailsToRefresh, Refreshes}
use Rattle.dav_methods_core.specs.SameFaults.{AreAlike, IsDetermined, LeavesLive}
use Rattle.dav_safe_methods_core.specs.SentDocuments.{document_sent}
use Rattle.dav_methods_core.specs.ToldPaths.{told_path}
use Rattle.dav_answers_core.proofs.CopyAlikeLaws.{copies_once}
use Rattle.dav_answers_core.proofs.FindAlikeLaws.{find_refusals_alike, finds_once, finds_or_not}
use Rattle.dav_answers_core.proofs.GetAlikeLaws.{get_refusals_alike, gets_once, gets_or_not}
use Rattle.dav_answers_core.proofs.LockAlikeLaws.{grants_once, grants_or_not, lock_refusals_alike}
use Rattle.dav_answers_core.proofs.MoveAlikeLaws.{moves_once}
use Rattle.dav_answers_core.proofs.PatchAlikeLaws.{patches_once}
use Rattle.dav_answers_core.proofs.PutAlikeLaws.{puts_once}
use Rattle.dav_answers_core.proofs.RefreshAlikeLaws.{refresh_refusals_alike, refreshed_or_not, refreshes_once}
use Rattle.dav_answers_core.proofs.SameFaultLemmas.{IsShort, equal_alike}
use Rattle.dav_answers_core.proofs.StageLemmas.{AllAlike}
use Rattle.dav_handler_core.specs.MethodAnswers.{Admits, BareAnswers, Begins, ChangeAnswers, CopyAnswers, FindAnswers, GetAnswers, HoldsOff, IsPut, IsWhole, LockAnswers, MoveAnswers, PatchAnswers, PutAnswers, RefusesBody, has_body}
use Rattle.dav_handler_core.specs.Server.{Server, site_for}
use Rattle.dav_answers_core.proofs.OneEndLaws.{AreOne, EndsBadly, Ends, EndsWell, IsDoneOnce, at, ends_once}

-- ---- results

-- both are refused alike
pub refused_both : (result also : Result ℕ Fault) (e f : Fault) (Left : Type 0) → result ≡ Err e
    → also ≡ Err f → AreAlike e f → AreOne result also Left
refused_both result also e f Left is also_is alike =
    subst (λ (r : Result ℕ Fault). AreOne r also Left) (sym is)
    (subst (λ (r : Result ℕ Fault). AreOne (Err e) r Left) (sym also_is) alike)

-- and what is told besides
pub with_own : (result also : Result ℕ Fault) (Left : Type 0) (Says : ℕ → Sent → Type 0)
    (own other : Sent) → AreOne result also Left → IfOk result (λ status. Says status own)
    → IfOk also (λ status. Says status other)
    → ((status : ℕ) → Says status own → Says status other → own ≡ other)
    → AreOne result also ((own ≡ other) × Left)
with_own (Ok status) (Ok code) Left Says own other one h k once =
    (one.0, (once code (subst (λ n. Says n own) one.0 h) k, one.1))
with_own (Ok status) (Err f) Left Says own other one h k once = one
with_own (Err e) (Ok code) Left Says own other one h k once = one
with_own (Err e) (Err f) Left Says own other one h k once = one

pub said : (result : Result ℕ Fault) (Says : Type 0) → OnOk result Says
    → IfOk result (λ status. Says)
said (Ok status) Says h = h
said (Err e) Says h = tt

pub another_left : (result also : Result ℕ Fault) (Left Now : Type 0) → (Left → Now)
    → AreOne result also Left → AreOne result also Now
another_left (Ok status) (Ok code) Left Now on one = (one.0, on one.1)
another_left (Ok status) (Err f) Left Now on one = one
another_left (Err e) (Ok code) Left Now on one = one
another_left (Err e) (Err f) Left Now on one = one

-- ---- one request, and two servers that are left

module _ (before : Server) (request : Request (List ℕ)) (is_map : IsResourceMap before.state.map)
    (after other : Server) where
  abbrev headers : Entries FieldValue
  headers = (head_of request).headers

  abbrev body : List ℕ
  body = body_of request

  abbrev found : ℕ → State
  found n = live n before.state

  abbrev States : Type 0
  States = live after.last after.state ≡ live after.last other.state

  begins_at : (end : Server) (path : PathText) (who : Caller) → Begins before request end path who
      → Begins before request (at before end.last) path who
  begins_at end path who h = record { names = h.names; from = h.from; now = h.now }

  -- a request that is done, or refused, as it came at the moment of a server that is left
  well : (changes : Bool) (Does : ℕ → Caller → PathText → ℕ → Type 0) (end : Server) (status : ℕ)
      (path : PathText) (who : Caller) → Begins before request end path who
      → Admits before request end path → Does end.last who path status
      → EndsWell before request changes end.last Does status
  well changes Does end status path who begins admits does = record {
    path = path;
    who = who;
    begins = begins_at end path who begins;
    admits = admits;
    does = does;
  }

  badly : (changes : Bool) (Refuses : ℕ → Caller → PathText → Fault → Type 0) (end : Server)
      (e : Fault) (path : PathText) (who : Caller) → Begins before request end path who
      → HoldsOff before request end path e
      ⊎ (Admits before request end path × Refuses end.last who path e)
      → EndsBadly before request changes end.last Refuses e
  badly changes Refuses end e path who begins why = record {
    path = path;
    who = who;
    begins = begins_at end path who begins;
    why = why;
  }

  -- ---- methods that change something

  module _ (changes : Bool) (Refuses : State → Caller → Path → Fault → Type 0) where
    abbrev Refused : ℕ → Caller → PathText → Fault → Type 0
    Refused n who path e = Refuses (found n) who (segments path.bytes) e

    abbrev DoneBy : (State → Caller → Path → ℕ → State → Type 0) → State → ℕ → Caller → PathText
        → ℕ → Type 0
    DoneBy Does left n who path status = Does (found n) who (segments path.bytes) status left

    change_ends : (Does : State → Caller → Path → ℕ → State → Type 0) (end : Server)
        (result : Result ℕ Fault) → ChangeAnswers changes Does Refuses before request result end
        → Ends before request changes end.last (DoneBy Does end.state) Refused result
    change_ends Does end (Ok status) h =
        well changes (DoneBy Does end.state) end status h.path h.who h.begins h.admits h.does
    change_ends Does end (Err e) (inl unread) = inl unread
    change_ends Does end (Err e) (inr h) =
        inr (badly changes Refused end e h.path h.who h.begins h.why)

    change_once : (Does Also : State → Caller → Path → ℕ → State → Type 0) (Left : Type 0)
        → (changes ≡ true → ¬ IsLastMoment before.last) → other.last ≡ after.last
        → ((who : Caller) (p : Path) → who.now ≡ after.last
        → IsDoneOnce (λ status. Does (found after.last) who p status after.state)
        (λ status. Also (found after.last) who p status other.state)
        (Refuses (found after.last) who p) Left)
        → (result also : Result ℕ Fault)
        → ChangeAnswers changes Does Refuses before request result after
        → ChangeAnswers changes Also Refuses before request also other → AreOne result also Left
    change_once Does Also Left early one law result also h k =
        ends_once before request changes after.last early (DoneBy Does after.state)
        (DoneBy Also other.state) Refused Left (λ path who now. law who (segments path.bytes) now)
        result also (change_ends Does after result h)
        (subst (λ n. Ends before request changes n (DoneBy Also other.state) Refused also) one
        (change_ends Also other also k))

  -- what is done leaves one state but for locks that have expired
  pub record LeavesOnce (now : ℕ) (Does : ℕ → State → Type 0) (Fails : Fault → Type 0) : Type 0 where
    pub done : (status code : ℕ) (s' s'' : State) → Does status s' → Does code s''
        → (status ≡ code) × (live now s' ≡ live now s'')
    pub either : (status : ℕ) (s' : State) (e : Fault) → Does status s' → Fails e → IsShort e
    pub refused : AllAlike Fails

  pub leaves_by : (now : ℕ) (Does : ℕ → State → Type 0) (Fails : Fault → Type 0)
      → IsDetermined Does Fails → LeavesOnce now Does Fails
  leaves_by now Does Fails law = record {
    done = λ status code s' s'' h k.
        let same = law.done status code s' s'' h k in (same.0, ap (live now) same.1);
    either = law.either;
    refused = law.refused;
  }

  -- why a method that takes no body is refused
  abbrev Bare : (Fault → Type 0) → Fault → Type 0
  Bare Fails e = ((body ≢ []) × (e ≡ fault.UnsupportedMediaType)) ⊎ ((body ≡ []) × Fails e)

  -- without a body
  bare_once : (now : ℕ) (Does : ℕ → State → Type 0) (Fails : Fault → Type 0)
      → LeavesOnce now Does Fails → now ≡ after.last
      → IsDoneOnce (λ status. (body ≡ []) × Does status after.state)
      (λ status. (body ≡ []) × Does status other.state)
      (Bare Fails) States
  bare_once now Does Fails law is = record {
    done = λ status code h k.
        let same = law.done status code after.state other.state h.1 k.1 in
        (same.0, subst (λ n. live n after.state ≡ live n other.state) is same.1);
    either = λ status e h. not_both status e after.state h;
    also = λ status e h. not_both status e other.state h;
    refused = alike;
  }
    where
      not_both : (status : ℕ) (e : Fault) (left : State) → (body ≡ []) × Does status left
          → Bare Fails e → IsShort e
      not_both status e left h (inl some) = absurd (some.0 h.0)
      not_both status e left h (inr k) = law.either status left e h.1 k.1

      alike : AllAlike (Bare Fails)
      alike e f (inl h) (inl k) = equal_alike e f (h.1 ∙ sym k.1)
      alike e f (inl h) (inr k) = absurd (h.0 k.0)
      alike e f (inr h) (inl k) = absurd (k.0 h.0)
      alike e f (inr h) (inr k) = law.refused e f h.1 k.1

  pub bare : (changes : Bool) (Does : State → Caller → Path → ℕ → State → Type 0)
      (Fails : State → Caller → Path → Fault → Type 0)
      → ((s : State) (who : Caller) (p : Path) → IsResourceMap s.map
      → LeavesOnce who.now (Does s who p) (Fails s who p))
      → (changes ≡ true → ¬ IsLastMoment before.last) → other.last ≡ after.last
      → (result also : Result ℕ Fault) → BareAnswers changes Does Fails before request result after
      → BareAnswers changes Does Fails before request also other → AreOne result also States
  bare changes Does Fails law early one result also h k =
      change_once changes (RefusesBody request Fails)
      (λ s who p status s'. (body ≡ []) × Does s who p status s')
      (λ s who p status s'. (body ≡ []) × Does s who p status s') States early one
      (λ who p now. bare_once who.now (Does (found after.last) who p) (Fails (found after.last) who p)
      (law (found after.last) who p is_map) now) result also h k

  -- ---- GET and HEAD

  pub unchanged : (one : other.last ≡ after.last) → SameLive after.last before.state after.state
      → SameLive other.last before.state other.state → States
  unchanged one h k =
      h ∙ sym (subst (λ n. live n other.state ≡ live n before.state) one k)

  module _ (m : DavMethod) where
    abbrev GetsHere : Sent → ℕ → Caller → PathText → ℕ → Type 0
    GetsHere own n who path status = Gets m before.state.map path headers status own

    abbrev FailsHere : ℕ → Caller → PathText → Fault → Type 0
    FailsHere n who path e = FailsToGet m before.state.map (segments path.bytes) headers e

    get_ends : (end : Server) (own : Sent) (result : Result ℕ Fault)
        → GetAnswers m before request result own end
        → Ends before request false end.last (GetsHere own) FailsHere result
    get_ends end own (Ok status) h =
        well false (GetsHere own) end status h.path h.who h.begins h.admits h.gets
    get_ends end own (Err e) (inl unread) = inl unread
    get_ends end own (Err e) (inr h) =
        inr (badly false FailsHere end e h.path h.who h.begins h.why)

    pub gets_here : (own told : Sent) → other.last ≡ after.last → (result also : Result ℕ Fault)
        → GetAnswers m before request result own after
        → GetAnswers m before request also told other → AreOne result also (own ≡ told)
    gets_here own told one result also h k =
        ends_once before request false after.last (λ is. absurd (false≢true is)) (GetsHere own)
        (GetsHere told) FailsHere (own ≡ told) (λ path who now. record {
          done = λ status code g r.
              gets_once m before.state.map path headers status code own told g r;
          either = λ status e g. gets_or_not m before.state.map path headers status own g e;
          also = λ status e g. gets_or_not m before.state.map path headers status told g e;
          refused = get_refusals_alike m before.state.map (segments path.bytes) headers;
        }) result also (get_ends after own result h)
        (subst (λ n. Ends before request false n (GetsHere told) FailsHere also) one
        (get_ends other told also k))

  -- ---- PROPFIND

  module _ (finite : Bool) (prefix : List ℕ) where
    abbrev Told : Sent → State → Caller → Path → ℕ → State → Type 0
    Told own s who p status s' = TellsFound finite prefix headers body own s who p status s'

    abbrev Untold : State → Caller → Path → Fault → Type 0
    Untold s who p e = FailsToTell finite headers body s who p e

    found_once : (own told : Sent) (s : State) (who : Caller) (p : Path) (s' s'' : State)
        → IsResourceMap s.map
        → IsDoneOnce (λ status. Told own s who p status s') (λ status. Told told s who p status s'')
        (Untold s who p) (own ≡ told)
    found_once own told s who p s' s'' shape = record {
      done = λ status code h k. (
        h.0 ∙ sym k.0,
        h.1 ∙ ap document_sent (finds_once finite prefix headers body s who p own.body told.body h.2
            k.2) ∙ sym k.1,
      );
      either = λ status e h k. finds_or_not finite prefix headers body s who p own.body e h.2 k;
      also = λ status e h k. finds_or_not finite prefix headers body s who p told.body e h.2 k;
      refused = find_refusals_alike finite headers body s.map p shape;
    }

  pub finds_here : (own told : Sent) → other.last ≡ after.last → (result also : Result ℕ Fault)
      → FindAnswers before request result own after → FindAnswers before request also told other
      → AreOne result also (own ≡ told)
  finds_here own told one result also h k =
      let finite = before.options.finite in
      let prefix = before.options.prefix in
      change_once false (Untold finite prefix) (Told finite prefix own) (Told finite prefix told)
      (own ≡ told) (λ is. absurd (false≢true is)) one (λ who p now. found_once finite prefix own told
      (found after.last) who p after.state other.state is_map) result also h k

  -- ---- PUT

  record PutsHere (own : Sent) (left : State) (n : ℕ) (who : Caller) (path : PathText)
      (status : ℕ) : Type 0 where
    writes : Writes headers before.state who (segments path.bytes) body status left
    file : Resource
    here : at_path left.map (segments path.bytes) ≡ Some file
    tells : own ≡ record { fields = tag_field (tag_of file) ∷ []; body = [] }

  abbrev FailsPut : ℕ → Caller → PathText → Fault → Type 0
  FailsPut n who path e = FailsToPut before.state who (segments path.bytes) body headers e

  put_well : (end : Server) (own : Sent) (status : ℕ) → IsPut before request status own end
      → EndsWell before request true end.last (PutsHere own end.state) status
  put_well end own status h =
      well true (PutsHere own end.state) end status h.path h.who h.begins h.admits (record {
        writes = record {
          status_is = h.status_is;
          course = h.course;
          free = h.free;
          puts = subst (λ n. Puts before.state n (segments h.path.bytes) body end.state)
              (sym h.begins.now) h.puts;
        };
        file = h.puts.file;
        here = h.puts.here;
        tells = h.tells;
      })

  put_ends : (end : Server) (own : Sent) (result : Result ℕ Fault) → IsWhole request
      → PutAnswers before request result own end
      → Ends before request true end.last (PutsHere own end.state) FailsPut result
  put_ends end own (Ok status) whole h = put_well end own status h.1
  put_ends end own (Err e) whole (inl part) = absurd (whole part.0)
  put_ends end own (Err e) whole (inr (is, inl unread)) = inl unread
  put_ends end own (Err e) whole (inr (is, inr h)) =
      inr (badly true FailsPut end e h.path h.who h.begins h.why)

  put_once : (own told : Sent) (n : ℕ) (path : PathText) (who : Caller)
      → IsDoneOnce (PutsHere own after.state n who path) (PutsHere told other.state n who path)
      (FailsPut n who path) ((own ≡ told) × (after.state ≡ other.state))
  put_once own told n path who = record {
    done = λ status code h k.
        let p = segments path.bytes in
        let same = law.done status code after.state other.state h.writes k.writes in
        let file = one_some (at_path other.state.map p) h.file k.file
        (sym (ap (λ (s : State). at_path s.map p) same.1) ∙ h.here) k.here in (
          same.0,
          (
            h.tells ∙ ap (λ (f : Resource). record {
              fields = tag_field (tag_of f) ∷ [];
              body = [];
            }) file ∙ sym k.tells,
            same.1,
          ),
        );
    either = λ status e h. law.either status after.state e h.writes;
    also = λ status e h. law.either status other.state e h.writes;
    refused = law.refused;
  }
    where
      law : IsDetermined (Writes headers before.state who (segments path.bytes) body)
          (λ e. FailsToPut before.state who (segments path.bytes) body headers e)
      law = puts_once headers before.state who (segments path.bytes) body

  pub puts_here : (own told : Sent) → (true ≡ true → ¬ IsLastMoment before.last)
      → other.last ≡ after.last → IsWhole request → (result also : Result ℕ Fault)
      → PutAnswers before request result own after
      → PutAnswers before request also told other
      → AreOne result also ((own ≡ told) × (after.state ≡ other.state))
  puts_here own told early one whole result also h k =
      ends_once before request true after.last early (PutsHere own after.state)
      (PutsHere told other.state) FailsPut _ (λ path who now. put_once own told after.last path who)
      result also (put_ends after own result whole h)
      (subst (λ n. Ends before request true n (PutsHere told other.state) FailsPut also) one
      (put_ends other told also whole k))

  -- ---- PROPPATCH

  module _ (prefix : List ℕ) where
    abbrev PatchesHere : Sent → State → ℕ → Caller → PathText → ℕ → Type 0
    PatchesHere own left n who path status =
        Patches prefix headers body (found n) who path status own left

    abbrev FailsPatch : ℕ → Caller → PathText → Fault → Type 0
    FailsPatch n who path e =
        FailsToPatch headers body (found n) who (segments path.bytes) e

    told_once : (n : ℕ) (who : Caller) (path : PathText) (status code : ℕ) (own told : Sent)
        → PatchesHere own after.state n who path status
        → PatchesHere told other.state n who path code → own ≡ told
    told_once n who path status code own told h k =
        h.tells ∙ ap (λ (updates : List Update). document_sent (document_bytes
        (patch_nodes prefix (told_path (found n).map path) updates)))
        (one_some (updates_in body) h.updates k.updates h.asks k.asks) ∙ sym k.tells

    patch_once : (own told : Sent) (n : ℕ) (path : PathText) (who : Caller) → who.now ≡ n
        → IsDoneOnce (PatchesHere own after.state n who path)
        (PatchesHere told other.state n who path) (FailsPatch n who path)
        ((own ≡ told) × (live n after.state ≡ live n other.state))
    patch_once own told n path who now = record {
      done = λ status code h k.
          let same = law.done status code (live who.now after.state) (live who.now other.state)
          (record { sent = own; state = after.state; does = h; left = refl })
          (record { sent = told; state = other.state; does = k; left = refl }) in (
            same.0,
            (
              told_once n who path status code own told h k,
              subst (λ m. live m after.state ≡ live m other.state) now same.1,
            ),
          );
      either = λ status e h. law.either status (live who.now after.state) e
          (record { sent = own; state = after.state; does = h; left = refl });
      also = λ status e h. law.either status (live who.now other.state) e
          (record { sent = told; state = other.state; does = h; left = refl });
      refused = law.refused;
    }
      where
        law : IsDetermined (λ status t. LeavesLive who.now
            (λ sent s'. Patches prefix headers body (found n) who path status sent s') t)
            (FailsToPatch headers body (found n) who (segments path.bytes))
        law = patches_once prefix headers body (found n) who path

  patch_ends : (end : Server) (own : Sent) (result : Result ℕ Fault)
      → PatchAnswers before request result own end
      → Ends before request false end.last (PatchesHere before.options.prefix own end.state)
      (FailsPatch before.options.prefix) result
  patch_ends end own (Ok status) h =
      well false (PatchesHere before.options.prefix own end.state) end status h.path h.who h.begins
      h.admits h.patches
  patch_ends end own (Err e) (inl unread) = inl unread
  patch_ends end own (Err e) (inr h) =
      inr (badly false (FailsPatch before.options.prefix) end e h.path h.who h.begins h.why)

  pub patch_here : (own told : Sent) → other.last ≡ after.last → (result also : Result ℕ Fault)
      → PatchAnswers before request result own after
      → PatchAnswers before request also told other → AreOne result also ((own ≡ told) × States)
  patch_here own told one result also h k =
      let prefix = before.options.prefix in
      ends_once before request false after.last (λ is. absurd (false≢true is))
      (PatchesHere prefix own after.state) (PatchesHere prefix told other.state)
      (FailsPatch prefix) ((own ≡ told) × States)
      (λ path who now. patch_once prefix own told after.last path who now) result also
      (patch_ends after own result h)
      (subst (λ n. Ends before request false n (PatchesHere prefix told other.state)
      (FailsPatch prefix) also) one (patch_ends other told also k))

  -- ---- LOCK

  module _ (most : Option ℕ) (prefix : List ℕ) where
    abbrev LocksHere : Sent → State → ℕ → Caller → PathText → ℕ → Type 0
    LocksHere own left n who path status =
        (IsGranted most prefix headers body (found n) who path status own left × (body ≢ []))
        ⊎ ((body ≡ [])
        × Refreshes most prefix headers (found n) who (segments path.bytes) status own left)

    abbrev FailsLocks : ℕ → Caller → PathText → Fault → Type 0
    FailsLocks n who path e =
        ((body ≢ []) × FailsToLock most headers body (found n) who path e)
        ⊎ ((body ≡ []) × FailsToRefresh headers (found n) who (segments path.bytes) e)

    module _ (n : ℕ) (path : PathText) (who : Caller) (now : who.now ≡ n) where
      lock_done : (own told : Sent) (status code : ℕ) → LocksHere own after.state n who path status
          → LocksHere told other.state n who path code
          → (status ≡ code) × ((own ≡ told) × (live n after.state ≡ live n other.state))
      lock_done own told status code (inl h) (inl k) =
          let same = grants_once most prefix headers body (found n) who path status code own told
          after.state other.state h.0 k.0 in
          (same.0, (same.1, subst (λ m. live m after.state ≡ live m other.state) now same.2))
      lock_done own told status code (inl h) (inr k) = absurd (h.1 k.0)
      lock_done own told status code (inr h) (inl k) = absurd (k.1 h.0)
      lock_done own told status code (inr h) (inr k) =
          let same = refreshes_once most prefix headers (found n) who (segments path.bytes) status
          code own told after.state other.state h.1 k.1 in
          (same.0, (same.1, ap (live n) same.2))

      lock_or_not : (own : Sent) (left : State) (status : ℕ) (e : Fault)
          → LocksHere own left n who path status → FailsLocks n who path e → IsShort e
      lock_or_not own left status e (inl h) (inl k) =
          grants_or_not most headers body (found n) who path prefix status own left h.0 e k.1
      lock_or_not own left status e (inl h) (inr k) = absurd (h.1 k.0)
      lock_or_not own left status e (inr h) (inl k) = absurd (k.0 h.0)
      lock_or_not own left status e (inr h) (inr k) =
          refreshed_or_not most prefix headers (found n) who (segments path.bytes) status own left e
          h.1 k.1

      lock_alike : AllAlike (FailsLocks n who path)
      lock_alike e f (inl h) (inl k) =
          lock_refusals_alike most headers body (found n) who path e f h.1 k.1
      lock_alike e f (inl h) (inr k) = absurd (h.0 k.0)
      lock_alike e f (inr h) (inl k) = absurd (k.0 h.0)
      lock_alike e f (inr h) (inr k) =
          refresh_refusals_alike headers (found n) who (segments path.bytes) e f h.1 k.1

      lock_once : (own told : Sent) → IsDoneOnce (LocksHere own after.state n who path)
          (LocksHere told other.state n who path) (FailsLocks n who path)
          ((own ≡ told) × (live n after.state ≡ live n other.state))
      lock_once own told = record {
        done = lock_done own told;
        either = lock_or_not own after.state;
        also = lock_or_not told other.state;
        refused = lock_alike;
      }

  lock_ends : (end : Server) (own : Sent) (result : Result ℕ Fault)
      → LockAnswers before request result own end
      → Ends before request (has_body request) end.last
      (LocksHere before.options.longest before.options.prefix own end.state)
      (FailsLocks before.options.longest before.options.prefix) result
  lock_ends end own (Ok status) h =
      well (has_body request) (LocksHere before.options.longest before.options.prefix own end.state)
      end status h.path h.who h.begins h.admits (elim h.locks [
        | inl granted ↦ inl (granted.1, granted.2)
        | inr refreshed ↦ inr refreshed
      ])
  lock_ends end own (Err e) (inl unread) = inl unread
  lock_ends end own (Err e) (inr h) =
      inr (badly (has_body request) (FailsLocks before.options.longest before.options.prefix) end e
      h.path h.who h.begins h.why)

  pub lock_here : (own told : Sent) → (has_body request ≡ true → ¬ IsLastMoment before.last)
      → other.last ≡ after.last → (result also : Result ℕ Fault)
      → LockAnswers before request result own after
      → LockAnswers before request also told other → AreOne result also ((own ≡ told) × States)
  lock_here own told early one result also h k =
      let most = before.options.longest in
      let prefix = before.options.prefix in
      ends_once before request (has_body request) after.last early
      (LocksHere most prefix own after.state) (LocksHere most prefix told other.state)
      (FailsLocks most prefix) ((own ≡ told) × States)
      (λ path who now. lock_once most prefix after.last path who now own told) result also
      (lock_ends after own result h)
      (subst (λ n. Ends before request (has_body request) n
      (LocksHere most prefix told other.state) (FailsLocks most prefix) also) one
      (lock_ends other told also k))

  -- ---- COPY and MOVE

  abbrev site : Site
  site = site_for before.options request

  copies_leave : (s : State) (who : Caller) (p : Path) → IsResourceMap s.map
      → LeavesOnce who.now (Copies site before.options.prefix headers s who p)
      (FailsToCopy site before.options.prefix headers s who p)
  copies_leave s who p shape =
      let law = copies_once site before.options.prefix headers s who p shape in
      record {
        done = λ status code s' s'' h k. law.done status code (live who.now s') (live who.now s'')
            (record { sent = nothing_sent; state = s'; does = h; left = refl })
            (record { sent = nothing_sent; state = s''; does = k; left = refl });
        either = λ status s' e h. law.either status (live who.now s') e
            (record { sent = nothing_sent; state = s'; does = h; left = refl });
        refused = law.refused;
      }

  pub copies_here : (true ≡ true → ¬ IsLastMoment before.last) → other.last ≡ after.last
      → (result also : Result ℕ Fault) → CopyAnswers before request result after
      → CopyAnswers before request also other → AreOne result also States
  copies_here early one result also h k =
      bare true (Copies site before.options.prefix headers)
      (FailsToCopy site before.options.prefix headers) copies_leave early one result also h k

  pub moves_here : (true ≡ true → ¬ IsLastMoment before.last) → other.last ≡ after.last
      → (result also : Result ℕ Fault) → MoveAnswers before request result after
      → MoveAnswers before request also other → AreOne result also States
  moves_here early one result also h k =
      bare true (Moves site before.options.prefix headers)
      (FailsToMove site before.options.prefix headers)
      (λ s who p shape. leaves_by who.now _ _
      (moves_once site before.options.prefix headers s who p shape)) early one result also h k
