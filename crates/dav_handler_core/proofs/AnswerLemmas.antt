-- How answers of methods are answers of the server.
use Rattle.std.proofs.Common.{◌≡◌, ◌⊎◌, inl, inr, Bool, true, false, ℕ, ◌<◌, ◌≤◌, List, [], ◌∷◌, length, Option, Result, Ok, Err, ◌∙◌, sym, ap, subst}
use Rattle.std.specs.Prelude.{IfOk, IfErr, OnOk, OnErr, IsTrue, ◌↔◌}
use Rattle.std.proofs.lemmas.Bool.{true≢false}
use Rattle.http.specs.declared.request.Request.{Request}
use Rattle.http.specs.Request.{head_of, body_of}
use Rattle.http_header.specs.FieldValue.{FieldValue}
use Rattle.http_header.specs.HeaderMap.{Entries}
use Rattle.dav_path_core.specs.declared.util.DavMethod.{DavMethod}
use Rattle.dav_path_core.specs.declared.util.DavMethod.TheVariants as method
use Rattle.dav_path_core.specs.PathText.{PathText}
use Rattle.dav_path_core.specs.Segments.{segments}
use Rattle.dav_path_core.specs.Fronts.{Path}
use Rattle.dav_files_core.specs.ResourcePutting.{put}
use Rattle.dav_files_core.specs.Resources.{IsResourceMap, ResourceMap, at_path}
use Rattle.dav_locks_core.specs.Exclusive.{Exclusive}
use Rattle.dav_locks_core.specs.Lock.{Lock}
use Rattle.dav_guarded_core.specs.Requests.{Command}
use Rattle.dav_guarded_core.specs.Step.{State, conflicts}
use Rattle.dav_fields_core.specs.Bases.{Site}
use Rattle.dav_faults_core.specs.declared.faults.Fault.{Fault}
use Rattle.dav_faults_core.specs.declared.faults.Fault.TheVariants as fault
use Rattle.dav_methods_core.specs.Admitting.{IsAdmitted, IsHeldOff}
use Rattle.dav_handler_core.specs.MethodAnswers.{Admits, BareAnswers, Begins, ChangeAnswers, Fails, GetAnswers, IsWhole, PutAnswers, RefusesBody, Unread, as_found}
use Rattle.dav_handler_core.specs.Answers.{EndsOne, Locks, MayDo}
use Rattle.dav_handler_core.specs.Server.{IsFrom, Names, Options, Server, site_for}
use Rattle.dav_handler_core.specs.MethodAnswers.Unread.{memory, target, principal, tokens, moment}
use Rattle.dav_session_core.specs.Callers.{Asks, Caller, RunBy, Runs, asking, live}
use Rattle.dav_fields_core.specs.Fields.{Sent}
use Rattle.dav_fields_core.specs.FileTags.{file_tag}
use Rattle.dav_safe_methods_core.specs.GetMethod.{FailsToGet, Gets}
use Rattle.dav_fields_core.specs.AnswerFields.{tag_field}
use Rattle.dav_session_core.specs.LocksInTheWay.{IsPathOfOne}
use Rattle.dav_handler_core.specs.Private.Begun.{IsHeld, IsOverladen}
use Rattle.dav_methods_core.specs.ChangeConditions.{change_course}
use Rattle.dav_methods_core.specs.PutMethod.{CantPut, FailsToPut, Puts, Writes, locks_against_putting, props_of, put_status}
use Rattle.dav_fields_core.specs.RequestRefusals.{RefusesTarget, RefusesPrincipal, HasBadIf, HasPart, IsLastMoment}
use Rattle.dav_fields_core.specs.Senders.{NamesPrincipal}
use Rattle.dav_methods_core.specs.UnlockMethod.{Unlocks}
use Rattle.dav_session_core.proofs.Asking.{asks_join, by_join}
use Rattle.dav_session_core.proofs.CallerLaws.{asks_of, runs_by, runs_exclusive, runs_of, runs_shape}

-- ---- a request that asks for nothing

module _ (options : Options) (request : Request (List ℕ)) (last : ℕ) (changes : Bool) (e : Fault) where
  pub by_memory : e ≡ fault.InsufficientStorage → Unread options request last changes e
  by_memory h = subst (λ (x : Fault). Unread options request last changes x) (sym h) memory

  pub by_target : (e ≡ fault.InsufficientStorage) ⊎ RefusesTarget options.prefix (head_of request).uri e → Unread options request last changes e
  by_target (inl h) = by_memory h
  by_target (inr h) = target e h

  pub by_principal : (path : PathText) → Names options request path
      → (e ≡ fault.InsufficientStorage) ⊎ RefusesPrincipal options.user_header (head_of request).headers e → Unread options request last changes e
  by_principal path names (inl h) = by_memory h
  by_principal path names (inr h) = principal e path names h

  pub by_tokens : (path : PathText) (named : Option (List ℕ)) → Names options request path
      → NamesPrincipal options.user_header (head_of request).headers named
      → (e ≡ fault.InsufficientStorage)
      ⊎ ((e ≡ fault.BadRequest) × HasBadIf (site_for options request) (head_of request).headers)
      → Unread options request last changes e
  by_tokens path named names sender (inl h) = by_memory h
  by_tokens path named names sender (inr h) =
      subst (λ (x : Fault). Unread options request last changes x) (sym h.0) (tokens path named names sender h.1)

  pub by_moment : (path : PathText) (who : Caller) → Names options request path → IsFrom options request who
      → (e ≡ fault.ServiceUnavailable) × (changes ≡ true) × IsLastMoment last → Unread options request last changes e
  by_moment path who names from h =
      subst (λ (x : Fault). Unread options request last changes x) (sym h.0) (moment path who names from h.1 h.2)

-- ---- a request that is begun

-- what holds of a request holds of it where its moment stays
pub begins_on : (before mid after : Server) (request : Request (List ℕ)) (path : PathText) (who : Caller) → after.last ≡ mid.last
    → Begins before request mid path who → Begins before request after path who
begins_on before mid after request path who same h = record { names = h.names; from = h.from; now = h.now ∙ sym same }

pub admits_on : (before mid after : Server) (request : Request (List ℕ)) (path : PathText) → after.last ≡ mid.last
    → Admits before request mid path → Admits before request after path
admits_on before mid after request path same h =
    subst (λ n. IsAdmitted (site_for before.options request) (live n before.state) (head_of request).headers path) (sym same) h

-- what holds it off, by the stores and the headers before it
pub held_there : (before : Server) (request : Request (List ℕ)) (headers : Entries FieldValue) (path : PathText) (e : Fault) (site : Site) (now later : ℕ) (s : State)
    → site ≡ (site_for before.options request) → now ≡ later → s ≡ before.state → headers ≡ (head_of request).headers → IsHeldOff site (live now s) headers path e
    → IsHeldOff (site_for before.options request) (live later before.state) (head_of request).headers path e
held_there before request headers path e site now later s of at same is h =
    let there = subst (λ h. IsHeldOff site (live now s) h path e) is h in
    let sites = subst (λ x. IsHeldOff x (live now s) (head_of request).headers path e) of there in
    let stores = subst (λ (t : State). IsHeldOff (site_for before.options request) (live now t) (head_of request).headers path e) same sites in
    subst (λ n. IsHeldOff (site_for before.options request) (live n before.state) (head_of request).headers path e) at stores

-- what the method does behind it is the caller's, too
pub moves_on : (before mid after : Server) (request : Request (List ℕ)) (path : PathText) (who : Caller) → Begins before request mid path who → MayDo before request mid
    → RunBy who before.state mid.state → RunBy who mid.state after.state → after.last ≡ mid.last → after.options ≡ mid.options → after.clock ≡ mid.clock → after.noting ≡ mid.noting
    → MayDo before request after
moves_on before mid after request path who begins moves first more last options clock noting = record {
  by_caller = inr (who, begins.from, begins.now ∙ sym last, inl (by_join who before.state mid.state after.state first more));
  moments = subst (λ n. before.last ≤ n) (sym last) moves.moments;
  options = options ∙ moves.options;
  clock = clock ∙ moves.clock;
  noting = noting ∙ moves.noting;
}

-- or it ends one of the caller's own locks
pub moves_ended : (before mid after : Server) (request : Request (List ℕ)) (path : PathText) (who : Caller) (result : Result ℕ Fault)
    → Begins before request mid path who → MayDo before request mid → RunBy who before.state mid.state → Asks who mid.state after.state
    → live mid.last mid.state ≡ live mid.last before.state
    → IfOk result (λ status. Unlocks (head_of request).headers (live who.now mid.state) who (segments path.bytes) status after.state)
    → OnErr result (RunBy who mid.state after.state) → after.last ≡ mid.last → after.options ≡ mid.options → after.clock ≡ mid.clock → after.noting ≡ mid.noting
    → MayDo before request after
moves_ended before mid after request path who (Ok status) begins moves first more still done failed last options clock noting = record {
  by_caller = inr (
    who,
    begins.from,
    begins.now ∙ sym last,
    inr (inl (record {
      asks = asks_join who before.state mid.state after.state (asks_of who before.state mid.state first) more;
      path = segments path.bytes;
      status = status;
      unlocks = subst (λ (s : State). Unlocks (head_of request).headers s who (segments path.bytes) status after.state)
          (ap (λ n. live n mid.state) begins.now ∙ still ∙ ap (λ n. live n before.state) (sym last)) done;
    })),
  );
  moments = subst (λ n. before.last ≤ n) (sym last) moves.moments;
  options = options ∙ moves.options;
  clock = clock ∙ moves.clock;
  noting = noting ∙ moves.noting;
}
moves_ended before mid after request path who (Err e) begins moves first more still done failed last options clock noting =
    moves_on before mid after request path who begins moves first failed last options clock noting

-- a request that its `If` holds off
pub held_off : (before after : Server) (request : Request (List ℕ)) (e : Fault) (Refuses : Path → Caller → Type 0) → IsHeld before request after e
    → Fails before request after e Refuses
held_off before after request e Refuses h = record { path = h.0; who = h.1.0; begins = h.1.1; why = inl h.1.2 }

-- one that wasn't begun, or was held off
pub unread_or_held : (changes : Bool) (before after : Server) (request : Request (List ℕ)) (e : Fault) (Refuses : Path → Caller → Type 0)
    → Unread before.options request before.last changes e ⊎ IsHeld before request after e → Unread before.options request before.last changes e ⊎ Fails before request after e Refuses
unread_or_held changes before after request e Refuses (inl h) = inl h
unread_or_held changes before after request e Refuses (inr h) = inr (held_off before after request e Refuses h)

-- what a method finds is what the request finds
pub found_as : (before mid after : Server) (who : Caller) (s : State) → after.last ≡ mid.last → who.now ≡ mid.last → live mid.last s ≡ live mid.last before.state
    → live who.now s ≡ as_found before after
found_as before mid after who s same now alike = ap (λ n. live n s) now ∙ alike ∙ ap (λ n. live n before.state) (sym same)

-- one that is refused by its method
module _ (before mid after : Server) (request : Request (List ℕ)) (path : PathText) (who : Caller) (same : after.last ≡ mid.last)
    (begins : Begins before request mid path who) (admits : Admits before request mid path) where
  pub refused_by : (e : Fault) (Refuses : Path → Caller → Type 0) → Refuses (segments path.bytes) who → Fails before request after e Refuses
  refused_by e Refuses h = record {
    path = path;
    who = who;
    begins = begins_on before mid after request path who same begins;
    why = inr (admits_on before mid after request path same admits, h);
  }

  -- ---- GET

  abbrev Headers : Entries FieldValue
  Headers = (head_of request).headers

  pub get_answered : (m : DavMethod) (map : ResourceMap) (result : Result ℕ Fault) (sent : Sent) → map ≡ before.state.map
      → IfOk result (λ status. Gets m map path Headers status sent) → IfErr result (λ e. FailsToGet m map (segments path.bytes) Headers e)
      → GetAnswers m before request result sent after
  get_answered m map (Ok status) sent there done err = record {
    path = path;
    who = who;
    begins = begins_on before mid after request path who same begins;
    admits = admits_on before mid after request path same admits;
    gets = subst (λ m'. Gets m m' path Headers status sent) there done;
  }
  get_answered m map (Err e) sent there done err =
      inr (refused_by e (λ p who. FailsToGet m before.state.map p Headers e) (subst (λ m'. FailsToGet m m' (segments path.bytes) Headers e) there err))

-- ---- PUT

-- a request without the header of a part
pub whole_request : (request : Request (List ℕ)) (headers : Entries FieldValue) (test : Bool) → headers ≡ (head_of request).headers
    → (IsTrue test ↔ HasPart headers) → test ≡ false → IsWhole request
whole_request request headers test same tests fails =
    let here = subst (λ (h : Entries FieldValue). HasPart h → IsTrue test) same tests.1 in
    λ part. absurd (true≢false (sym (here part) ∙ fails))

-- a PUT that wasn't begun, or was held off
pub put_unread : (before after : Server) (request : Request (List ℕ)) (e : Fault) (sent : Sent) → IsWhole request
    → Unread before.options request before.last true e ⊎ IsHeld before request after e → PutAnswers before request (Err e) sent after
put_unread before after request e sent whole (inl h) = inr (whole, inl h)
put_unread before after request e sent whole (inr h) =
    inr (whole, inr (held_off before after request e (λ p who. FailsToPut before.state who p (body_of request) (head_of request).headers e) h))

-- a PUT whose body isn't shared
pub put_short : (before after : Server) (request : Request (List ℕ)) (e : Fault) (sent : Sent) → IsWhole request → e ≡ fault.InsufficientStorage
    → PutAnswers before request (Err e) sent after
put_short before after request e sent whole h = inr (whole, inl (by_memory before.options request before.last true e h))

way : (s t : State) (who : Caller) (p : Path) (bytes : List ℕ) → live who.now s ≡ live who.now t → locks_against_putting s who p bytes ≡ locks_against_putting t who p bytes
way s t who p bytes same = ap (λ (x : State). conflicts x (asking who (Command.Put p bytes))) same

-- a refusal of a PUT looks at the map, and at the locks that last
cant_alike : (s t : State) (who : Caller) (p : Path) (bytes : List ℕ) (e : Fault) → s.map ≡ t.map → live who.now s ≡ live who.now t
    → CantPut s who p bytes e → CantPut t who p bytes e
cant_alike s t who p bytes fault.InsufficientStorage map locks h = tt
cant_alike s t who p bytes (fault.Locked path) map locks h = subst (λ (stand : List Lock). IsPathOfOne stand path) (way s t who p bytes locks) h
cant_alike s t who p bytes (fault.MethodNotAllowed folder) map locks h =
    (h.0, sym (way s t who p bytes locks) ∙ h.1, (h.2.0, ap (λ m. at_path m p) (sym map) ∙ h.2.1, h.2.2))
cant_alike s t who p bytes fault.Conflict map locks h =
    (sym (way s t who p bytes locks) ∙ h.0, ap (λ m. at_path m p) (sym map) ∙ h.1, (h.2.0, ap (λ m. put m p bytes who.now) (sym map) ∙ h.2.1))
cant_alike s t who p bytes _ map locks h = absurd h

fails_alike : (s t : State) (who : Caller) (p : Path) (bytes : List ℕ) (headers : Entries FieldValue) (e : Fault) → s.map ≡ t.map → live who.now s ≡ live who.now t
    → FailsToPut s who p bytes headers e → FailsToPut t who p bytes headers e
fails_alike s t who p bytes headers e map locks (inl h) = inl (cant_alike s t who p bytes e map locks h)
fails_alike s t who p bytes headers e map locks (inr h) = inr (
  (sym (way s t who p bytes locks) ∙ h.0.0, (h.0.1.0, ap (λ m. put m p bytes who.now) (sym map) ∙ h.0.1.1)),
  ap (λ m. change_course method.Put m p headers) (sym map) ∙ h.1,
)

-- the tag of a file with these bytes
abbrev pub tag_sent : ℕ → List ℕ → Sent
tag_sent modified bytes = record { fields = tag_field (file_tag modified (length bytes)) ∷ []; body = [] }

-- A PUT that was begun, from stores that have what those of the server before have.
module _ (before mid after : Server) (request : Request (List ℕ)) (path : PathText) (who : Caller) (same : after.last ≡ mid.last)
    (begins : Begins before request mid path who) (admits : Admits before request mid path) (later : before.last < mid.last) (s : State)
    (whole : IsWhole request) where
  abbrev Here : Path
  Here = segments path.bytes

  pub put_done : (status : ℕ) (sent : Sent) → s.map ≡ before.state.map → live mid.last s ≡ live mid.last before.state
      → Writes (head_of request).headers s who Here (body_of request) status after.state → sent ≡ tag_sent who.now (body_of request) → PutAnswers before request (Ok status) sent after
  put_done status sent there alike writes tells =
      let puts = writes.puts in
      let now : who.now ≡ after.last = begins.now ∙ sym same in
      let written : Puts before.state after.last Here (body_of request) after.state = record {
        file = puts.file;
        here = puts.here;
        kind = puts.kind;
        bytes_are = puts.bytes_are;
        modified = puts.modified ∙ now;
        props = puts.props ∙ ap (λ m. props_of (at_path m Here)) there;
        others = λ q apart. puts.others q apart ∙ ap (λ m. at_path m q) there;
        did = ap (λ m. put m Here (body_of request) after.last) (sym there) ∙ ap (put s.map Here (body_of request)) (sym now) ∙ puts.did;
        left = puts.left ∙ ap (λ (t : State). record t { map = after.state.map })
            (ap (λ n. live n s) begins.now ∙ alike ∙ ap (λ n. live n before.state) (sym same));
      } in (
        whole,
        record {
          path = path;
          who = who;
          begins = begins_on before mid after request path who same begins;
          later = subst (λ n. before.last < n) (sym same) later;
          admits = admits_on before mid after request path same admits;
          course = subst (λ m. change_course method.Put m Here (head_of request).headers ≡ Ok tt) there writes.course;
          free = sym (way s before.state who Here (body_of request) (subst (λ n. live n s ≡ live n before.state) (sym begins.now) alike)) ∙ writes.free;
          status_is = writes.status_is ∙ ap (λ m. put_status m Here) there;
          puts = written;
          tells = tells ∙ ap (λ n. tag_sent n (body_of request)) (sym puts.modified) ∙ ap (tag_sent puts.file.node.modified) (sym puts.bytes_are);
        },
      )

  pub put_refused : (e : Fault) (sent : Sent) → s.map ≡ before.state.map → live who.now s ≡ live who.now before.state
      → FailsToPut s who Here (body_of request) (head_of request).headers e → PutAnswers before request (Err e) sent after
  put_refused e sent there alike h =
      inr (
        whole,
        inr (refused_by before mid after request path who same begins admits e (λ p who. FailsToPut before.state who p (body_of request) (head_of request).headers e)
            (fails_alike s before.state who Here (body_of request) (head_of request).headers e there alike h)),
      )

  pub put_answered : (result : Result ℕ Fault) (sent : Sent) (bytes : List ℕ) (headers : Entries FieldValue) → bytes ≡ body_of request → headers ≡ (head_of request).headers
      → s.map ≡ before.state.map → live mid.last s ≡ live mid.last before.state
      → IfOk result (λ code. Writes headers s who Here bytes code after.state) → OnOk result (sent ≡ tag_sent who.now bytes) → IfErr result (λ e. FailsToPut s who Here bytes headers e)
      → PutAnswers before request result sent after
  put_answered (Ok status) sent bytes headers body is there alike done tells err =
      put_done status sent there alike (subst (λ h. Writes h s who Here (body_of request) status after.state) is
      (subst (λ b. Writes headers s who Here b status after.state) body done)) (subst (λ b. sent ≡ tag_sent who.now b) body tells)
  put_answered (Err e) sent bytes headers body is there alike done tells err =
      put_refused e sent there (subst (λ n. live n s ≡ live n before.state) (sym begins.now) alike)
      (subst (λ h. FailsToPut s who Here (body_of request) h e) is (subst (λ b. FailsToPut s who Here b headers e) body err))

-- ---- a method that changes the stores

-- one that was begun
pub change_answered : (changes : Bool) (Does : State → Caller → Path → ℕ → State → Type 0) (Refuses : State → Caller → Path → Fault → Type 0)
    (before mid after : Server) (request : Request (List ℕ)) (path : PathText) (who : Caller) (same : after.last ≡ mid.last)
    (begins : Begins before request mid path who) (admits : Admits before request mid path) → (changes ≡ true → before.last < mid.last)
    → (s : State) → live mid.last s ≡ live mid.last before.state → (result : Result ℕ Fault)
    → IfOk result (λ status. Does (live who.now s) who (segments path.bytes) status after.state)
    → IfErr result (λ e. Refuses (live who.now s) who (segments path.bytes) e) → ChangeAnswers changes Does Refuses before request result after
change_answered changes Does Refuses before mid after request path who same begins admits later s alike (Ok status) done err = record {
  path = path;
  who = who;
  begins = begins_on before mid after request path who same begins;
  later = λ h. subst (λ n. before.last < n) (sym same) (later h);
  admits = admits_on before mid after request path same admits;
  does = subst (λ (t : State). Does t who (segments path.bytes) status after.state) (found_as before mid after who s same begins.now alike) done;
}
change_answered changes Does Refuses before mid after request path who same begins admits later s alike (Err e) done err =
    inr (refused_by before mid after request path who same begins admits e (λ p who. Refuses (as_found before after) who p e)
    (subst (λ (t : State). Refuses t who (segments path.bytes) e) (found_as before mid after who s same begins.now alike) err))

-- ---- a method that takes no body

-- one that wasn't begun, or was held off, or has a body
pub bare_unread : (changes : Bool) (Refuses : State → Caller → Path → Fault → Type 0) (before after : Server) (request : Request (List ℕ)) (e : Fault)
    → Unread before.options request before.last changes e ⊎ (IsHeld before request after e ⊎ IsOverladen before request after e)
    → Unread before.options request before.last changes e ⊎ Fails before request after e (λ p who. RefusesBody request Refuses (as_found before after) who p e)
bare_unread changes Refuses before after request e (inl h) = inl h
bare_unread changes Refuses before after request e (inr (inl h)) =
    inr (held_off before after request e (λ p who. RefusesBody request Refuses (as_found before after) who p e) h)
bare_unread changes Refuses before after request e (inr (inr (path, (who, begins, admits, some, is)))) =
    inr (record { path = path; who = who; begins = begins; why = inr (admits, inl (some, is)) })

-- one that was begun, without a body
pub bare_answered : (changes : Bool) (Does : State → Caller → Path → ℕ → State → Type 0) (Refuses : State → Caller → Path → Fault → Type 0)
    (before mid after : Server) (request : Request (List ℕ)) (path : PathText) (who : Caller) (same : after.last ≡ mid.last)
    (begins : Begins before request mid path who) (admits : Admits before request mid path) → (changes ≡ true → before.last < mid.last)
    → (s : State) → live mid.last s ≡ live mid.last before.state → body_of request ≡ [] → (result : Result ℕ Fault)
    → IfOk result (λ status. Does (live who.now s) who (segments path.bytes) status after.state)
    → IfErr result (λ e. Refuses (live who.now s) who (segments path.bytes) e) → BareAnswers changes Does Refuses before request result after
bare_answered changes Does Refuses before mid after request path who same begins admits later s alike bare (Ok status) done err =
    change_answered changes (λ s who p status s'. (body_of request ≡ []) × Does s who p status s') (RefusesBody request Refuses) before mid after request path who same
    begins admits later s alike (Ok status) (bare, done) err
bare_answered changes Does Refuses before mid after request path who same begins admits later s alike bare (Err e) done err =
    change_answered changes (λ s who p status s'. (body_of request ≡ []) × Does s who p status s') (RefusesBody request Refuses) before mid after request path who same
    begins admits later s alike (Err e) done (inr (bare, err))

-- ---- runs

runs_of_caller : (before after : Server) (request : Request (List ℕ)) (who : Caller)
    → RunBy who before.state after.state ⊎ (EndsOne before request after who ⊎ Locks before after who) → Runs before.state after.state
runs_of_caller before after request who (inl run) = runs_by who before.state after.state run
runs_of_caller before after request who (inr (inl one)) = runs_of who before.state after.state one.asks
runs_of_caller before after request who (inr (inr locks)) = locks.runs

-- what every run of requests keeps
pub moves_exclusive : (before after : Server) (request : Request (List ℕ)) → MayDo before request after → Exclusive before.state.locks → Exclusive after.state.locks
moves_exclusive before after request h x = elim h.by_caller [
  | inl same ↦ subst (λ (s : State). Exclusive s.locks) (sym same) x
  | inr by ↦ runs_exclusive before.state after.state (runs_of_caller before after request by.0 by.3) x
]

pub moves_shape : (before after : Server) (request : Request (List ℕ)) → MayDo before request after → Exclusive before.state.locks → IsResourceMap before.state.map
    → IsResourceMap after.state.map
moves_shape before after request h x is_map = elim h.by_caller [
  | inl same ↦ subst (λ (s : State). IsResourceMap s.map) (sym same) is_map
  | inr by ↦ runs_shape before.state after.state (runs_of_caller before after request by.0 by.3) is_map
]
