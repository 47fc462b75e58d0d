-- What decides over a request, told of its answer.
use Rattle.std.proofs.Common.{◌≡◌, ◌≢◌, ◌⊎◌, inl, inr, ℕ, ◌<◌, ◌≤◌, Bool, true, false, List, [], ◌∷◌, length, take, drop, ◌-◌, Option, None, Some, Result, Ok, Err, refl, sym, ◌∙◌, ap, subst, arith}
use Rattle.std.specs.Prelude.{IfErr, OnOk}
use Rattle.std.proofs.lemmas.Bool.{false≢true}
use Rattle.http.specs.declared.request.Request.{Request}
use Rattle.http.specs.Request.{head_of, body_of}
use Rattle.http_header.specs.FieldValue.{FieldValue}
use Rattle.http_header.specs.HeaderMap.{Entries}
use Rattle.dav_path_core.specs.declared.util.DavMethod.{DavMethod}
use Rattle.dav_path_core.specs.declared.util.DavMethod.TheVariants as method
use Rattle.dav_path_core.specs.Fronts.{Path}
use Rattle.dav_path_core.specs.PathText.{PathText}
use Rattle.dav_path_core.specs.Segments.{segments}
use Rattle.dav_files_core.specs.declared.memfs.Kind.TheVariants.{File, Folder}
use Rattle.dav_files_core.specs.Meta.{meta_at}
use Rattle.dav_files_core.specs.Resources.{Resource, ResourceMap, at_path}
use Rattle.dav_guarded_core.specs.Checks.{has}
use Rattle.dav_guarded_core.specs.Step.{State}
use Rattle.dav_fields_core.specs.declared.etags.Standing.{Standing}
use Rattle.dav_faults_core.specs.declared.faults.Fault.{Fault}
use Rattle.dav_faults_core.specs.declared.faults.Fault.TheVariants as fault
use Rattle.dav_fields_core.specs.declared.preconditions.Course.{Course}
use Rattle.dav_fields_core.specs.declared.preconditions.Course.TheVariants as course
use Rattle.dav_fields_core.specs.declared.ranges.Extent.{Extent}
use Rattle.dav_fields_core.specs.declared.ranges.Extent.TheVariants as extent
use Rattle.http_server.specs.declared.response.Response.{Response}
use Rattle.dav_fields_core.specs.AnswerFields.{first_fields}
use Rattle.dav_handler_core.proofs.SentAnswerLemmas.{own_sent}
use Rattle.dav_handler_core.specs.Answers.{Answers, AnswersTo, Leaves, status_of}
use Rattle.dav_handler_core.specs.MethodAnswers.{Fails, HoldsOff, IsGotten, RefusesBody, Unread, as_found, has_body}
use Rattle.dav_handler_core.specs.Server.{Options, Server, site_for}
use Rattle.dav_handler_core.specs.MethodAnswers.Unread.{memory, target, principal, tokens, moment}
use Rattle.dav_session_core.specs.Callers.{Caller, SameLive}
use Rattle.dav_methods_core.specs.CopyMethod.{FailsToCopy}
use Rattle.dav_handler_core.specs.Deciding.{HeldOff, IsCourseStopped, SaysDone, SendsPart, SendsTag, Stops, WentOn, looks, tells_tag}
use Rattle.dav_faults_core.specs.Faults.{fault_status}
use Rattle.dav_handler_core.proofs.AnswerStatuses.{IsOfMember, IsOff, fault_high, fault_off, lock_low, locked_between, no_fault, put_between, transfer_low}
use Rattle.dav_fields_core.specs.Fields.{Sent, sent_behind, sent_parts, sent_of, sent_tags}
use Rattle.dav_handler_core.proofs.SentFieldLemmas.{part_parts, part_tags, tags_told, whole_tags}
use Rattle.dav_fields_core.specs.FileTags.{own_tags, standing_at, standing_known, standing_of, tag_of}
use Rattle.dav_safe_methods_core.specs.PropfindMethod.{FailsToFind, FailsToTell}
use Rattle.dav_safe_methods_core.specs.GetMethod.{FailsToGet, Tells, get_outcome_by, get_outcome_of}
use Rattle.dav_fields_core.specs.Getting.{tags_by}
use Rattle.dav_methods_core.specs.LockMethod.{FailsToLock}
use Rattle.dav_methods_core.specs.MkcolMethod.{CantMake, FailsToMake}
use Rattle.dav_methods_core.specs.MoveMethod as moving
use Rattle.dav_fields_core.specs.Preconditions.{course_of}
use Rattle.dav_methods_core.specs.ChangeConditions.{IsStopped, changes_by}
use Rattle.dav_methods_core.specs.PutMethod.{CantPut, FailsToPut}
use Rattle.dav_fields_core.specs.Ranges.{part_text}
use Rattle.dav_methods_core.specs.RefreshMethod.{FailsToRefresh, named_there}
use Rattle.dav_fields_core.specs.RequestRefusals.{RefusesPrincipal, RefusesTarget}
use Rattle.dav_methods_core.specs.DeleteMethod.{CantRemove, FailsToRemove}
use Rattle.dav_methods_core.specs.ProppatchMethod.{CantPatch, FailsToPatch}
use Rattle.dav_methods_core.specs.UnlockMethod.{CantUnlock, FailsToUnlock}
use Rattle.dav_fields_core.proofs.FileTagLemmas.{tags_known}
use Rattle.dav_handler_core.proofs.TransferLaws.{copy_stops, move_stops}

-- ---- why a request is refused

finding_told : (finite : Bool) (headers : Entries FieldValue) (body : List ℕ) (m : ResourceMap) (p : Path) (e : Fault) → e ≡ fault.PreconditionFailed
    → FailsToFind finite headers body m p e → ⊥
finding_told finite headers body m p _ is FailsToFind.memory = cc
finding_told finite headers body m p _ is (FailsToFind.unread h) = cc
finding_told finite headers body m p _ is (FailsToFind.endless refuses h) = cc
finding_told finite headers body m p _ is (FailsToFind.unasked d reaches h) = cc
finding_told finite headers body m p _ is (FailsToFind.missing d q reaches asks h) = cc
finding_told finite headers body m p _ is (FailsToFind.odd d q reaches asks h) = cc

-- a LOCK that grants nothing for a condition is stopped by those of HTTP
granting_stops : (most : Option ℕ) (headers : Entries FieldValue) (body : List ℕ) (s : State) (who : Caller) (path : PathText) (e : Fault) → e ≡ fault.PreconditionFailed
    → FailsToLock most headers body s who path e → IsCourseStopped method.Lock s.map (segments path.bytes) headers
granting_stops most headers body s who path _ is FailsToLock.memory = absurd (cc)
granting_stops most headers body s who path _ is (FailsToLock.unread h) = absurd (cc)
granting_stops most headers body s who path _ is (FailsToLock.moment wanted wants h) = absurd (cc)
granting_stops most headers body s who path _ is (FailsToLock.above wanted at wants none h) = absurd (cc)
granting_stops most headers body s who path _ is (FailsToLock.nowhere wanted wants none free h) = absurd (cc)
granting_stops most headers body s who path _ is (FailsToLock.course e wanted wants room h) = h ∙ ap Err is
granting_stops most headers body s who path _ is (FailsToLock.conflict wanted at wants room lets h apart) = absurd (cc)
granting_stops most headers body s who path _ is (FailsToLock.member wanted at wants room lets h below) = absurd (cc)

-- one that refreshes nothing names no lock, or is stopped so
refresh_stops : (headers : Entries FieldValue) (s : State) (who : Caller) (p : Path) (e : Fault) → e ≡ fault.PreconditionFailed → FailsToRefresh headers s who p e
    → (named_there s who p ≡ []) ⊎ IsCourseStopped method.Lock s.map p headers
refresh_stops headers s who p _ is FailsToRefresh.memory = absurd (cc)
refresh_stops headers s who p _ is (FailsToRefresh.unread h) = absurd (cc)
refresh_stops headers s who p _ is (FailsToRefresh.none timeouts read none) = inl none
refresh_stops headers s who p _ is (FailsToRefresh.several timeouts read several) = absurd (cc)
refresh_stops headers s who p _ is (FailsToRefresh.anothers timeouts token read named h) = absurd (cc)
refresh_stops headers s who p _ is (FailsToRefresh.course e timeouts token read named own h) = inr (h ∙ ap Err is)

locking_stops : (most : Option ℕ) (headers : Entries FieldValue) (body : List ℕ) (s : State) (who : Caller) (path : PathText) (e : Fault) → e ≡ fault.PreconditionFailed
    → ((body ≢ []) × FailsToLock most headers body s who path e) ⊎ ((body ≡ []) × FailsToRefresh headers s who (segments path.bytes) e)
    → (named_there s who (segments path.bytes) ≡ []) ⊎ IsCourseStopped method.Lock s.map (segments path.bytes) headers
locking_stops most headers body s who path e is (inl h) = inr (granting_stops most headers body s who path e is h.1)
locking_stops most headers body s who path e is (inr h) = refresh_stops headers s who (segments path.bytes) e is h.1

-- what isn't read is not a condition that doesn't hold
no_principal : (named : Option (List ℕ)) (headers : Entries FieldValue) → ¬ RefusesPrincipal named headers fault.PreconditionFailed
no_principal (Some name) headers h = h
no_principal None headers h = h

not_unread : (options : Options) (request : Request (List ℕ)) (last : ℕ) (changes : Bool) (e : Fault) → e ≡ fault.PreconditionFailed
    → ¬ Unread options request last changes e
not_unread options request last changes _ is memory = cc
not_unread options request last changes _ is (target e h) = subst (RefusesTarget options.prefix (head_of request).uri) is h
not_unread options request last changes _ is (principal e path names h) =
    no_principal options.user_header (head_of request).headers (subst (RefusesPrincipal options.user_header (head_of request).headers) is h)
not_unread options request last changes _ is (tokens path named names sender h) = cc
not_unread options request last changes _ is (moment path who names from h last_one) = cc

-- and neither is it the lock of a member
unread_alone : (options : Options) (request : Request (List ℕ)) (last : ℕ) (changes : Bool) (e : Fault) → IsOfMember e → ¬ Unread options request last changes e
unread_alone options request last changes _ member memory = member
unread_alone options request last changes _ member (target (fault.MemberLocked path) h) = h
unread_alone options request last changes _ member (target (fault.ConflictingMember at path) h) = h
unread_alone options request last changes _ member (target _ h) = member
unread_alone options request last changes _ member (principal e path names h) = named_alone options.user_header (head_of request).headers e member h
  where
    named_alone : (named : Option (List ℕ)) (headers : Entries FieldValue) (e : Fault) → IsOfMember e → ¬ RefusesPrincipal named headers e
    named_alone (Some name) headers (fault.MemberLocked path) member h = h
    named_alone (Some name) headers (fault.ConflictingMember at path) member h = h
    named_alone (Some name) headers _ member h = member
    named_alone None headers e member h = h
unread_alone options request last changes _ member (tokens path named names sender h) = member
unread_alone options request last changes _ member (moment path who names from h last_one) = member

other_fault : (e other : Fault) → IsOfMember e → (IsOfMember other → ⊥) → e ≡ other → ⊥
other_fault e other member apart same = apart (subst IsOfMember same member)

told_alone : (m : DavMethod) (at : Standing) (size : ℕ) (headers : Entries FieldValue) (o : Option Course) (e : Fault) → IsOfMember e
    → get_outcome_by m at size headers o ≢ Err e
told_alone m at size headers None e member h = other_fault e fault.BadRequest member (λ x. x) (cc)
told_alone m at size headers (Some course.PreconditionFailed) e member h = other_fault e fault.PreconditionFailed member (λ x. x) (cc)
told_alone m at size headers (Some course.NotModified) e member h = cc
told_alone m at size headers (Some course.Whole) e member h = cc
told_alone m at size headers (Some course.Proceed) e member h = cc

changed_alone : (o : Option Course) (e : Fault) → IsOfMember e → changes_by o ≢ Err e
changed_alone None e member h = other_fault e fault.BadRequest member (λ x. x) (cc)
changed_alone (Some course.PreconditionFailed) e member h = other_fault e fault.PreconditionFailed member (λ x. x) (cc)
changed_alone (Some course.NotModified) e member h = other_fault e fault.PreconditionFailed member (λ x. x) (cc)
changed_alone (Some course.Whole) e member h = cc
changed_alone (Some course.Proceed) e member h = cc

abbrev refused_as : Fault → Result ℕ Fault
refused_as e = Err e

not_served : (e : Fault) → refused_as e ≡ refused_as fault.NotImplemented → e ≡ fault.NotImplemented
not_served e h = cc

-- ---- GET and HEAD

tags_at : (map : ResourceMap) (p : Path) (r : Resource) → at_path map p ≡ Some r → tags_by (standing_at map p) ≡ own_tags r
tags_at map p r here = ap (λ o. tags_by (standing_of map p o)) here ∙ tags_known map p r

module _ (before after : Server) (request : Request (List ℕ)) (sent : Sent) where
  abbrev Headers : Entries FieldValue
  Headers = (head_of request).headers

  -- what is told where it is done
  told_done : (m : DavMethod) (p : Path) (r : Resource) (status : ℕ) (x : Result (Option Extent) Fault) → get_outcome_of m before.state.map p r Headers ≡ x → Tells x p r status sent → status < 300
      → (e : Extent) × (get_outcome_of m before.state.map p r Headers ≡ Ok (Some e))
  told_done m p r status (Err e) is h low = absurd h
  told_done m p r status (Ok None) is h low = absurd (omega (arith, h.0))
  told_done m p r status (Ok (Some extent.Whole)) is h low = (extent.Whole, is)
  told_done m p r status (Ok (Some (extent.Part first end))) is h low = (extent.Part first end, is)
  told_done m p r status (Ok (Some extent.Unsatisfiable)) is h low = absurd (omega (arith, h.0))

  told_off : (m : DavMethod) (p : Path) (r : Resource) (status : ℕ) (x : Result (Option Extent) Fault) → get_outcome_of m before.state.map p r Headers ≡ x → Tells x p r status sent → IsOff status
      → get_outcome_of m before.state.map p r Headers ≡ Ok None
  told_off m p r status (Err e) is h off = absurd h
  told_off m p r status (Ok None) is h off = is
  told_off m p r status (Ok (Some extent.Whole)) is h (inl off) = absurd (omega (arith, h.0, off))
  told_off m p r status (Ok (Some extent.Whole)) is h (inr off) = absurd (omega (arith, h.0, off))
  told_off m p r status (Ok (Some (extent.Part first end))) is h (inl off) = absurd (omega (arith, h.0, off))
  told_off m p r status (Ok (Some (extent.Part first end))) is h (inr off) = absurd (omega (arith, h.0, off))
  told_off m p r status (Ok (Some extent.Unsatisfiable)) is h (inl off) = absurd (omega (arith, h.0, off))
  told_off m p r status (Ok (Some extent.Unsatisfiable)) is h (inr off) = absurd (omega (arith, h.0, off))

  pub told_tags : (p : Path) (r : Resource) (status : ℕ) (x : Result (Option Extent) Fault) → Tells x p r status sent → status < 400 → sent_tags sent.fields ≡ own_tags r
  told_tags p r status (Err e) h low = absurd h
  told_tags p r status (Ok None) h low = ap (λ (s : Sent). sent_tags s.fields) h.1 ∙ tags_told (own_tags r)
  told_tags p r status (Ok (Some extent.Whole)) h low = whole_tags p r sent.fields h.1
  told_tags p r status (Ok (Some (extent.Part first end))) h low = part_tags p r (part_text first end (length r.node.bytes)) sent.fields h.1
  told_tags p r status (Ok (Some extent.Unsatisfiable)) h low = absurd (omega (arith, h.0))

  get_on : (m : DavMethod) (status : ℕ) (h : IsGotten m before request status sent after) → status < 300
      → (x : Extent) × ((r : Resource) × (at_path before.state.map (segments h.path.bytes) ≡ Some r) × (get_outcome_of m before.state.map (segments h.path.bytes) r Headers ≡ Ok (Some x)))
  get_on m status h low =
      let is = told_done m (segments h.path.bytes) h.gets.resource status (get_outcome_of m before.state.map (segments h.path.bytes) h.gets.resource Headers) refl h.gets.tells low in
      (is.0, (h.gets.resource, h.gets.here, is.1))

  get_tag : (m : DavMethod) (status : ℕ) → IsGotten m before request status sent after → SameLive after.last before.state after.state → status < 400
      → SendsTag before request sent after
  get_tag m status h same low = record {
    path = h.path;
    who = h.who;
    begins = h.begins;
    tags = told_tags (segments h.path.bytes) h.gets.resource status (get_outcome_of m before.state.map (segments h.path.bytes) h.gets.resource Headers) h.gets.tells low
        ∙ sym (tags_at after.state.map (segments h.path.bytes) h.gets.resource (ap (λ (s : State). at_path s.map (segments h.path.bytes)) same ∙ h.gets.here));
  }

  -- a GET that is held off
  get_off : (m : DavMethod) (status : ℕ) (h : IsGotten m before request status sent after) → IsOff status
      → (r : Resource) × (at_path before.state.map (segments h.path.bytes) ≡ Some r) × (get_outcome_of m before.state.map (segments h.path.bytes) r Headers ≡ Ok None)
  get_off m status h off =
      (h.gets.resource, h.gets.here, told_off m (segments h.path.bytes) h.gets.resource status (get_outcome_of m before.state.map (segments h.path.bytes) h.gets.resource Headers) refl h.gets.tells off)

  -- ---- every method

  held_alone : (e : Fault) (path : PathText) → IsOfMember e → ¬ HoldsOff before request after path e
  held_alone (fault.MemberLocked at) path member h = h
  held_alone (fault.ConflictingMember at other) path member h = h
  held_alone _ path member h = member

  -- a request that is refused, but not for the lock of a member
  fails_alone : (changes : Bool) (e : Fault) (Refuses : Path → Caller → Type 0) → IsOfMember e
      → Unread before.options request before.last changes e ⊎ Fails before request after e Refuses → ((p : Path) (who : Caller) → ¬ Refuses p who) → ⊥
  fails_alone changes e Refuses member (inl unread) none = unread_alone before.options request before.last changes e member unread
  fails_alone changes e Refuses member (inr h) none = elim h.why [
    | inl off ↦ held_alone e h.path member off
    | inr own ↦ none (segments h.path.bytes) h.who own.1
  ]

  get_alone : (m : DavMethod) (e : Fault) (p : Path) → IsOfMember e → ¬ FailsToGet m before.state.map p Headers e
  get_alone m (fault.MemberLocked path) p member h =
      told_alone m (standing_known before.state.map p (meta_at h.0.node)) (length h.0.node.bytes) Headers (course_of m (standing_known before.state.map p (meta_at h.0.node)) Headers) (fault.MemberLocked path) tt h.2
  get_alone m (fault.ConflictingMember at path) p member h =
      told_alone m (standing_known before.state.map p (meta_at h.0.node)) (length h.0.node.bytes) Headers (course_of m (standing_known before.state.map p (meta_at h.0.node)) Headers) (fault.ConflictingMember at path) tt h.2
  get_alone m _ p member h = member

  put_alone : (e : Fault) (p : Path) (who : Caller) → IsOfMember e → ¬ FailsToPut before.state who p (body_of request) Headers e
  put_alone (fault.MemberLocked path) p who member (inl h) = h
  put_alone (fault.MemberLocked path) p who member (inr h) =
      changed_alone (course_of method.Put (standing_at before.state.map p) Headers) (fault.MemberLocked path) tt h.1
  put_alone (fault.ConflictingMember at path) p who member (inl h) = h
  put_alone (fault.ConflictingMember at path) p who member (inr h) =
      changed_alone (course_of method.Put (standing_at before.state.map p) Headers) (fault.ConflictingMember at path) tt h.1
  put_alone _ p who member h = member

  tags_alone : (m : Option DavMethod) (e : Fault) → AnswersTo m before request (Err e) sent after → tells_tag m ≡ true → ¬ IsOfMember e
  tags_alone (Some method.Get) e h look member =
      fails_alone false e (λ p who. FailsToGet method.Get before.state.map p Headers e) member h.0 (λ p who. get_alone method.Get e p member)
  tags_alone (Some method.Head) e h look member =
      fails_alone false e (λ p who. FailsToGet method.Head before.state.map p Headers e) member h.0 (λ p who. get_alone method.Head e p member)
  tags_alone (Some method.Put) e (inl part) look member =
      other_fault e fault.BadRequest member (λ x. x) part.1
  tags_alone (Some method.Put) e (inr h) look member =
      fails_alone true e (λ p who. FailsToPut before.state who p (body_of request) Headers e) member h.1 (λ p who. put_alone e p who member)
  tags_alone _ e h look member = false≢true look

  refused_high : (m : Option DavMethod) (e : Fault) → AnswersTo m before request (Err e) sent after → tells_tag m ≡ true → 400 ≤ fault_status e
  refused_high m e h look = elim (fault_high e) [ inl member ↦ absurd (tags_alone m e h look member) | inr high ↦ high ]

  patch_alone : (e : Fault) (p : Path) (who : Caller) → IsOfMember e → ¬ FailsToPatch Headers (body_of request) (as_found before after) who p e
  patch_alone (fault.MemberLocked path) p who member (inl h) = h
  patch_alone (fault.MemberLocked path) p who member (inr h) =
      changed_alone (course_of method.PropPatch (standing_at before.state.map p) Headers) (fault.MemberLocked path) tt h.1
  patch_alone (fault.ConflictingMember at path) p who member (inl h) = h
  patch_alone (fault.ConflictingMember at path) p who member (inr h) =
      changed_alone (course_of method.PropPatch (standing_at before.state.map p) Headers) (fault.ConflictingMember at path) tt h.1
  patch_alone _ p who member h = member

  patch_high : (e : Fault) → AnswersTo (Some method.PropPatch) before request (Err e) sent after → 400 ≤ fault_status e
  patch_high e h = elim (fault_high e) [
    | inl member ↦
        absurd (fails_alone false e (λ p who. FailsToPatch Headers (body_of request) (as_found before after) who p e) member h (λ p who. patch_alone e p who member))
    | inr high ↦ high
  ]

  -- the status of a refusal doesn't say that something was done
  undone : (e : Fault) → (fault_status e < 300) × (fault_status e ≢ 207) → ⊥
  undone e low = no_fault e (fault_status e) refl (omega (arith, low.0)) low.1

  pub went_on : (m : Option DavMethod) (result : Result ℕ Fault) → AnswersTo m before request result sent after → looks m ≡ true → SaysDone m (status_of result)
      → WentOn m before request after
  went_on (Some method.PropPatch) (Err e) h look low = absurd (omega (arith, low, patch_high e h))
  went_on (Some method.Get) (Err e) h look low = absurd (undone e low)
  went_on (Some method.Head) (Err e) h look low = absurd (undone e low)
  went_on (Some method.Put) (Err e) h look low = absurd (undone e low)
  went_on (Some method.Delete) (Err e) h look low = absurd (undone e low)
  went_on (Some method.Copy) (Err e) h look low = absurd (undone e low)
  went_on (Some method.Move) (Err e) h look low = absurd (undone e low)
  went_on (Some method.MkCol) (Err e) h look low = absurd (undone e low)
  went_on (Some method.Lock) (Err e) h look low = absurd (undone e low)
  went_on (Some method.Unlock) (Err e) h look low = absurd (undone e low)
  went_on (Some method.Get) (Ok status) h look low =
      record { path = h.0.path; who = h.0.who; begins = h.0.begins; admits = h.0.admits; lets = get_on method.Get status h.0 low.0 }
  went_on (Some method.Head) (Ok status) h look low =
      record { path = h.0.path; who = h.0.who; begins = h.0.begins; admits = h.0.admits; lets = get_on method.Head status h.0 low.0 }
  went_on (Some method.Put) (Ok status) h look low =
      record { path = h.1.path; who = h.1.who; begins = h.1.begins; admits = h.1.admits; lets = h.1.course }
  went_on (Some method.Delete) (Ok status) h look low =
      record { path = h.path; who = h.who; begins = h.begins; admits = h.admits; lets = h.does.1.course }
  went_on (Some method.Copy) (Ok status) h look low =
      record { path = h.path; who = h.who; begins = h.begins; admits = h.admits; lets = h.does.1.course }
  went_on (Some method.Move) (Ok status) h look low =
      record { path = h.path; who = h.who; begins = h.begins; admits = h.admits; lets = h.does.1.course }
  went_on (Some method.MkCol) (Ok status) h look low =
      record { path = h.path; who = h.who; begins = h.begins; admits = h.admits; lets = h.does.1.course }
  went_on (Some method.Unlock) (Ok status) h look low =
      record { path = h.path; who = h.who; begins = h.begins; admits = h.admits; lets = h.does.1.course }
  went_on (Some method.PropPatch) (Ok status) h look low =
      record { path = h.path; who = h.who; begins = h.begins; admits = h.admits; lets = h.patches.course }
  went_on (Some method.Lock) (Ok status) h look low = record {
    path = h.path;
    who = h.who;
    begins = h.begins;
    admits = h.admits;
    lets = elim h.locks [ inl granted ↦ granted.1.course | inr refreshed ↦ refreshed.1.course ];
  }
  went_on _ result h look low = absurd (false≢true look)

  -- a request that is refused for a condition
  fails_off : (m : Option DavMethod) (changes : Bool) (e : Fault) (Refuses : Path → Caller → Type 0) → e ≡ fault.PreconditionFailed
      → Unread before.options request before.last changes e ⊎ Fails before request after e Refuses
      → ((p : Path) (who : Caller) → Refuses p who → Stops m (as_found before after) who p Headers) → HeldOff m before request after
  fails_off m changes e Refuses is (inl unread) stops = absurd (not_unread before.options request before.last changes e is unread)
  fails_off m changes e Refuses is (inr h) stops = record {
    path = h.path;
    who = h.who;
    begins = h.begins;
    why = elim h.why [
      | inl off ↦ inl (subst (HoldsOff before request after h.path) is off)
      | inr own ↦ inr (own.0, stops (segments h.path.bytes) h.who own.1)
    ];
  }

  -- a body that is refused is not a condition
  without_body : (Refuses : State → Caller → Path → Fault → Type 0) (s : State) (who : Caller) (p : Path) (e : Fault) → e ≡ fault.PreconditionFailed
      → RefusesBody request Refuses s who p e → Refuses s who p e
  without_body Refuses s who p e is (inl h) = absurd (let no : fault.UnsupportedMediaType ≡ fault.PreconditionFailed = sym h.1 ∙ is in cc)
  without_body Refuses s who p e is (inr h) = h.1

  -- a method that nothing else refuses so is stopped by conditions
  by_conditions : (Cant : Fault → Type 0) (Can : Type 0) (course : Result (Unit {0}) Fault) (e : Fault) → e ≡ fault.PreconditionFailed → ¬ Cant fault.PreconditionFailed
      → IsStopped Cant Can course e → course ≡ Err fault.PreconditionFailed
  by_conditions Cant Can course e is none (inl h) = absurd (none (subst Cant is h))
  by_conditions Cant Can course e is none (inr h) = h.1 ∙ ap Err is

  pub held_off : (m : Option DavMethod) (result : Result ℕ Fault) → AnswersTo m before request result sent after → IsOff (status_of result)
      → HeldOff m before request after
  held_off (Some method.Get) (Ok status) h off = record {
    path = h.0.path;
    who = h.0.who;
    begins = h.0.begins;
    why = inr (h.0.admits, inl (get_off method.Get status h.0 off));
  }
  held_off (Some method.Head) (Ok status) h off = record {
    path = h.0.path;
    who = h.0.who;
    begins = h.0.begins;
    why = inr (h.0.admits, inl (get_off method.Head status h.0 off));
  }
  held_off (Some method.Put) (Ok status) h off =
      let between = put_between (has before.state.map (segments h.1.path.bytes)) in
      absurd (elim off [ inl off ↦ omega (arith, off, h.1.status_is, between) | inr off ↦ omega (arith, off, h.1.status_is, between) ])
  held_off (Some method.Get) (Err e) h off =
      let is = fault_off e off in
      fails_off (Some method.Get) false e (λ p who. FailsToGet method.Get before.state.map p Headers e) is h.0
      (λ p who refuses. inr (subst (FailsToGet method.Get before.state.map p Headers) is refuses))
  held_off (Some method.Head) (Err e) h off =
      let is = fault_off e off in
      fails_off (Some method.Head) false e (λ p who. FailsToGet method.Head before.state.map p Headers e) is h.0
      (λ p who refuses. inr (subst (FailsToGet method.Head before.state.map p Headers) is refuses))
  held_off (Some method.Put) (Err e) (inl part) off =
      let is : fault.BadRequest ≡ fault.PreconditionFailed = sym part.1 ∙ fault_off e off in absurd (cc)
  held_off (Some method.Put) (Err e) (inr h) off =
      let is = fault_off e off in
      fails_off (Some method.Put) true e (λ p who. FailsToPut before.state who p (body_of request) Headers e) is h.1
      (λ p who refuses. by_conditions (CantPut before.state who p (body_of request)) _ _ e is (λ h. h) refuses)
  held_off (Some method.PropFind) (Ok status) h off = absurd (elim off [ inl off ↦ omega (arith, off, h.0.does.0) | inr off ↦ omega (arith, off, h.0.does.0) ])
  held_off (Some method.PropFind) (Err e) h off =
      let is = fault_off e off in
      fails_off (Some method.PropFind) false e (λ p who. FailsToTell before.options.finite Headers (body_of request) (as_found before after) who p e) is h.0
      (λ p who refuses. absurd (finding_told before.options.finite Headers (body_of request) before.state.map p e is refuses))
  held_off (Some method.Delete) (Ok status) h off = absurd (elim off [ inl off ↦ omega (arith, off, h.does.1.status_is) | inr off ↦ omega (arith, off, h.does.1.status_is) ])
  held_off (Some method.Delete) (Err e) h off =
      let is = fault_off e off in
      fails_off (Some method.Delete) true e (λ p who. RefusesBody request (FailsToRemove Headers) (as_found before after) who p e) is h
      (λ p who refuses. by_conditions (CantRemove Headers (as_found before after) who p) _ _ e is (λ h. h)
      (without_body (FailsToRemove Headers) (as_found before after) who p e is refuses))
  held_off (Some method.Copy) (Ok status) h off = absurd (transfer_low (has before.state.map (segments h.does.1.to.bytes)) status h.does.1.status_is off)
  held_off (Some method.Copy) (Err e) h off =
      let is = fault_off e off in
      let Refuses : State → Caller → Path → Fault → Type 0 = FailsToCopy (site_for before.options request) before.options.prefix Headers in
      fails_off (Some method.Copy) true e (λ p who. RefusesBody request Refuses (as_found before after) who p e) is h
      (λ p who refuses. copy_stops (site_for before.options request) before.options.prefix Headers (as_found before after) who p e is
      (without_body Refuses (as_found before after) who p e is refuses))
  held_off (Some method.Move) (Ok status) h off = absurd (transfer_low (has before.state.map (segments h.does.1.to.bytes)) status h.does.1.status_is off)
  held_off (Some method.Move) (Err e) h off =
      let is = fault_off e off in
      let Refuses : State → Caller → Path → Fault → Type 0 = moving.FailsToMove (site_for before.options request) before.options.prefix Headers in
      fails_off (Some method.Move) true e (λ p who. RefusesBody request Refuses (as_found before after) who p e) is h
      (λ p who refuses. move_stops (site_for before.options request) before.options.prefix Headers (as_found before after) who p e is
      (without_body Refuses (as_found before after) who p e is refuses))
  held_off (Some method.MkCol) (Ok status) h off = absurd (elim off [ inl off ↦ omega (arith, off, h.does.1.status_is) | inr off ↦ omega (arith, off, h.does.1.status_is) ])
  held_off (Some method.MkCol) (Err e) h off =
      let is = fault_off e off in
      fails_off (Some method.MkCol) true e (λ p who. RefusesBody request (FailsToMake Headers) (as_found before after) who p e) is h
      (λ p who refuses. by_conditions (CantMake (as_found before after) who p) _ _ e is (λ h. h)
      (without_body (FailsToMake Headers) (as_found before after) who p e is refuses))
  held_off (Some method.Unlock) (Ok status) h off = absurd (elim off [ inl off ↦ omega (arith, off, h.does.1.status_is) | inr off ↦ omega (arith, off, h.does.1.status_is) ])
  held_off (Some method.Unlock) (Err e) h off =
      let is = fault_off e off in
      fails_off (Some method.Unlock) false e (λ p who. RefusesBody request (FailsToUnlock Headers) (as_found before after) who p e) is h
      (λ p who refuses. by_conditions (CantUnlock Headers (as_found before after) who p) _ _ e is (λ h. h.2)
      (without_body (FailsToUnlock Headers) (as_found before after) who p e is refuses))
  held_off (Some method.Lock) (Ok status) h off = absurd (lock_low before request status sent after h off)
  held_off (Some method.Lock) (Err e) (inl unread) off = absurd (not_unread before.options request before.last (has_body request) e (fault_off e off) unread)
  held_off (Some method.Lock) (Err e) (inr h) off = record {
    path = h.path;
    who = h.who;
    begins = h.begins;
    why = elim h.why [
      | inl held ↦ inl (subst (HoldsOff before request after h.path) (fault_off e off) held)
      | inr own ↦ inr (own.0, locking_stops before.options.longest Headers (body_of request) (as_found before after) h.who h.path e (fault_off e off) own.1)
    ];
  }
  held_off (Some method.PropPatch) (Ok status) h off =
      absurd (elim off [ inl off ↦ omega (arith, off, h.patches.status_is) | inr off ↦ omega (arith, off, h.patches.status_is) ])
  held_off (Some method.PropPatch) (Err e) h off =
      let is = fault_off e off in
      fails_off (Some method.PropPatch) false e (λ p who. FailsToPatch Headers (body_of request) (as_found before after) who p e) is h
      (λ p who refuses. by_conditions (CantPatch (body_of request) (as_found before after) who p) _ _ e is (λ h. h) refuses)
  held_off (Some method.Options) (Ok status) h (inl off) = absurd (omega (arith, h.0, off))
  held_off (Some method.Options) (Ok status) h (inr off) = absurd (omega (arith, h.0, off))
  held_off (Some method.Options) (Err e) h off =
      let is : fault.InsufficientStorage ≡ fault.PreconditionFailed = sym h.0 ∙ fault_off e off in absurd (cc)
  held_off _ (Ok status) h off = absurd (cc)
  held_off _ (Err e) h off =
      let unserved = not_served e h.0 in
      let is : fault.NotImplemented ≡ fault.PreconditionFailed = sym unserved ∙ fault_off e off in absurd (cc)

  -- a condition that doesn't hold has changed nothing
  leaves_all : (m : Option DavMethod) (e : Fault) → e ≡ fault.PreconditionFailed → Leaves m before request e after → SameLive after.last before.state after.state
  leaves_all (Some method.Copy) e is h = subst (λ e. Leaves (Some method.Copy) before request e after) is h
  leaves_all (Some method.Move) e is h = subst (λ e. Leaves (Some method.Move) before request e after) is h
  leaves_all (Some method.Lock) e is h = subst (λ e. Leaves (Some method.Lock) before request e after) is h
  leaves_all _ e is h = h

  -- nothing has changed
  pub stays : (m : Option DavMethod) (result : Result ℕ Fault) → AnswersTo m before request result sent after
      → IfErr result (λ e. Leaves m before request e after) → IsOff (status_of result) → SameLive after.last before.state after.state
  stays m (Err e) h refused off = leaves_all m e (fault_off e off) refused
  stays (Some method.Get) (Ok status) h refused off = h.1
  stays (Some method.Head) (Ok status) h refused off = h.1
  stays (Some method.PropFind) (Ok status) h refused off = h.1
  stays (Some method.Put) (Ok status) h refused off =
      let between = put_between (has before.state.map (segments h.1.path.bytes)) in
      absurd (elim off [ inl off ↦ omega (arith, off, h.1.status_is, between) | inr off ↦ omega (arith, off, h.1.status_is, between) ])
  stays (Some method.Delete) (Ok status) h refused off =
      absurd (elim off [ inl off ↦ omega (arith, off, h.does.1.status_is) | inr off ↦ omega (arith, off, h.does.1.status_is) ])
  stays (Some method.Copy) (Ok status) h refused off = absurd (transfer_low (has before.state.map (segments h.does.1.to.bytes)) status h.does.1.status_is off)
  stays (Some method.Move) (Ok status) h refused off = absurd (transfer_low (has before.state.map (segments h.does.1.to.bytes)) status h.does.1.status_is off)
  stays (Some method.MkCol) (Ok status) h refused off =
      absurd (elim off [ inl off ↦ omega (arith, off, h.does.1.status_is) | inr off ↦ omega (arith, off, h.does.1.status_is) ])
  stays (Some method.Unlock) (Ok status) h refused off =
      absurd (elim off [ inl off ↦ omega (arith, off, h.does.1.status_is) | inr off ↦ omega (arith, off, h.does.1.status_is) ])
  stays (Some method.Lock) (Ok status) h refused off = absurd (lock_low before request status sent after h off)
  stays (Some method.PropPatch) (Ok status) h refused off =
      absurd (elim off [ inl off ↦ omega (arith, off, h.patches.status_is) | inr off ↦ omega (arith, off, h.patches.status_is) ])
  stays (Some method.Options) (Ok status) h refused (inl off) = absurd (omega (arith, h.0, off))
  stays (Some method.Options) (Ok status) h refused (inr off) = absurd (omega (arith, h.0, off))
  stays _ (Ok status) h refused off = absurd (cc)

  -- ---- parts and tags

  told_part : (p : Path) (r : Resource) (status : ℕ) (x : Result (Option Extent) Fault) → get_outcome_of method.Get before.state.map p r Headers ≡ x → Tells x p r status sent → status ≡ 206
      → (first : ℕ) × ((end : ℕ) × (get_outcome_of method.Get before.state.map p r Headers ≡ Ok (Some (extent.Part first end))) × (sent.body ≡ take (end - first) (drop first r.node.bytes))
      × (sent_parts sent.fields ≡ part_text first end (length r.node.bytes) ∷ []))
  told_part p r status (Err e) is h part = absurd h
  told_part p r status (Ok None) is h part = absurd (omega (arith, h.0, part))
  told_part p r status (Ok (Some extent.Whole)) is h part = absurd (omega (arith, h.0, part))
  told_part p r status (Ok (Some (extent.Part first end))) is h part = (first, (end, is, h.2, part_parts p r (part_text first end (length r.node.bytes)) sent.fields h.1))
  told_part p r status (Ok (Some extent.Unsatisfiable)) is h part = absurd (omega (arith, h.0, part))

  -- a HEAD has no part
  no_part : (standing : Standing) (size : ℕ) (o : Option Course) (status : ℕ) (p : Path) (r : Resource) → Tells (get_outcome_by method.Head standing size Headers o) p r status sent → ¬ (status ≡ 206)
  no_part standing size None status p r h part = h
  no_part standing size (Some course.PreconditionFailed) status p r h part = h
  no_part standing size (Some course.NotModified) status p r h part = omega (arith, h.0, part)
  no_part standing size (Some course.Whole) status p r h part = omega (arith, h.0, part)
  no_part standing size (Some course.Proceed) status p r h part = omega (arith, h.0, part)

  pub sends_part : (m : Option DavMethod) (result : Result ℕ Fault) → AnswersTo m before request result sent after → status_of result ≡ 206
      → SendsPart before request sent after
  sends_part m (Err e) h part = absurd (no_fault e 206 part (omega arith) (λ same. omega (arith, same)))
  sends_part (Some method.Get) (Ok status) h part =
      let r = h.0.gets.resource in
      let told = told_part (segments h.0.path.bytes) r status (get_outcome_of method.Get before.state.map (segments h.0.path.bytes) r Headers) refl h.0.gets.tells part in
      record {
        path = h.0.path;
        who = h.0.who;
        begins = h.0.begins;
        resource = r;
        here = h.0.gets.here;
        first = told.0;
        end = told.1.0;
        asked = told.1.1;
        bytes = told.1.2;
        says = told.1.3;
      }
  sends_part (Some method.Head) (Ok status) h part =
      let r = h.0.gets.resource in
      let at = standing_known before.state.map (segments h.0.path.bytes) (meta_at r.node) in
      absurd (no_part at (length r.node.bytes) (course_of method.Head at Headers) status (segments h.0.path.bytes) r h.0.gets.tells part)
  sends_part (Some method.Put) (Ok status) h part =
      absurd (omega (arith, part, h.1.status_is, put_between (has before.state.map (segments h.1.path.bytes))))
  sends_part (Some method.PropFind) (Ok status) h part = absurd (omega (arith, h.0.does.0, part))
  sends_part (Some method.Delete) (Ok status) h part = absurd (omega (arith, h.does.1.status_is, part))
  sends_part (Some method.Copy) (Ok status) h part =
      absurd (omega (arith, part, h.does.1.status_is, put_between (has before.state.map (segments h.does.1.to.bytes))))
  sends_part (Some method.Move) (Ok status) h part =
      absurd (omega (arith, part, h.does.1.status_is, put_between (has before.state.map (segments h.does.1.to.bytes))))
  sends_part (Some method.MkCol) (Ok status) h part = absurd (omega (arith, h.does.1.status_is, part))
  sends_part (Some method.Unlock) (Ok status) h part = absurd (omega (arith, h.does.1.status_is, part))
  sends_part (Some method.Lock) (Ok status) h part = absurd (omega (arith, locked_between before request status sent after h, part))
  sends_part (Some method.PropPatch) (Ok status) h part = absurd (omega (arith, h.patches.status_is, part))
  sends_part (Some method.Options) (Ok status) h part = absurd (omega (arith, h.0, part))
  sends_part _ (Ok status) h part = absurd (cc)

  pub file_tags : (file : Resource) → file.node.kind ≡ File → tag_of file ∷ [] ≡ own_tags file
  file_tags file kind = sym (ap (λ k. elim k [ Folder ↦ [] | File ↦ tag_of file ∷ [] ]) kind)

  pub sends_tag : (m : Option DavMethod) (result : Result ℕ Fault) → AnswersTo m before request result sent after → tells_tag m ≡ true → status_of result < 400
      → SendsTag before request sent after
  sends_tag m (Err e) h look low = absurd (omega (arith, low, refused_high m e h look))
  sends_tag (Some method.Get) (Ok status) h look low = get_tag method.Get status h.0 h.1 low
  sends_tag (Some method.Head) (Ok status) h look low = get_tag method.Head status h.0 h.1 low
  sends_tag (Some method.Put) (Ok status) h look low = record {
    path = h.1.path;
    who = h.1.who;
    begins = h.1.begins;
    tags = ap (λ (s : Sent). sent_tags s.fields) h.1.tells ∙ file_tags h.1.puts.file h.1.puts.kind ∙ sym (tags_at after.state.map (segments h.1.path.bytes) h.1.puts.file h.1.puts.here);
  }
  sends_tag _ (Ok status) h look low = absurd (false≢true look)

-- ---- of what is sent

-- the tags and the part that a method tells are those that are sent
module _ (before : Server) (request : Request (List ℕ)) (response : Response) (after : Server) (h : Answers before request response after) where
  pub part_sent : status_of h.result ≡ 206 → SendsPart before request h.own after → SendsPart before request (sent_of response) after
  part_sent is part = by h.result is (own_sent before request response after h)
    where
      by : (result : Result ℕ Fault) → status_of result ≡ 206 → OnOk result (sent_of response ≡ sent_behind (first_fields h.date) h.own) → SendsPart before request (sent_of response) after
      by (Ok status) is sent = record {
        path = part.path;
        who = part.who;
        begins = part.begins;
        resource = part.resource;
        here = part.here;
        first = part.first;
        end = part.end;
        asked = part.asked;
        bytes = ap (λ (s : Sent). s.body) sent ∙ part.bytes;
        says = ap (λ (s : Sent). sent_parts s.fields) sent ∙ part.says;
      }
      by (Err e) is sent = absurd (no_fault e 206 is (omega arith) (λ same. omega (arith, same)))

  pub tag_sent : tells_tag h.method ≡ true → status_of h.result < 400 → SendsTag before request h.own after → SendsTag before request (sent_of response) after
  tag_sent look low tag = by h.result h.done low (own_sent before request response after h)
    where
      by : (result : Result ℕ Fault) → AnswersTo h.method before request result h.own after → status_of result < 400
          → OnOk result (sent_of response ≡ sent_behind (first_fields h.date) h.own) → SendsTag before request (sent_of response) after
      by (Ok status) done low sent = record {
        path = tag.path;
        who = tag.who;
        begins = tag.begins;
        tags = ap (λ (s : Sent). sent_tags s.fields) sent ∙ tag.tags;
      }
      by (Err e) done low sent = absurd (omega (arith, low, refused_high before after request h.own h.method e done look))
