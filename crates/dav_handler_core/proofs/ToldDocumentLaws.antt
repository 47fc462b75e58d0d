-- What is done by a PROPFIND, a PROPPATCH or a LOCK is told by a document, over a run from new stores.
use Rattle.std.proofs.Common.{◌≡◌, inl, inr, ℕ, ◌<◌, ◌≤◌, ◌^◌, Bool, true, false, cond, List, [], ◌∷◌, ◌++◌, length, Option, Some, Result, Ok, Err, sym, ◌∙◌, ap, subst}
use Rattle.std.specs.Prelude.{IfOk, bytes_eq, OnOk}
use Rattle.std.specs.List.{AllByRecursion}
use Rattle.std.proofs.lemmas.Bool.{false≢true}
use Rattle.http.specs.declared.request.Request.{Request}
use Rattle.http.specs.Request.{body_of, head_of}
use Rattle.http_server.specs.declared.response.Response.{Response}
use Rattle.dav_path_core.specs.declared.util.DavMethod.{DavMethod}
use Rattle.dav_path_core.specs.declared.util.DavMethod.TheVariants as method
use Rattle.dav_path_core.specs.Fronts.{Path}
use Rattle.dav_path_core.specs.Segments.{segments}
use Rattle.dav_path_core.proofs.lists.FinMaps.{one_some}
use Rattle.dav_files_core.specs.Resources.{Resource, at_path, is_folder}
use Rattle.dav_files_core.proofs.properties.PropertyMapLemmas.{key_total}
use Rattle.dav_locks_core.specs.Lock.{Lock}
use Rattle.dav_locks_core.specs.Locks.{discovered_locks, refreshed_lock}
use Rattle.dav_guarded_core.specs.Step.{State}
use Rattle.dav_xml_core.specs.Reading.{document_of}
use Rattle.dav_faults_core.specs.declared.faults.Fault.{Fault}
use Rattle.dav_handler_core.specs.Answers.{Answers, AnswersTo}
use Rattle.dav_handler_core.specs.MethodAnswers.{IsLocked, IsPropPatched, as_found}
use Rattle.dav_handler_core.specs.Server.{Server}
use Rattle.dav_fields_core.specs.Fields.{Sent, sent_behind, sent_of, sent_types}
use Rattle.dav_fields_core.specs.AnswerFields.{first_fields}
use Rattle.dav_handler_core.proofs.SentAnswerLemmas.{own_sent}
use Rattle.dav_safe_methods_core.specs.PropfindMethod.{DescribesEach}
use Rattle.dav_handler_core.specs.KeptDocuments.{IsNew, KeepsElements, TellsXml, is_told_in_xml}
use Rattle.dav_documents_core.specs.KeptElements.{IsDocument, IsKeptLock, IsKeptProperty, IsVisible}
use Rattle.dav_documents_core.specs.PatchBodies.{patch_nodes}
use Rattle.dav_safe_methods_core.specs.PropertyAnswers.{Describes, last_or, place_url}
use Rattle.dav_documents_core.specs.PropertyDocuments.{Description}
use Rattle.dav_methods_core.specs.RefreshMethod.{retimed_locks}
use Rattle.dav_methods_core.specs.ToldPaths.{told_path}
use Rattle.dav_methods_core.proofs.ToldPathLemmas.{rooted_told}
use Rattle.dav_handler_core.specs.TagHistories.{Becomes}
use Rattle.dav_documents_core.proofs.AskedNameLemmas.{question_names}
use Rattle.dav_handler_core.proofs.DescriptionTextLemmas.{folder_url, http_date_visible, internet_date_visible, member_url, tag_visible, type_visible}
use Rattle.dav_documents_core.proofs.KeptReadingLaws.{updates_are_kept}
use Rattle.dav_documents_core.proofs.KeptLockTexts.{AreKeptLocks, all_behind, discovered_kept, kept_later}
use Rattle.dav_handler_core.proofs.KeptStoreLaws.{begins_kept, granted_lock_kept, run_keeps}
use Rattle.dav_handler_core.proofs.LockTextLemmas.{target_rooted}
use Rattle.dav_documents_core.proofs.MapValueLemmas.{in_values}
use Rattle.dav_documents_core.proofs.PatchDocumentLemmas.{patch_is_read}
use Rattle.dav_documents_core.proofs.ToldDocumentLemmas.{IsTellable, locks_are_read, resources_are_read}

-- ---- what is told of places

module _ (before after : Server) (later : before.last ≤ after.last) (kept : KeepsElements before) where
  abbrev s : State
  s = as_found before after

  live_kept : AreKeptLocks s.locks
  live_kept = kept_later before.last after.last before.state.locks later kept.locks

  place_visible : (prefix : List ℕ) (p : Path) (resource : Resource) → at_path s.map p ≡ Some resource → IsVisible (place_url prefix p (is_folder resource.node.kind))
  place_visible prefix [] resource here =
      let root = kept.shape.root in
      let same = one_some (at_path s.map []) resource root.0 here root.1 in
      subst (λ b. IsVisible (place_url prefix [] b)) (sym (ap is_folder (ap (λ (r : Resource). r.node.kind) same ∙ root.3))) (folder_url prefix [])
  place_visible prefix (x ∷ p) resource here = member_url prefix x p (is_folder resource.node.kind)

  tellable : (prefix : List ℕ) (p : Path) (d : Description) → Describes prefix s p d → IsTellable d
  tellable prefix p d h =
      let known = h.described in
      record {
        url = subst IsVisible (sym known.url_is) (place_visible prefix p h.resource h.here);
        content_type = subst IsVisible (sym known.type_is) (type_visible (last_or [] p));
        tag = subst IsVisible (sym known.tag_is) (tag_visible _ _);
        created = internet_date_visible _ d.created known.created_is;
        modified = http_date_visible _ d.modified known.modified_is;
        props = subst (AllByRecursion IsKeptProperty) (sym known.props_are) (in_values key_total IsKeptProperty h.resource.node.props (kept.properties p h.resource h.here));
        locks = subst AreKeptLocks (sym known.locks_are) (discovered_kept s.locks p live_kept);
      }

  each_tellable : (prefix : List ℕ) (places : List Path) (resources : List Description) → DescribesEach prefix s places resources → AllByRecursion IsTellable resources
  each_tellable prefix [] [] h = tt
  each_tellable prefix [] (d ∷ resources) h = absurd h
  each_tellable prefix (p ∷ places) [] h = absurd h
  each_tellable prefix (p ∷ places) (d ∷ resources) h = (tellable prefix p d h.0, each_tellable prefix places resources h.1)

  -- ---- locks

  retimed_kept : (now : ℕ) (token : List ℕ) (timeout : Option ℕ) (locks : List Lock) → AreKeptLocks locks → AreKeptLocks (retimed_locks now token timeout locks)
  retimed_kept now token timeout [] h = tt
  retimed_kept now token timeout (l ∷ locks) h = (by (bytes_eq l.token token), retimed_kept now token timeout locks h.1)
    where
      by : (b : Bool) → IsKeptLock (cond b (refreshed_lock now timeout l) l)
      by true = record { token = h.0.token; rooted = h.0.rooted; owner = h.0.owner }
      by false = h.0

  lock_told : (request : Request (List ℕ)) (status : ℕ) (sent : Sent) → length (body_of request) < 2 ^ 64 → IsLocked before request status sent after → TellsXml sent
  lock_told request status sent fits h = elim h.locks [
    | inl granted ↦
        let g = granted.1 in
        let p = segments h.path.bytes in
        let lock = granted_lock_kept before after later kept request status sent fits h g in
        record {
          document = subst IsDocument (sym (ap (λ (s : Sent). s.body) g.tells))
              (locks_are_read before.options.prefix h.who.principal h.who.now (discovered_locks (s.locks ++ g.lock ∷ []) p)
              (discovered_kept (s.locks ++ g.lock ∷ []) p (all_behind IsKeptLock s.locks (g.lock ∷ []) live_kept (lock, tt))));
          typed = ap (λ (s : Sent). sent_types s.fields) g.tells;
        }
    | inr refreshed ↦
        let r = refreshed.1 in
        let locks = discovered_locks s.locks (segments h.path.bytes) in
        record {
          document = subst IsDocument (sym (ap (λ (s : Sent). s.body) r.tells))
              (locks_are_read before.options.prefix h.who.principal h.who.now (retimed_locks h.who.now r.token r.timeout locks)
              (retimed_kept h.who.now r.token r.timeout locks (discovered_kept s.locks (segments h.path.bytes) live_kept)));
          typed = ap (λ (s : Sent). sent_types s.fields) r.tells;
        }
  ]

-- ---- a PROPPATCH

-- its answer is read as it was told
pub patch_told : (before after : Server) (request : Request (List ℕ)) (status : ℕ) (sent : Sent) → length (body_of request) < 2 ^ 64 → (h : IsPropPatched before request status sent after)
    → document_of sent.body ≡ Some (patch_nodes before.options.prefix (told_path (as_found before after).map h.path) h.patches.updates)
patch_told before after request status sent fits h =
    let updates = h.patches.updates in
    ap (λ (s : Sent). document_of s.body) h.patches.tells
    ∙ patch_is_read before.options.prefix (told_path (as_found before after).map h.path) updates
    (rooted_told h.path (as_found before after).map (target_rooted before.options.prefix (head_of request).uri h.path h.begins.names))
    (updates_are_kept (body_of request) updates fits h.patches.asks)

-- ---- an answer

method_told : (m : Option DavMethod) (before after : Server) (request : Request (List ℕ)) (result : Result ℕ Fault) (sent : Sent) → before.last ≤ after.last → KeepsElements before
    → length (body_of request) < 2 ^ 64 → AnswersTo m before request result sent after → is_told_in_xml m ≡ true → IfOk result (λ status. TellsXml sent)
method_told m before after request (Err e) sent later kept fits h is = tt
method_told (Some method.PropFind) before after request (Ok status) sent later kept fits h is =
    let found = h.0.does.2 in
    record {
      document = subst IsDocument (sym found.told_is)
          (resources_are_read before.options.prefix h.0.who.principal h.0.who.now found.question found.resources (question_names (body_of request) found.question fits found.question_is)
          (each_tellable before after later kept before.options.prefix found.places found.resources found.described));
      typed = ap (λ (s : Sent). sent_types s.fields) h.0.does.1;
    }
method_told (Some method.PropPatch) before after request (Ok status) sent later kept fits h is =
    record {
      document = record { nodes = patch_nodes before.options.prefix (told_path (as_found before after).map h.path) h.patches.updates; is = patch_told before after request status sent fits h };
      typed = ap (λ (s : Sent). sent_types s.fields) h.patches.tells;
    }
method_told (Some method.Lock) before after request (Ok status) sent later kept fits h is = lock_told before after later kept request status sent fits h
method_told _ before after request (Ok status) sent later kept fits h is = absurd (false≢true is)

pub answer_told : (begun before after : Server) (request : Request (List ℕ)) (response : Response) → IsNew begun → Becomes begun before → (h : Answers before request response after)
    → is_told_in_xml h.method ≡ true → IfOk h.result (λ status. TellsXml (sent_of response))
answer_told begun before after request response new run h is =
    by h.result (own_sent before request response after h)
    (method_told h.method before after request h.result h.own h.moves.moments (run_keeps begun before (begins_kept begun new) run) h.fits h.done is)
  where
    by : (result : Result ℕ Fault) → OnOk result (sent_of response ≡ sent_behind (first_fields h.date) h.own) → IfOk result (λ status. TellsXml h.own) → IfOk result (λ status. TellsXml (sent_of response))
    by (Ok status) sent told = record {
      document = subst IsDocument (sym (ap (λ (s : Sent). s.body) sent)) told.document;
      typed = ap (λ (s : Sent). sent_types s.fields) sent ∙ told.typed;
    }
    by (Err e) sent told = tt
