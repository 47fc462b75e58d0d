-- What the stores keep of XML can be read after each answer, if it could before.
use Rattle.std.proofs.Common.{◌≡◌, inl, inr, ℕ, ◌<◌, ◌≤◌, ◌^◌, Bool, true, false, cond, not, ◌||◌, List, [], ◌∷◌, ◌++◌, length, Option, Some, None, Result, Ok, Err, refl, sym, ◌∙◌, ap, subst}
use Rattle.std.specs.Prelude.{IfErr, option_map, remove, set}
use Rattle.std.specs.List.{AllByRecursion}
use Rattle.std.proofs.lemmas.Bool.{cases_Bool}
use Rattle.http.specs.declared.request.Request.{Request}
use Rattle.http.specs.Request.{body_of, head_of}
use Rattle.http_server.specs.declared.response.Response.{Response}
use Rattle.http_header.specs.FieldValue.{FieldValue}
use Rattle.http_header.specs.HeaderMap.{Entries}
use Rattle.dav_path_core.specs.declared.util.DavMethod.{DavMethod}
use Rattle.dav_path_core.specs.declared.util.DavMethod.TheVariants as method
use Rattle.dav_path_core.specs.Fronts.{Path, is_front, is_same_path, parent}
use Rattle.dav_path_core.specs.PathText.{PathText}
use Rattle.dav_path_core.specs.Segments.{segments}
use Rattle.dav_path_core.proofs.lists.FinMaps.{dec, none_some, one_some}
use Rattle.dav_path_core.proofs.lists.Orders.{path_exact, path_total}
use Rattle.dav_files_core.specs.Following.{dated_entry}
use Rattle.dav_files_core.specs.Resources.{IsResourceMap, Node, Resource, ResourceMap, at_path}
use Rattle.dav_files_core.proofs.walks.StartLemmas.{IsResourceMap-start}
use Rattle.dav_locks_core.specs.Exclusive.{Exclusive}
use Rattle.dav_locks_core.specs.Lock.{Lock}
use Rattle.dav_locks_core.specs.Locks.{is_at_or_below, refreshed_lock, without_below}
use Rattle.dav_locks_core.specs.Stale.{is_stale, without_stale}
use Rattle.dav_guarded_core.specs.Step.{State}
use Rattle.dav_faults_core.specs.declared.faults.Fault.{Fault}
use Rattle.dav_faults_core.specs.declared.faults.Fault.TheVariants as fault
use Rattle.dav_handler_core.specs.Answers.{Answers, AnswersTo, Leaves}
use Rattle.dav_handler_core.specs.MethodAnswers.{IsLocked, as_found}
use Rattle.dav_handler_core.specs.Server.{Server}
use Rattle.dav_session_core.specs.Callers.{Caller, SameLive, live}
use Rattle.dav_session_core.specs.Clearing.{IsCleared}
use Rattle.dav_session_core.specs.Copying.{IsPartlyCopied, created_at, is_copied}
use Rattle.dav_fields_core.specs.Fields.{Sent}
use Rattle.dav_session_core.specs.Granting.{granted_lock}
use Rattle.dav_handler_core.specs.KeptDocuments.{IsNew, KeepsElements}
use Rattle.dav_documents_core.specs.KeptElements.{AreKept, IsKeptLock}
use Rattle.dav_documents_core.specs.LockInfos.{LockInfo, lock_info_in}
use Rattle.dav_methods_core.specs.LockMethod.{IsGranted}
use Rattle.dav_methods_core.specs.MkcolMethod.{Makes}
use Rattle.dav_session_core.specs.Moving.{IsMoved}
use Rattle.dav_documents_core.specs.PatchBodies.{any_protected}
use Rattle.dav_methods_core.specs.ProppatchMethod.{Changes}
use Rattle.dav_session_core.specs.Patching.{IsPatched, with_updates}
use Rattle.dav_documents_core.specs.PropertyUpdates.{Update}
use Rattle.dav_methods_core.specs.PutMethod.{Puts, props_of}
use Rattle.dav_methods_core.specs.ToldPaths.{told_path}
use Rattle.dav_documents_core.specs.RefusalReading.{IsRooted}
use Rattle.dav_session_core.specs.Removing.{IsRemoved}
use Rattle.dav_handler_core.specs.TagHistories.{Becomes}
use Rattle.dav_handler_core.specs.TagHistories.Becomes.{itself, by_clock, by_answer, by_restart}
use Rattle.dav_session_core.proofs.Asking.{live_once}
use Rattle.dav_documents_core.proofs.AskedNameLemmas.{lock_owner}
use Rattle.dav_documents_core.proofs.KeptReadingLaws.{IsKeptUpdate, updates_are_kept}
use Rattle.dav_handler_core.proofs.LockTextLemmas.{target_rooted, token_visible}
use Rattle.dav_documents_core.proofs.NamedLemmas.{passes_all}
use Rattle.dav_methods_core.proofs.PutMethodLemmas.{Found, put_found}
use Rattle.dav_methods_core.proofs.ToldPathLemmas.{rooted_told}
use Rattle.dav_path_core.proofs.paths.SubtreePaths.{rest_of}
use Rattle.dav_documents_core.proofs.KeptLockTexts.{AreKeptLocks, kept_later, all_behind, removed_one, set_one, patched_kept, no_props, AllKept, IsKeptAt, mapped_kept, new_kept}

-- ---- maps

found_kept : (m m' : ResourceMap) (p : Path) (bytes : List ℕ) (now : ℕ) → Found m p bytes now m' → AllKept m → AllKept m'
found_kept m m' p bytes now h kept q r is = elim (dec path_total path_exact q p) [
  | inl here ↦
      let same = one_some (at_path m' p) r h.file (subst (λ q. at_path m' q ≡ Some r) here is) h.here in
      subst AreKept (sym h.props ∙ ap (λ (x : Resource). x.node.props) (sym same)) (of (at_path m p) refl)
  | inr apart ↦ kept q r (sym (h.others q apart) ∙ is)
]
  where
    of : (o : Option Resource) → at_path m p ≡ o → AreKept (props_of o)
    of None there = no_props
    of (Some old) there = kept p old there

removed_kept : (now : ℕ) (p : Path) (s s' : State) → IsRemoved now p s s' → AllKept s.map → AllKept s'.map
removed_kept now p s s' h kept q r is = elim (dec path_total path_exact q (parent p)) [
  | inl above ↦ mapped_kept (dated_entry now) (λ r. refl) (at_path s.map (parent p)) (kept (parent p)) r (sym h.above ∙ subst (λ q. at_path s'.map q ≡ Some r) above is)
  | inr below ↦ elim (cases_Bool (is_front p q)) [
    | inl inside ↦ none_some (at_path s'.map q) r (h.gone q inside) is
    | inr out ↦ kept q r (sym (h.others q out below) ∙ is)
  ]
]

cleared_kept : (now : ℕ) (to : Path) (s s' : State) → IsCleared now to s s' → AllKept s.map → AllKept s'.map
cleared_kept now to s s' (inl h) kept = removed_kept now to s s' h.1 kept
cleared_kept now to s s' (inr h) kept = subst (λ (t : State). AllKept t.map) (sym h.1) kept

copied_kept : (now : ℕ) (deep : Bool) (from to : Path) (s s' : State) → IsPartlyCopied now deep from to s s' → AllKept s.map → AllKept s'.map
copied_kept now deep from to s s' h kept q r is = elim (cases_Bool (is_front to q)) [
  | inl inside ↦ behind_it (rest_of to q inside)
  | inr out ↦ kept q r (sym (h.others q out) ∙ is)
]
  where
    of_node : (o : Option Resource) → IsKeptAt o → (copied : Bool) → Some r.node ≡ cond copied (option_map (created_at now) (option_map (λ (x : Resource). x.node) o)) None → AreKept r.node.props
    of_node o k false e = absurd (cc)
    of_node None k true e = absurd (cc)
    of_node (Some old) k true e =
        let same : r.node ≡ created_at now old.node = cc in subst AreKept (sym (ap (λ (n : Node). n.props) same)) (k old refl)

    behind_it : (rest : Path) × (q ≡ to ++ rest) → AreKept r.node.props
    behind_it at =
        let here : at_path s'.map (to ++ at.0) ≡ Some r = subst (λ q. at_path s'.map q ≡ Some r) at.1 is in
        elim (h.there at.0) [
          | inl same ↦ kept (to ++ at.0) r (sym same ∙ here)
          | inr copied ↦
              of_node (at_path s.map (from ++ at.0)) (kept (from ++ at.0)) (is_copied deep from to at.0)
              (sym (ap (option_map (λ (x : Resource). x.node)) here) ∙ copied)
        ]

moved_kept : (now : ℕ) (from to : Path) (s s' : State) → IsMoved now from to s s' → AllKept s.map → AllKept s'.map
moved_kept now from to s s' h kept q r is = elim (cases_Bool (is_front from q)) [
  | inl gone ↦ none_some (at_path s'.map q) r (h.gone q gone) is
  | inr out ↦ elim (cases_Bool (is_front to q)) [
    | inl inside ↦
        let at = rest_of to q inside in
        kept (from ++ at.0) r (sym (h.there at.0) ∙ subst (λ q. at_path s'.map q ≡ Some r) at.1 is)
    | inr away ↦
        mapped_kept (λ (x : Resource). cond (is_same_path q (parent from) || is_same_path q (parent to)) (dated_entry now x) x)
        (λ x. either_way (is_same_path q (parent from) || is_same_path q (parent to)) x) (at_path s.map q) (kept q) r (sym (h.others q out away) ∙ is)
  ]
]
  where
    either_way : (b : Bool) (x : Resource) → (cond b (dated_entry now x) x).node.props ≡ x.node.props
    either_way true x = refl
    either_way false x = refl

made_kept : (headers : Entries FieldValue) (s s' : State) (who : Caller) (p : Path) (status : ℕ) → Makes headers s who p status s' → AllKept s.map → AllKept s'.map
made_kept headers s s' who p status h kept q r is = elim (dec path_total path_exact q p) [
  | inl here ↦
      let same = one_some (at_path s'.map p) r h.folder (subst (λ q. at_path s'.map q ≡ Some r) here is) h.here in
      subst AreKept (sym (ap (λ (x : Resource). x.node.props) same ∙ ap (λ (n : Node). n.props) h.new)) no_props
  | inr apart ↦ elim (dec path_total path_exact q (parent p)) [
    | inl above ↦
        let same = one_some (at_path s'.map (parent p)) r (dated_entry who.now h.above) (subst (λ q. at_path s'.map q ≡ Some r) above is) h.changed in
        subst AreKept (sym (ap (λ (x : Resource). x.node.props) same)) (kept (parent p) h.above h.stands)
    | inr below ↦ kept q r (sym (h.others q apart below) ∙ is)
  ]
]

patch_kept : (p : Path) (updates : List Update) (s s' : State) → AllByRecursion IsKeptUpdate updates → IsPatched p updates s s' → AllKept s.map → AllKept s'.map
patch_kept p updates s s' sent h kept q r is = elim (dec path_total path_exact q p) [
  | inl here ↦
      let same : r ≡ with_updates updates h.resource =
      one_some (at_path s'.map p) r (with_updates updates h.resource) (subst (λ q. at_path s'.map q ≡ Some r) here is) h.stands in
      subst AreKept (sym (ap (λ (x : Resource). x.node.props) same)) (patched_kept h.resource.node.props updates (kept p h.resource h.stood) sent)
  | inr apart ↦ kept q r (sym (h.others q apart) ∙ is)
]

-- ---- one answer

-- what is kept after it
record Keeps (after : Server) : Type 0 where
  properties : AllKept after.state.map
  locks : AreKeptLocks (without_stale after.last after.state.locks)

module _ (before after : Server) (later : before.last ≤ after.last) (kept : KeepsElements before) where
  found_locks : AreKeptLocks (as_found before after).locks
  found_locks = kept_later before.last after.last before.state.locks later kept.locks

  -- the locks after it, from some that are kept
  from_locks : (locks : List Lock) → after.state.locks ≡ locks → AreKeptLocks locks → AreKeptLocks (without_stale after.last after.state.locks)
  from_locks locks is h =
      passes_all IsKeptLock (λ l. not (is_stale after.last l)) after.state.locks (subst AreKeptLocks (sym is) h)

  alike : SameLive after.last before.state after.state → Keeps after
  alike same = record {
    properties = subst AllKept (sym (ap (λ (s : State). s.map) same)) kept.properties;
    locks = subst AreKeptLocks (sym (ap (λ (s : State). s.locks) same)) found_locks;
  }

  unchanged : after.state ≡ before.state → Keeps after
  unchanged same = alike (ap (live after.last) same)

  put_keeps : (p : Path) (bytes : List ℕ) → Puts before.state after.last p bytes after.state → Keeps after
  put_keeps p bytes h = record {
    properties = found_kept before.state.map after.state.map p bytes after.last (record {
      file = h.file;
      here = h.here;
      kind = h.kind;
      bytes_are = h.bytes_are;
      modified = h.modified;
      props = h.props;
      others = h.others;
    }) kept.properties;
    locks = from_locks (as_found before after).locks (ap (λ (s : State). s.locks) h.left) found_locks;
  }

  below_gone : (p : Path) (locks : List Lock) → AreKeptLocks locks → AreKeptLocks (without_below p locks)
  below_gone p locks h = passes_all IsKeptLock (λ l. not (is_at_or_below l p)) locks h

  remove_keeps : (now : ℕ) (p : Path) → IsRemoved now p (as_found before after) after.state → Keeps after
  remove_keeps now p h = record {
    properties = removed_kept now p (as_found before after) after.state h kept.properties;
    locks = from_locks (without_below p (as_found before after).locks) h.locks (below_gone p (as_found before after).locks found_locks);
  }

  cleared_locks : (now : ℕ) (to : Path) (mid : State) → IsCleared now to (as_found before after) mid → AreKeptLocks mid.locks
  cleared_locks now to mid (inl h) = subst AreKeptLocks (sym h.1.locks) (below_gone to (as_found before after).locks found_locks)
  cleared_locks now to mid (inr h) = subst (λ (t : State). AreKeptLocks t.locks) (sym h.1) found_locks

  copy_keeps : (now : ℕ) (deep : Bool) (from to : Path) (mid : State) → now ≡ after.last → IsCleared now to (as_found before after) mid
      → IsPartlyCopied now deep from to mid (live now after.state) → Keeps after
  copy_keeps now deep from to mid is cleared copied = record {
    properties = copied_kept now deep from to mid (live now after.state) copied (cleared_kept now to (as_found before after) mid cleared kept.properties);
    locks = subst (λ n. AreKeptLocks (without_stale n after.state.locks)) is
        (subst AreKeptLocks (sym (ap (λ (s : State). s.locks) copied.left)) (cleared_locks now to mid cleared));
  }

  move_keeps : (now : ℕ) (from to : Path) (mid : State) → IsCleared now to (as_found before after) mid → IsMoved now from to mid after.state → Keeps after
  move_keeps now from to mid cleared moved = record {
    properties = moved_kept now from to mid after.state moved (cleared_kept now to (as_found before after) mid cleared kept.properties);
    locks = from_locks (without_below from mid.locks) moved.locks (below_gone from mid.locks (cleared_locks now to mid cleared));
  }

  -- a MOVE that lacked memory has cleared its target at most
  clear_keeps : (to : Path) → IsCleared after.last to (as_found before after) (live after.last after.state) → Keeps after
  clear_keeps to cleared = record {
    properties = cleared_kept after.last to (as_found before after) (live after.last after.state) cleared kept.properties;
    locks = cleared_locks after.last to (live after.last after.state) cleared;
  }

  make_keeps : (headers : Entries FieldValue) (who : Caller) (p : Path) (status : ℕ) → Makes headers (as_found before after) who p status after.state → Keeps after
  make_keeps headers who p status h = record {
    properties = made_kept headers (as_found before after) after.state who p status h kept.properties;
    locks = from_locks (as_found before after).locks (ap (λ (s : State). s.locks) h.left) found_locks;
  }

  patch_keeps : (protected : Bool) (now : ℕ) (p : Path) (updates : List Update) → AllByRecursion IsKeptUpdate updates → now ≡ after.last
      → Changes protected now p updates (as_found before after) after.state → Keeps after
  patch_keeps true now p updates sent is h = alike
      (subst (λ n. SameLive n (as_found before after) after.state) is h ∙ live_once after.last before.state)
  patch_keeps false now p updates sent is h = record {
    properties = patch_kept p updates (as_found before after) after.state sent h kept.properties;
    locks = from_locks (as_found before after).locks (ap (λ (s : State). s.locks) h.left) found_locks;
  }

  -- ---- locks that are granted

  granted_kept : (who : Caller) (path : PathText) (request : Request (List ℕ)) (info : LockInfo) (timeout : Option ℕ) (shared deep : Bool)
      → length (body_of request) < 2 ^ 64 → IsRooted path → lock_info_in (body_of request) ≡ Some info
      → IsKeptLock (granted_lock (as_found before after) who (told_path (as_found before after).map path) info.owner timeout shared deep)
  granted_kept who path request info timeout shared deep fits rooted asks = record {
    token = token_visible (as_found before after).rng;
    rooted = rooted_told path (as_found before after).map rooted;
    owner = lock_owner (body_of request) info fits asks;
  }

  with_one : (lock : Lock) → IsKeptLock lock → AreKeptLocks ((as_found before after).locks ++ lock ∷ [])
  with_one lock h = all_behind IsKeptLock (as_found before after).locks (lock ∷ []) found_locks (h, tt)

  -- of a LOCK that is done
  pub granted_lock_kept : (request : Request (List ℕ)) (status : ℕ) (sent : Sent) → length (body_of request) < 2 ^ 64 → (h : IsLocked before request status sent after)
      → (g : IsGranted before.options.longest before.options.prefix (head_of request).headers (body_of request) (as_found before after) h.who h.path status sent after.state) → IsKeptLock g.lock
  granted_lock_kept request status sent fits h g =
      subst IsKeptLock (sym (g.grants.lock_is ∙ ap (λ (o : Option (List ℕ)). granted_lock (as_found before after) h.who (told_path (as_found before after).map h.path) o g.wanted.timeout g.wanted.shared g.wanted.deep) g.wants.owner_is))
      (granted_kept h.who h.path request g.wants.info g.wanted.timeout g.wanted.shared g.wanted.deep fits
      (target_rooted before.options.prefix (head_of request).uri h.path h.begins.names) g.wants.asks)

  lock_keeps : (request : Request (List ℕ)) (status : ℕ) (sent : Sent) → length (body_of request) < 2 ^ 64 → IsLocked before request status sent after → Keeps after
  lock_keeps request status sent fits h = elim h.locks [
    | inl granted ↦
        let g = granted.1 in
        let lock = granted_lock_kept request status sent fits h g in
        record {
          properties = elim g.grants.made [
            | inl there ↦ subst AllKept (sym there.1) kept.properties
            | inr made ↦ found_kept before.state.map after.state.map (segments h.path.bytes) [] h.who.now (put_found before.state.map after.state.map (segments h.path.bytes) [] h.who.now made.2) kept.properties
          ];
          locks = subst (λ n. AreKeptLocks (without_stale n after.state.locks)) h.begins.now
              (subst AreKeptLocks (sym (ap (λ (s : State). s.locks) g.grants.left)) (with_one g.lock lock));
        }
    | inr refreshed_lock ↦
        let r = refreshed_lock.1.refreshes in
        record {
          properties = subst AllKept (sym (ap (λ (s : State). s.map) r.left)) kept.properties;
          locks = from_locks (set (as_found before after).locks r.place r.lock) (ap (λ (s : State). s.locks) r.left)
              (set_one h.who.now refreshed_lock.1.timeout (as_found before after).locks r.place r.lock r.lock_is found_locks);
        }
  ]

  -- ---- refusals

  copy_left : (request : Request (List ℕ)) (e : Fault) → Leaves (Some method.Copy) before request e after → Keeps after
  copy_left request fault.InsufficientStorage (inl same) = alike same
  copy_left request fault.InsufficientStorage (inr h) =
      let starts = h.1.3 in copy_keeps h.1.1.now starts.deep (segments h.1.0.bytes) (segments starts.to.bytes) starts.mid h.1.2.now starts.cleared starts.copied
  copy_left request _ h = alike h

  move_left : (request : Request (List ℕ)) (e : Fault) → Leaves (Some method.Move) before request e after → Keeps after
  move_left request fault.InsufficientStorage (inl same) = alike same
  move_left request fault.InsufficientStorage (inr h) =
      let to = segments h.1.3.movable.to.bytes in
      clear_keeps to (subst (λ n. IsCleared n to (as_found before after) (live n after.state)) h.1.2.now h.1.3.cleared)
  move_left request _ h = alike h

  lock_left : (request : Request (List ℕ)) (e : Fault) → length (body_of request) < 2 ^ 64 → Leaves (Some method.Lock) before request e after → Keeps after
  lock_left request fault.InsufficientStorage fits (inl same) = alike same
  lock_left request fault.InsufficientStorage fits (inr h) =
      let now : h.1.now ≡ after.last = h.2.now in
      elim h.3 [
        | inl back ↦ record {
          properties = subst AllKept (sym (ap (λ (s : State). s.map) back)) kept.properties;
          locks = subst (λ n. AreKeptLocks (without_stale n after.state.locks)) now (subst AreKeptLocks (sym (ap (λ (s : State). s.locks) back)) found_locks);
        }
        | inr there ↦
            let asked = there.3 in
            let lock : IsKeptLock there.0 =
            subst IsKeptLock (sym asked.2.2) (granted_kept h.1 h.0 request asked.0 asked.2.0 asked.0.shared asked.2.1 fits
            (target_rooted before.options.prefix (head_of request).uri h.0 h.2.names) asked.1) in
            record {
              properties = subst AllKept (sym (ap (λ (s : State). s.map) there.1)) kept.properties;
              locks = subst (λ n. AreKeptLocks (without_stale n after.state.locks)) now
                  (subst AreKeptLocks (sym (ap (λ (s : State). s.locks) there.1)) (with_one there.0 lock));
            }
      ]
  lock_left request _ fits h = alike h

  method_keeps : (m : Option DavMethod) (request : Request (List ℕ)) (result : Result ℕ Fault) (sent : Sent) → length (body_of request) < 2 ^ 64
      → AnswersTo m before request result sent after → IfErr result (λ e. Leaves m before request e after) → Keeps after
  method_keeps (Some method.Get) request result sent fits h refused = alike h.1
  method_keeps (Some method.Head) request result sent fits h refused = alike h.1
  method_keeps (Some method.PropFind) request result sent fits h refused = alike h.1
  method_keeps (Some method.Put) request (Ok status) sent fits h refused = put_keeps (segments h.1.path.bytes) (body_of request) h.1.puts
  method_keeps (Some method.Put) request (Err e) sent fits h refused = alike refused
  method_keeps (Some method.Delete) request (Ok status) sent fits h refused = remove_keeps h.who.now (segments h.path.bytes) h.does.1.removed
  method_keeps (Some method.Delete) request (Err e) sent fits h refused = alike refused
  method_keeps (Some method.Copy) request (Ok status) sent fits h refused =
      let to = segments h.does.1.to.bytes in
      let copied = h.does.1.copied in
      copy_keeps h.who.now h.does.1.deep (segments h.path.bytes) to h.does.1.mid h.begins.now h.does.1.cleared
      (record { there = λ rest. inr (copied.there rest); others = copied.others; left = copied.left })
  method_keeps (Some method.Copy) request (Err e) sent fits h refused = copy_left request e refused
  method_keeps (Some method.Move) request (Ok status) sent fits h refused =
      move_keeps h.who.now (segments h.path.bytes) (segments h.does.1.to.bytes) h.does.1.mid h.does.1.cleared h.does.1.moved
  method_keeps (Some method.Move) request (Err e) sent fits h refused = move_left request e refused
  method_keeps (Some method.MkCol) request (Ok status) sent fits h refused = make_keeps (head_of request).headers h.who (segments h.path.bytes) status h.does.1
  method_keeps (Some method.MkCol) request (Err e) sent fits h refused = alike refused
  method_keeps (Some method.Unlock) request (Ok status) sent fits h refused =
      let ends = h.does.1.ends in
      record {
        properties = subst AllKept (sym (ap (λ (s : State). s.map) ends.left)) kept.properties;
        locks = from_locks (remove (as_found before after).locks ends.place) (ap (λ (s : State). s.locks) ends.left)
            (removed_one IsKeptLock (as_found before after).locks ends.place found_locks);
      }
  method_keeps (Some method.Unlock) request (Err e) sent fits h refused = alike refused
  method_keeps (Some method.Lock) request (Ok status) sent fits h refused = lock_keeps request status sent fits h
  method_keeps (Some method.Lock) request (Err e) sent fits h refused = lock_left request e fits refused
  method_keeps (Some method.PropPatch) request (Ok status) sent fits h refused =
      let updates = h.patches.updates in
      patch_keeps (any_protected updates) h.who.now (segments h.path.bytes) updates (updates_are_kept (body_of request) updates fits h.patches.asks)
      h.begins.now h.patches.changes
  method_keeps (Some method.PropPatch) request (Err e) sent fits h refused = alike refused
  method_keeps (Some method.Options) request (Ok status) sent fits h refused = unchanged h.1
  method_keeps (Some method.Options) request (Err e) sent fits h refused = unchanged h.1
  method_keeps _ request result sent fits h refused = unchanged h.1

-- what is kept can be read after each answer
pub answer_keeps : (before after : Server) (request : Request (List ℕ)) (response : Response) → Answers before request response after → KeepsElements before → KeepsElements after
answer_keeps before after request response h kept =
    let keeps = method_keeps before after h.moves.moments kept h.method request h.result h.own h.fits h.done h.refused in
    record {
      exclusive = h.exclusive kept.exclusive;
      shape = h.shape kept.exclusive kept.shape;
      properties = keeps.properties;
      locks = keeps.locks;
    }

-- ---- a run

pub begins_kept : (s : Server) → IsNew s → KeepsElements s
begins_kept s h = record {
  exclusive = subst Exclusive (sym h.locks) tt;
  shape = subst IsResourceMap (sym h.map) (IsResourceMap-start h.now);
  properties = subst AllKept (sym h.map) (new_kept h.now);
  locks = subst (λ (locks : List Lock). AreKeptLocks (without_stale s.last locks)) (sym h.locks) tt;
}

pub run_keeps : (s s' : Server) → KeepsElements s → Becomes s s' → KeepsElements s'
run_keeps s s' kept itself = kept
run_keeps s s' kept (by_clock mid now h) =
    let k = run_keeps s mid kept h in record { exclusive = k.exclusive; shape = k.shape; properties = k.properties; locks = k.locks }
run_keeps s s' kept (by_answer mid after request response h answer) = answer_keeps mid after request response answer (run_keeps s mid kept h)
run_keeps s s' kept (by_restart mid after h again) =
    let k = run_keeps s mid kept h in
    record {
      exclusive = again.apart;
      shape = subst IsResourceMap (sym again.map) k.shape;
      properties = subst AllKept (sym again.map) k.properties;
      locks = kept_later mid.last after.last after.state.locks again.moments (subst AreKeptLocks (sym again.locks) k.locks);
    }
