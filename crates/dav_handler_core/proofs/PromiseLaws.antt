-- Each answer in a run from new stores keeps to what is promised of it.
use Rattle.std.proofs.Common.{◌≡◌, ◌≢◌, ◌⊎◌, inl, inr, ℕ, arith, Bool, true, false, cond, ◌||◌, List, [], ◌∷◌, ◌++◌, Option, Some, None, Result, Ok, Err, refl, sym, ◌∙◌, ap, subst}
use Rattle.std.specs.Prelude.{IfErr, option_map, OnOk}
use Rattle.std.proofs.lemmas.Bool.{cases_Bool}
use Rattle.http.specs.declared.request.Request.{Request}
use Rattle.http.specs.Request.{body_of, head_of}
use Rattle.http_server.specs.declared.response.Response.{Response}
use Rattle.http_server.specs.Exchange.{Call, Chain}
use Rattle.http_frames.specs.ConnectionEvents.{Event, Answered}
use Rattle.http_frames.specs.Gate.{TakesTurn}
use Rattle.http_frames.specs.TurnRuns.{EventDoes}
use Rattle.http_header.specs.FieldValue.{FieldValue}
use Rattle.http_header.specs.HeaderMap.{Entries}
use Rattle.dav_path_core.specs.declared.util.DavMethod.{DavMethod}
use Rattle.dav_path_core.specs.declared.util.DavMethod.TheVariants as method
use Rattle.dav_path_core.specs.Fronts.{Path, is_front, is_same_path, parent}
use Rattle.dav_path_core.specs.PathText.{PathText}
use Rattle.dav_path_core.specs.Segments.{segments}
use Rattle.dav_path_core.proofs.lists.FinMaps.{dec, none_some, one_some}
use Rattle.dav_path_core.proofs.lists.Orders.{path_exact, path_total}
use Rattle.dav_files_core.specs.declared.memfs.Kind.TheVariants.{Folder, File}
use Rattle.dav_files_core.specs.Following.{dated_entry}
use Rattle.dav_files_core.specs.Resources.{Node, Resource, ResourceMap, at_path}
use Rattle.dav_guarded_core.specs.Step.{State}
use Rattle.dav_faults_core.specs.declared.faults.Fault.{Fault}
use Rattle.dav_faults_core.specs.declared.faults.Fault.TheVariants as fault
use Rattle.dav_fields_core.specs.declared.ranges.Extent.{Extent}
use Rattle.dav_fields_core.specs.declared.ranges.Extent.TheVariants as extent
use Rattle.dav_handler_core.specs.Answers.{Answers, AnswersTo, Leaves, status_of}
use Rattle.dav_handler_core.specs.Server.{Names, Server, site_for}
use Rattle.dav_handler_core.specs.MethodAnswers.{as_found}
use Rattle.dav_session_core.specs.Callers.{Caller, SameLive, live}
use Rattle.dav_session_core.specs.Clearing.{IsCleared}
use Rattle.dav_session_core.specs.Copying.{IsPartlyCopied, created_at, is_copied}
use Rattle.dav_fields_core.specs.TransferDestinations.{IsDestination}
use Rattle.dav_fields_core.specs.Fields.{Sent}
use Rattle.dav_handler_core.proofs.SentAnswerLemmas.{own_body}
use Rattle.dav_safe_methods_core.specs.GetMethod.{Tells, get_outcome_of}
use Rattle.dav_handler_core.specs.KeptDocuments.{IsNew}
use Rattle.dav_methods_core.specs.MkcolMethod.{Makes}
use Rattle.dav_session_core.specs.Moving.{IsMoved}
use Rattle.dav_documents_core.specs.PatchBodies.{any_protected}
use Rattle.dav_methods_core.specs.ProppatchMethod.{Changes}
use Rattle.dav_session_core.specs.Patching.{with_updates}
use Rattle.dav_documents_core.specs.PropertyUpdates.{Update}
use Rattle.dav_session_core.specs.Removing.{IsRemoved}
use Rattle.dav_handler_core.specs.Promises.{Brings, EachAnswer, EachCall, EachOf, EachOfTurn, GetsWhatIsLeft, IsLeft, KeepsTo, StandsAt}
use Rattle.dav_handler_core.specs.Serving.{BeginsTurn, Clocked, Leads, Listed, Replies, Timing}
use Rattle.dav_handler_core.specs.TagHistories.{Becomes}
use Rattle.dav_handler_core.specs.TagHistories.Becomes.{itself, by_clock, by_answer, by_restart}
use Rattle.dav_handler_core.proofs.FrameLemmas.{begins_becomes, event_becomes}
use Rattle.dav_handler_core.proofs.AnswerStatuses.{no_fault}
use Rattle.dav_handler_core.proofs.HoldingLaws.{kept_under_any, kept_unless_held, stands_unless_ended}
use Rattle.dav_handler_core.proofs.KeptStoreLaws.{begins_kept, run_keeps}
use Rattle.dav_methods_core.proofs.PutMethodLemmas.{put_found}
use Rattle.dav_path_core.proofs.paths.SubtreePaths.{rest_of}
use Rattle.dav_handler_core.proofs.TagLaws.{new_stores}

-- ---- where the bytes at a path come from

-- a file that is told, with its bytes
at : (m : ResourceMap) (p : Path) (file : Resource) → at_path m p ≡ Some file → file.node.kind ≡ File → StandsAt m p file.node.bytes
at m p file here kind = (file, here, kind, refl)

-- one that was changed but for its kind and its bytes
mapped : (m : ResourceMap) (p : Path) (f : Resource → Resource) (file : Resource) → ((r : Resource) → ((f r).node.kind ≡ r.node.kind) × ((f r).node.bytes ≡ r.node.bytes))
    → option_map f (at_path m p) ≡ Some file → file.node.kind ≡ File → StandsAt m p file.node.bytes
mapped m p f file keeps is kind = by (at_path m p) refl is
  where
    by : (o : Option Resource) → at_path m p ≡ o → option_map f o ≡ Some file → StandsAt m p file.node.bytes
    by None here e = absurd (cc)
    by (Some r) here e =
        let same : f r ≡ file = cc in (
          r,
          here,
          sym (keeps r).0 ∙ ap (λ (x : Resource). x.node.kind) same ∙ kind,
          sym (keeps r).1 ∙ ap (λ (x : Resource). x.node.bytes) same,
        )

removed_from : (now : ℕ) (p : Path) (s s' : State) → IsRemoved now p s s' → (q : Path) (bytes : List ℕ) → StandsAt s'.map q bytes → StandsAt s.map q bytes
removed_from now p s s' h q bytes stands = elim (dec path_total path_exact q (parent p)) [
  | inl above ↦
      let old = mapped s.map (parent p) (dated_entry now) stands.0 (λ r. (refl, refl)) (sym h.above ∙ subst (λ q. at_path s'.map q ≡ Some stands.0) above stands.1) stands.2 in
      subst (λ q. StandsAt s.map q bytes) (sym above) (subst (StandsAt s.map (parent p)) stands.3 old)
  | inr below ↦ elim (cases_Bool (is_front p q)) [
    | inl inside ↦ none_some (at_path s'.map q) stands.0 (h.gone q inside) stands.1
    | inr out ↦ (stands.0, sym (h.others q out below) ∙ stands.1, stands.2, stands.3)
  ]
]

cleared_from : (now : ℕ) (to : Path) (s s' : State) → IsCleared now to s s' → (q : Path) (bytes : List ℕ) → StandsAt s'.map q bytes → StandsAt s.map q bytes
cleared_from now to s s' (inl h) q bytes stands = removed_from now to s s' h.1 q bytes stands
cleared_from now to s s' (inr h) q bytes stands = subst (λ (t : State). StandsAt t.map q bytes) h.1 stands

-- it stood there, or as far below another path
abbrev Came : ResourceMap → Path → Path → Path → List ℕ → Type 0
Came m from to q bytes = StandsAt m q bytes ⊎ ((rest : Path) × (q ≡ to ++ rest) × StandsAt m (from ++ rest) bytes)

copied_from : (now : ℕ) (deep : Bool) (from to : Path) (s s' : State) → IsPartlyCopied now deep from to s s' → (q : Path) (file : Resource) → at_path s'.map q ≡ Some file
    → file.node.kind ≡ File → Came s.map from to q file.node.bytes
copied_from now deep from to s s' h q file here kind = elim (cases_Bool (is_front to q)) [
  | inl inside ↦ behind (rest_of to q inside)
  | inr out ↦ inl (at s.map q file (sym (h.others q out) ∙ here) kind)
]
  where
    of_node : (rest : Path) (o : Option Resource) → at_path s.map (from ++ rest) ≡ o → (copied : Bool)
        → Some file.node ≡ cond copied (option_map (created_at now) (option_map (λ (x : Resource). x.node) o)) None → StandsAt s.map (from ++ rest) file.node.bytes
    of_node rest o there false e = absurd (cc)
    of_node rest None there true e = absurd (cc)
    of_node rest (Some old) there true e =
        let same : file.node ≡ created_at now old.node = cc in
        (old, there, sym (ap (λ (n : Node). n.kind) same) ∙ kind, sym (ap (λ (n : Node). n.bytes) same))

    behind : (rest : Path) × (q ≡ to ++ rest) → Came s.map from to q file.node.bytes
    behind r =
        let there : at_path s'.map (to ++ r.0) ≡ Some file = subst (λ q. at_path s'.map q ≡ Some file) r.1 here in
        elim (h.there r.0) [
          | inl same ↦ inl (subst (λ q. StandsAt s.map q file.node.bytes) (sym r.1) (at s.map (to ++ r.0) file (sym same ∙ there) kind))
          | inr copied ↦
              inr (r.0, r.1, of_node r.0 (at_path s.map (from ++ r.0)) refl (is_copied deep from to r.0) (sym (ap (option_map (λ (x : Resource). x.node)) there) ∙ copied))
        ]

moved_from : (now : ℕ) (from to : Path) (s s' : State) → IsMoved now from to s s' → (q : Path) (file : Resource) → at_path s'.map q ≡ Some file → file.node.kind ≡ File
    → Came s.map from to q file.node.bytes
moved_from now from to s s' h q file here kind = elim (cases_Bool (is_front from q)) [
  | inl gone ↦ none_some (at_path s'.map q) file (h.gone q gone) here
  | inr out ↦ elim (cases_Bool (is_front to q)) [
    | inl inside ↦
        let r = rest_of to q inside in
        inr (r.0, r.1, at s.map (from ++ r.0) file (sym (h.there r.0) ∙ subst (λ q. at_path s'.map q ≡ Some file) r.1 here) kind)
    | inr away ↦
        inl (mapped s.map q (λ (x : Resource). cond (is_same_path q (parent from) || is_same_path q (parent to)) (dated_entry now x) x) file
        (λ x. either_way (is_same_path q (parent from) || is_same_path q (parent to)) x) (sym (h.others q out away) ∙ here) kind)
  ]
]
  where
    either_way : (b : Bool) (x : Resource) → ((cond b (dated_entry now x) x).node.kind ≡ x.node.kind) × ((cond b (dated_entry now x) x).node.bytes ≡ x.node.bytes)
    either_way true x = (refl, refl)
    either_way false x = (refl, refl)

-- ---- one answer

-- what left a file's bytes at a path
data Comes (before : Server) (request : Request (List ℕ)) (m : Option DavMethod) (result : Result ℕ Fault) (p : Path) (bytes : List ℕ) : Type 0 where
  stood : StandsAt before.state.map p bytes → Comes before request m result p bytes
  put_there : (path : PathText) (status : ℕ) → m ≡ Some method.Put → result ≡ Ok status → Names before.options request path → p ≡ segments path.bytes → bytes ≡ body_of request → Comes before request m result p bytes
  brought : (from : Path) → (m ≡ Some method.Copy) ⊎ (m ≡ Some method.Move) → Brings before request from p → StandsAt before.state.map from bytes → Comes before request m result p bytes
  made : (path : PathText) (status : ℕ) → m ≡ Some method.Lock → result ≡ Ok status → Names before.options request path → p ≡ segments path.bytes → at_path before.state.map (segments path.bytes) ≡ None → bytes ≡ []
      → Comes before request m result p bytes

module _ (before after : Server) (request : Request (List ℕ)) (p : Path) (file : Resource) (here : at_path after.state.map p ≡ Some file) (kind : file.node.kind ≡ File) where
  abbrev From : Option DavMethod → Result ℕ Fault → Type 0
  From m result = Comes before request m result p file.node.bytes

  same_map : (m : Option DavMethod) (result : Result ℕ Fault) → after.state.map ≡ before.state.map → From m result
  same_map m result same = stood (at before.state.map p file (subst (λ map. at_path map p ≡ Some file) same here) kind)

  alike : (m : Option DavMethod) (result : Result ℕ Fault) → SameLive after.last before.state after.state → From m result
  alike m result same = same_map m result (ap (λ (s : State). s.map) same)

  other : (m : Option DavMethod) (result : Result ℕ Fault) → at_path after.state.map p ≡ at_path before.state.map p → From m result
  other m result same = stood (at before.state.map p file (sym same ∙ here) kind)

  transferred : (m : Option DavMethod) (result : Result ℕ Fault) (source target : PathText) → (m ≡ Some method.Copy) ⊎ (m ≡ Some method.Move) → Names before.options request source
      → IsDestination (site_for before.options request) before.options.prefix (head_of request).headers target
      → Came before.state.map (segments source.bytes) (segments target.bytes) p file.node.bytes → From m result
  transferred m result source target is named leads (inl same) = stood same
  transferred m result source target is named leads (inr from) =
      brought (segments source.bytes ++ from.0) is (record {
        source = source;
        named = named;
        target = target;
        leads = leads;
        rest = from.0;
        from_is = refl;
        to_is = from.1;
      }) from.2

  came_before : (now : ℕ) (from to : Path) (mid : State) → IsCleared now to (as_found before after) mid → Came mid.map from to p file.node.bytes
      → Came before.state.map from to p file.node.bytes
  came_before now from to mid cleared (inl same) = inl (cleared_from now to (as_found before after) mid cleared p file.node.bytes same)
  came_before now from to mid cleared (inr moved) =
      inr (moved.0, moved.1, cleared_from now to (as_found before after) mid cleared (from ++ moved.0) file.node.bytes moved.2)

  made_folder : (result : Result ℕ Fault) (headers : Entries FieldValue) (who : Caller) (at_folder : Path) (status : ℕ) → Makes headers (as_found before after) who at_folder status after.state → From (Some method.MkCol) result
  made_folder result headers who at_folder status h = elim (dec path_total path_exact p at_folder) [
    | inl there ↦
        let is = one_some (at_path after.state.map at_folder) file h.folder (subst (λ q. at_path after.state.map q ≡ Some file) there here) h.here in
        let kinds : File ≡ Folder = sym kind ∙ ap (λ (r : Resource). r.node.kind) is ∙ ap (λ (n : Node). n.kind) h.new in
        absurd (cc)
    | inr apart ↦ elim (dec path_total path_exact p (parent at_folder)) [
      | inl above ↦
          let is = one_some (at_path after.state.map (parent at_folder)) file (dated_entry who.now h.above) (subst (λ q. at_path after.state.map q ≡ Some file) above here) h.changed in
          let kinds : File ≡ Folder = sym kind ∙ ap (λ (r : Resource). r.node.kind) is ∙ h.kind in
          absurd (cc)
      | inr below ↦ other (Some method.MkCol) result (h.others p apart below)
    ]
  ]

  patched : (result : Result ℕ Fault) (protected : Bool) (now : ℕ) (q : Path) (updates : List Update) → Changes protected now q updates (as_found before after) after.state → From (Some method.PropPatch) result
  patched result true now q updates h = same_map (Some method.PropPatch) result (ap (λ (s : State). s.map) h)
  patched result false now q updates h = elim (dec path_total path_exact p q) [
    | inl there ↦
        let is : file ≡ with_updates updates h.resource =
        one_some (at_path after.state.map q) file (with_updates updates h.resource) (subst (λ x. at_path after.state.map x ≡ Some file) there here) h.stands in
        stood (
          h.resource,
          ap (at_path before.state.map) there ∙ h.stood,
          sym (ap (λ (r : Resource). r.node.kind) is) ∙ kind,
          sym (ap (λ (r : Resource). r.node.bytes) is),
        )
    | inr apart ↦ other (Some method.PropPatch) result (h.others p apart)
  ]

  copy_left : (result : Result ℕ Fault) (e : Fault) → Leaves (Some method.Copy) before request e after → From (Some method.Copy) result
  copy_left result fault.InsufficientStorage (inl same) = alike (Some method.Copy) result same
  copy_left result fault.InsufficientStorage (inr h) =
      let now = h.1.1.now in
      let starts = h.1.3 in
      let to = segments starts.to.bytes in
      transferred (Some method.Copy) result h.1.0 starts.to (inl refl) h.1.2.names starts.leads.leads
      (came_before now (segments h.1.0.bytes) to starts.mid starts.cleared
      (copied_from now starts.deep (segments h.1.0.bytes) to starts.mid (live now after.state) starts.copied p file here kind))
  copy_left result _ h = alike (Some method.Copy) result h

  move_left : (result : Result ℕ Fault) (e : Fault) → Leaves (Some method.Move) before request e after → From (Some method.Move) result
  move_left result fault.InsufficientStorage (inl same) = alike (Some method.Move) result same
  move_left result fault.InsufficientStorage (inr h) =
      let now = h.1.1.now in
      stood (cleared_from now (segments h.1.3.movable.to.bytes) (as_found before after) (live now after.state) h.1.3.cleared p file.node.bytes (file, here, kind, refl))
  move_left result _ h = alike (Some method.Move) result h

  lock_left : (result : Result ℕ Fault) (e : Fault) → Leaves (Some method.Lock) before request e after → From (Some method.Lock) result
  lock_left result fault.InsufficientStorage (inl same) = alike (Some method.Lock) result same
  lock_left result fault.InsufficientStorage (inr h) = same_map (Some method.Lock) result (elim h.3 [
    | inl back ↦ ap (λ (s : State). s.map) back
    | inr kept ↦ ap (λ (s : State). s.map) kept.1
  ])
  lock_left result _ h = alike (Some method.Lock) result h

  comes : (m : Option DavMethod) (result : Result ℕ Fault) (sent : Sent) → AnswersTo m before request result sent after → IfErr result (λ e. Leaves m before request e after) → From m result
  comes (Some method.Get) result sent h left = alike (Some method.Get) result h.1
  comes (Some method.Head) result sent h left = alike (Some method.Head) result h.1
  comes (Some method.PropFind) result sent h left = alike (Some method.PropFind) result h.1
  comes (Some method.Put) (Ok status) sent h left =
      let path = h.1.path in
      let puts = h.1.puts in
      elim (dec path_total path_exact p (segments path.bytes)) [
        | inl there ↦
            let is = one_some (at_path after.state.map (segments path.bytes)) file puts.file (subst (λ q. at_path after.state.map q ≡ Some file) there here) puts.here in
            put_there path status refl refl h.1.begins.names there (ap (λ (r : Resource). r.node.bytes) is ∙ puts.bytes_are)
        | inr apart ↦ other (Some method.Put) (Ok status) (puts.others p apart)
      ]
  comes (Some method.Put) (Err e) sent h left = alike (Some method.Put) (Err e) left
  comes (Some method.Delete) (Ok status) sent h left =
      stood (removed_from h.who.now (segments h.path.bytes) (as_found before after) after.state h.does.1.removed p file.node.bytes (file, here, kind, refl))
  comes (Some method.Delete) (Err e) sent h left = alike (Some method.Delete) (Err e) left
  comes (Some method.Copy) (Ok status) sent h left =
      let from = segments h.path.bytes in
      let to = segments h.does.1.to.bytes in
      let copied = h.does.1.copied in
      transferred (Some method.Copy) (Ok status) h.path h.does.1.to (inl refl) h.begins.names h.does.1.leads.leads
      (came_before h.who.now from to h.does.1.mid h.does.1.cleared
      (copied_from h.who.now h.does.1.deep from to h.does.1.mid (live h.who.now after.state)
      (record { there = λ rest. inr (copied.there rest); others = copied.others; left = copied.left }) p file here kind))
  comes (Some method.Copy) (Err e) sent h left = copy_left (Err e) e left
  comes (Some method.Move) (Ok status) sent h left =
      let from = segments h.path.bytes in
      let to = segments h.does.1.to.bytes in
      transferred (Some method.Move) (Ok status) h.path h.does.1.to (inr refl) h.begins.names h.does.1.leads.leads
      (came_before h.who.now from to h.does.1.mid h.does.1.cleared (moved_from h.who.now from to h.does.1.mid after.state h.does.1.moved p file here kind))
  comes (Some method.Move) (Err e) sent h left = move_left (Err e) e left
  comes (Some method.MkCol) (Ok status) sent h left = made_folder (Ok status) (head_of request).headers h.who (segments h.path.bytes) status h.does.1
  comes (Some method.MkCol) (Err e) sent h left = alike (Some method.MkCol) (Err e) left
  comes (Some method.Unlock) (Ok status) sent h left = same_map (Some method.Unlock) (Ok status) (ap (λ (s : State). s.map) h.does.1.ends.left)
  comes (Some method.Unlock) (Err e) sent h left = alike (Some method.Unlock) (Err e) left
  comes (Some method.Lock) (Ok status) sent h left = elim h.locks [
    | inl granted ↦ elim granted.1.grants.made [
      | inl there ↦ same_map (Some method.Lock) (Ok status) there.1
      | inr new ↦
          let found = put_found before.state.map after.state.map (segments h.path.bytes) [] h.who.now new.2 in
          elim (dec path_total path_exact p (segments h.path.bytes)) [
            | inl there ↦
                let is = one_some (at_path after.state.map (segments h.path.bytes)) file found.file (subst (λ q. at_path after.state.map q ≡ Some file) there here) found.here in
                made h.path status refl refl h.begins.names there new.0 (ap (λ (r : Resource). r.node.bytes) is ∙ found.bytes_are)
            | inr apart ↦ other (Some method.Lock) (Ok status) (found.others p apart)
          ]
    ]
    | inr refreshed ↦ same_map (Some method.Lock) (Ok status) (ap (λ (s : State). s.map) refreshed.1.refreshes.left)
  ]
  comes (Some method.Lock) (Err e) sent h left = lock_left (Err e) e left
  comes (Some method.PropPatch) (Ok status) sent h left = patched (Ok status) (any_protected h.patches.updates) h.who.now (segments h.path.bytes) h.patches.updates h.patches.changes
  comes (Some method.PropPatch) (Err e) sent h left = alike (Some method.PropPatch) (Err e) left
  comes (Some method.Options) (Ok status) sent h left = same_map (Some method.Options) (Ok status) (ap (λ (s : State). s.map) h.1)
  comes (Some method.Options) (Err e) sent h left = same_map (Some method.Options) (Err e) (ap (λ (s : State). s.map) h.1)
  comes m result sent h left = same_map m result (ap (λ (s : State). s.map) h.1)

-- what a GET tells that is answered 200
pub whole_file : (told : Result (Option Extent) Fault) (p : Path) (r : Resource) (status : ℕ) (sent : Sent) → Tells told p r status sent → status ≡ 200 → r.node.kind ≡ File → sent.body ≡ r.node.bytes
whole_file (Err e) p r status sent h is kind = absurd h
whole_file (Ok None) p r status sent h is kind = absurd (omega (arith, h.0, is))
whole_file (Ok (Some extent.Whole)) p r status sent h is kind = h.2 kind
whole_file (Ok (Some (extent.Part first end))) p r status sent h is kind = absurd (omega (arith, h.0, is))
whole_file (Ok (Some extent.Unsatisfiable)) p r status sent h is kind = absurd (omega (arith, h.0, is))

-- ---- a run

module _ (begun : Server) (new : IsNew begun) where
  -- each file has the bytes that were left there
  left : (s : Server) → Becomes begun s → (p : Path) (bytes : List ℕ) → StandsAt s.state.map p bytes → IsLeft begun s p bytes
  left s itself p bytes stands =
      absurd (new_stores new.now stands.0 (p, subst (λ map. at_path map p ≡ Some stands.0) new.map stands.1, stands.2))
  left s (by_clock mid now run) p bytes stands = IsLeft.by_clock mid now p bytes (left mid run p bytes stands)
  left s (by_restart mid after run again) p bytes stands =
      IsLeft.by_restart mid after p bytes again (left mid run p bytes (subst (λ map. StandsAt map p bytes) again.map stands))
  left s (by_answer mid after request response run h) p bytes stands =
      let come = comes mid after request p stands.0 stands.1 stands.2 h.method h.result h.own h.done h.refused in
      subst (IsLeft begun after p) stands.3 (of (left mid run) stands.0.node.bytes (stands.0, stands.1, stands.2, refl) come)
    where
      of : ((q : Path) (content : List ℕ) → StandsAt mid.state.map q content → IsLeft begun mid q content) → (content : List ℕ) → StandsAt after.state.map p content
          → Comes mid request h.method h.result p content → IsLeft begun after p content
      of earlier content now (stood there) = IsLeft.by_answer mid after request response p content h (earlier p content there) now
      of earlier content now (put_there path status is done named at_path_is bytes_are) =
          subst (λ q. IsLeft begun after q content) (sym at_path_is)
          (subst (IsLeft begun after (segments path.bytes)) (sym bytes_are)
          (IsLeft.by_put mid after request response path run h (is, (status, done)) named
          (subst (StandsAt after.state.map (segments path.bytes)) bytes_are (subst (λ q. StandsAt after.state.map q content) at_path_is now))))
      of earlier content now (brought from is brings there) =
          IsLeft.by_transfer mid after request response from p content run h is brings (earlier from content there) now
      of earlier content now (made path status is done named at_path_is nothing empty) =
          subst (λ q. IsLeft begun after q content) (sym at_path_is)
          (subst (IsLeft begun after (segments path.bytes)) (sym empty)
          (IsLeft.by_lock mid after request response path run h (is, (status, done)) named nothing
          (subst (StandsAt after.state.map (segments path.bytes)) empty (subst (λ q. StandsAt after.state.map q content) at_path_is now))))

  got : (before after : Server) (request : Request (List ℕ)) (response : Response) → Becomes begun before → (m : Option DavMethod) (result : Result ℕ Fault) (own : Sent)
      → response.status ≡ status_of result → OnOk result (response.body.items ≡ own.body) → AnswersTo m before request result own after → GetsWhatIsLeft begun before request response m
  got before after request response run (Some method.Get) (Ok status) own is body h = λ two_hundred.
      let g = h.0 in (
        g.path,
        g.begins.names,
        λ file there kind.
            let same = one_some (at_path before.state.map (segments g.path.bytes)) file g.gets.resource there g.gets.here in
            let told = whole_file (get_outcome_of method.Get before.state.map (segments g.path.bytes) g.gets.resource (head_of request).headers) (segments g.path.bytes) g.gets.resource status own g.gets.tells (sym is ∙ two_hundred)
            (ap (λ (r : Resource). r.node.kind) (sym same) ∙ kind) in
            (body ∙ told ∙ ap (λ (r : Resource). r.node.bytes) (sym same), left before run (segments g.path.bytes) file.node.bytes (file, there, kind, refl)),
      )
  got before after request response run (Some method.Get) (Err e) own is body h = λ two_hundred. absurd (no_fault e 200 (sym is ∙ two_hundred) (omega arith) (λ same. omega (arith, same)))
  got before after request response run _ result own is body h = tt

  -- what a refusal leaves
  stays : (m : Option DavMethod) (before after : Server) (request : Request (List ℕ)) (e : Fault) → Leaves m before request e after → e ≢ fault.InsufficientStorage
      → SameLive after.last before.state after.state
  stays (Some method.Copy) before after request fault.InsufficientStorage h none = absurd (none refl)
  stays (Some method.Move) before after request fault.InsufficientStorage h none = absurd (none refl)
  stays (Some method.Lock) before after request fault.InsufficientStorage h none = absurd (none refl)
  stays m before after request e h none = h

  refuses : (m : Option DavMethod) (before after : Server) (request : Request (List ℕ)) (result : Result ℕ Fault) → IfErr result (λ e. Leaves m before request e after)
      → IfErr result (λ e. e ≢ fault.InsufficientStorage → SameLive after.last before.state after.state)
  refuses m before after request (Ok status) h = tt
  refuses m before after request (Err e) h = stays m before after request e h

  keeps_to : (before after : Server) (request : Request (List ℕ)) (response : Response) → Becomes begun before → Answers before request response after
      → KeepsTo begun before request response after
  keeps_to before after request response run h =
      let exclusive = (run_keeps begun before (begins_kept begun new) run).exclusive in
      record {
        changed = kept_unless_held before after request response h exclusive;
        any_changed = kept_under_any before after request response h;
        ended = stands_unless_ended before after request response h exclusive;
        answer = h;
        got = got before after request response run h.method h.result h.own h.status (own_body before request response after h) h.done;
        refused = refuses h.method before after request h.result h.refused;
      }

-- each answer of the frames, from new stores on
module _ {C : Type 0} (tells : C → Option ℕ → C → Type 0) (begun : Server) (new : IsNew begun) where
  each_call : (s : Timing C) (calls : List Call) (s' : Timing C) → Becomes begun s.server → (chain : Chain Replies s calls s') → EachCall (KeepsTo begun) s calls s' chain
  each_call s [] s' run chain = tt
  each_call s (c ∷ calls) s' run chain = (
    keeps_to begun new s.server chain.0.server c.0 chain.1.0 run chain.1.1,
    each_call chain.0 calls s' (by_answer s.server chain.0.server c.0 chain.1.0 run chain.1.1) chain.2,
  )

  each_of_turn : (s : Timing C) (number : ℕ) (calls : List Call) (s' : Timing C) → Becomes begun s.server → (turn : TakesTurn (BeginsTurn tells) Replies s number calls s')
      → EachOfTurn tells (KeepsTo begun) s number calls s' turn
  each_of_turn s number calls s' run (inl none) = tt
  each_of_turn s number calls s' run (inr turn) =
      each_call turn.0 calls s' (begins_becomes tells begun number s turn.0 run turn.1) turn.2.chain

  each_of : (s : Timing C) (e : Event) (s' : Timing C) → Becomes begun s.server → (does : EventDoes (BeginsTurn tells) Replies Clocked Listed e s s')
      → EachOf tells (KeepsTo begun) s e s' does
  each_of s (Answered number calls) s' run does = each_of_turn s number calls s' run does
  each_of s _ s' run does = tt

  pub each_answer : (s : Timing C) (events : List Event) (s' : Timing C) → Becomes begun s.server → (leads : Leads tells s events s')
      → EachAnswer tells (KeepsTo begun) s events s' leads
  each_answer s [] s' run leads = tt
  each_answer s (e ∷ events) s' run leads =
      (each_of s e leads.0 run leads.1, each_answer leads.0 events s' (event_becomes tells begun e s leads.0 run leads.1) leads.2)

-- the bytes that were left stand there
pub left_stand : (begun s : Server) (p : Path) (bytes : List ℕ) → IsLeft begun s p bytes → StandsAt s.state.map p bytes
left_stand begun s p bytes (IsLeft.by_put before after request response path run h done named stands) = stands
left_stand begun s p bytes (IsLeft.by_transfer before after request response from to content run h is brings old stands) = stands
left_stand begun s p bytes (IsLeft.by_lock before after request response path run h done named nothing stands) = stands
left_stand begun s p bytes (IsLeft.by_answer before after request response q content h old stands) = stands
left_stand begun s p bytes (IsLeft.by_clock before now q content old) = left_stand begun before q content old
left_stand begun s p bytes (IsLeft.by_restart before after q content again old) = subst (λ map. StandsAt map q content) (sym again.map) (left_stand begun before q content old)
