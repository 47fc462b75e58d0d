-- What stands at a path stays, but for the requests that touch it.
use Rattle.std.proofs.Common.{◌≡◌, ◌≢◌, ◌⊎◌, inl, inr, ℕ, Bool, true, false, cond, ◌||◌, List, [], ◌∷◌, length, Option, Some, None, Result, Ok, Err, refl, sym, ◌∙◌, ap, subst, arith}
use Rattle.std.specs.Prelude.{IfErr, IsSome, option_map}
use Rattle.std.proofs.lemmas.Bool.{cases_Bool, true≢false}
use Rattle.http.specs.declared.request.Request.{Request}
use Rattle.http.specs.Request.{body_of, head_of}
use Rattle.dav_path_core.specs.declared.util.DavMethod.{DavMethod}
use Rattle.dav_path_core.specs.declared.util.DavMethod.TheVariants as method
use Rattle.dav_path_core.specs.Fronts.{Path, is_front, is_same_path, parent}
use Rattle.dav_path_core.specs.Segments.{segments}
use Rattle.dav_path_core.proofs.lists.FinMaps.{dec, one_some}
use Rattle.dav_path_core.proofs.lists.Orders.{path_exact, path_total}
use Rattle.dav_path_core.proofs.paths.FrontLemmas.{is_same_path-same}
use Rattle.dav_files_core.specs.declared.memfs.Kind.TheVariants.{File, Folder}
use Rattle.dav_files_core.specs.Following.{dated_entry}
use Rattle.dav_files_core.specs.Resources.{IsResourceMap, Resource, ResourceMap, at_path}
use Rattle.dav_guarded_core.specs.Step.{State}
use Rattle.dav_faults_core.specs.declared.faults.Fault.{Fault}
use Rattle.dav_faults_core.specs.declared.faults.Fault.TheVariants as fault
use Rattle.dav_documents_core.specs.PatchBodies.{any_protected}
use Rattle.dav_documents_core.specs.PropertyUpdates.{Update}
use Rattle.dav_locks_core.specs.Exclusive.{Exclusive}
use Rattle.dav_fields_core.specs.Fields.{Sent, sent_tags}
use Rattle.dav_fields_core.specs.FileTags.{file_tag}
use Rattle.dav_session_core.specs.Callers.{SameLive, live}
use Rattle.dav_session_core.specs.Clearing.{IsCleared}
use Rattle.dav_session_core.specs.Ends.{HasFolder}
use Rattle.dav_session_core.specs.Moving.{IsMoved}
use Rattle.dav_session_core.specs.Removing.{IsRemoved}
use Rattle.dav_session_core.proofs.MoveLemmas.{stands_in}
use Rattle.dav_methods_core.specs.ProppatchMethod.{Changes}
use Rattle.dav_safe_methods_core.specs.GetMethod.{get_outcome_of}
use Rattle.dav_methods_core.proofs.PutMethodLemmas.{put_found}
use Rattle.dav_handler_core.specs.Answers.{AnswersTo, Leaves}
use Rattle.dav_handler_core.specs.MethodAnswers.{IsGotten, IsPut, as_found}
use Rattle.dav_handler_core.specs.PathFrames.{IsAlike, IsSame, LeavesPath, Touches}
use Rattle.dav_handler_core.specs.PathFrames.LeavesPath.{by_answer, by_clock, itself}
use Rattle.dav_handler_core.specs.Server.{Server}
use Rattle.dav_handler_core.proofs.DecidingLaws.{file_tags, told_tags}
use Rattle.dav_handler_core.proofs.PromiseLaws.{whole_file}

-- ---- alike

alike_itself : (o : Option Resource) → IsAlike o o
alike_itself None = tt
alike_itself (Some r) = record { number = refl; kind = refl; bytes = refl; props = refl; created = refl; modified = λ kind. refl }

alike_same : (o o' : Option Resource) → o' ≡ o → IsAlike o o'
alike_same o o' h = subst (IsAlike o) (sym h) (alike_itself o)

pub alike_on : (o mid o' : Option Resource) → IsAlike o mid → IsAlike mid o' → IsAlike o o'
alike_on None None None h k = tt
alike_on None None (Some r) h k = k
alike_on None (Some m) o' h k = absurd h
alike_on (Some r) None o' h k = absurd h
alike_on (Some r) (Some m) None h k = k
alike_on (Some r) (Some m) (Some s) h k = record {
  number = k.number ∙ h.number;
  kind = k.kind ∙ h.kind;
  bytes = k.bytes ∙ h.bytes;
  props = k.props ∙ h.props;
  created = k.created ∙ h.created;
  modified = λ kind. k.modified (h.kind ∙ kind) ∙ h.modified kind;
}

-- what stands there is a folder, if anything does
abbrev IsFolder : Option Resource → Type 0
IsFolder o = (r : Resource) → o ≡ Some r → r.node.kind ≡ Folder

folder_there : (m : ResourceMap) (p : Path) → HasFolder m p → IsFolder (at_path m p)
folder_there m p has r here = sym (ap (λ (x : Resource). x.node.kind) (one_some (at_path m p) has.0 r has.1 here)) ∙ has.2

-- a folder with another last change
alike_dated : (now : ℕ) (o : Option Resource) → IsFolder o → IsAlike o (option_map (dated_entry now) o)
alike_dated now None folder = tt
alike_dated now (Some r) folder =
    record { number = refl; kind = refl; bytes = refl; props = refl; created = refl; modified = λ kind. absurd (let kinds : File ≡ Folder = sym kind ∙ folder r refl in cc) }

alike_perhaps : (now : ℕ) (b : Bool) (o : Option Resource) → (b ≡ true → IsFolder o) → IsAlike o (option_map (λ x. cond b (dated_entry now x) x) o)
alike_perhaps now true o folder = alike_dated now o (folder refl)
alike_perhaps now false None folder = tt
alike_perhaps now false (Some r) folder = alike_itself (Some r)

-- it is a folder still
folder_still : (o mid : Option Resource) → IsAlike o mid → IsFolder o → IsFolder mid
folder_still None None h folder r is = absurd (cc)
folder_still None (Some m) h folder r is = absurd h
folder_still (Some o) None h folder r is = absurd h
folder_still (Some o) (Some m) h folder r is = let same : m ≡ r = cc in sym (ap (λ (x : Resource). x.node.kind) same) ∙ h.kind ∙ folder o refl

-- ---- what is taken away

removed_alike : (now : ℕ) (t p : Path) (s s' : State) → IsResourceMap s.map → IsSome (at_path s.map t) → IsRemoved now t s s' → is_front t p ≡ false
    → IsAlike (at_path s.map p) (at_path s'.map p)
removed_alike now t p s s' shape stood h out = elim (dec path_total path_exact p (parent t)) [
  | inl above ↦
      subst (λ q. IsAlike (at_path s.map q) (at_path s'.map q)) (sym above)
      (subst (IsAlike (at_path s.map (parent t))) (sym h.above)
      (alike_dated now (at_path s.map (parent t)) (folder_there s.map (parent t) (stands_in s.map t shape stood (no_root t p out)))))
  | inr below ↦ alike_same (at_path s.map p) (at_path s'.map p) (h.others p out below)
]
  where
    no_root : (t p : Path) → is_front t p ≡ false → t ≢ []
    no_root t p out root = true≢false (sym (ap (λ t. is_front t p) root) ∙ out)

cleared_alike : (now : ℕ) (to p : Path) (s mid : State) → IsResourceMap s.map → IsCleared now to s mid → is_front to p ≡ false
    → IsAlike (at_path s.map p) (at_path mid.map p)
cleared_alike now to p s mid shape (inl h) out = removed_alike now to p s mid shape (subst IsSome (sym h.0.1) refl) h.1 out
cleared_alike now to p s mid shape (inr h) out = alike_same (at_path s.map p) (at_path mid.map p) (ap (λ (t : State). at_path t.map p) h.1)

-- what is moved, once its target is cleared
moved_alike : (now : ℕ) (from to p : Path) (s mid s' : State) → HasFolder s.map (parent from) → HasFolder s.map (parent to) → IsAlike (at_path s.map p) (at_path mid.map p)
    → IsMoved now from to mid s' → is_front from p ≡ false → is_front to p ≡ false → IsAlike (at_path s.map p) (at_path s'.map p)
moved_alike now from to p s mid s' above_from above_to so_far h out away =
    alike_on (at_path s.map p) (at_path mid.map p) (at_path s'.map p) so_far
    (subst (IsAlike (at_path mid.map p)) (sym (h.others p out away))
    (alike_perhaps now (is_same_path p (parent from) || is_same_path p (parent to)) (at_path mid.map p)
    (λ one. folder_still (at_path s.map p) (at_path mid.map p) so_far (folder one))))
  where
    at_parent : (q : Path) → is_same_path p q ≡ true → HasFolder s.map q → IsFolder (at_path s.map p)
    at_parent q same has = subst (λ q. IsFolder (at_path s.map q)) (sym (is_same_path-same p q same)) (folder_there s.map q has)

    folder : (is_same_path p (parent from) || is_same_path p (parent to)) ≡ true → IsFolder (at_path s.map p)
    folder one = elim (cases_Bool (is_same_path p (parent from))) [
      | inl here ↦ at_parent (parent from) here above_from
      | inr other ↦ at_parent (parent to) (subst (λ b. (b || is_same_path p (parent to)) ≡ true) other one) above_to
    ]

-- ---- one answer

module _ (before after : Server) (request : Request (List ℕ)) (shape : IsResourceMap before.state.map) (p : Path) where
  abbrev pub Stays : Option DavMethod → Result ℕ Fault → Type 0
  Stays m result = IsAlike (at_path before.state.map p) (at_path after.state.map p) ⊎ Touches before request p m result

  equal : (m : Option DavMethod) (result : Result ℕ Fault) → at_path after.state.map p ≡ at_path before.state.map p → Stays m result
  equal m result same = inl (alike_same (at_path before.state.map p) (at_path after.state.map p) same)

  same_map : (m : Option DavMethod) (result : Result ℕ Fault) → after.state.map ≡ before.state.map → Stays m result
  same_map m result same = equal m result (ap (λ map. at_path map p) same)

  alike : (m : Option DavMethod) (result : Result ℕ Fault) → SameLive after.last before.state after.state → Stays m result
  alike m result same = same_map m result (ap (λ (s : State). s.map) same)

  patched : (status : ℕ) (protected : Bool) (now : ℕ) (q : Path) (updates : List Update) → Changes protected now q updates (as_found before after) after.state
      → (p ≡ q → Touches before request p (Some method.PropPatch) (Ok status)) → Stays (Some method.PropPatch) (Ok status)
  patched status true now q updates h touches = same_map (Some method.PropPatch) (Ok status) (ap (λ (s : State). s.map) h)
  patched status false now q updates h touches = elim (dec path_total path_exact p q) [
    | inl there ↦ inr (touches there)
    | inr apart ↦ equal (Some method.PropPatch) (Ok status) (h.others p apart)
  ]

  copy_left : (e : Fault) → Leaves (Some method.Copy) before request e after → Stays (Some method.Copy) (Err e)
  copy_left fault.InsufficientStorage (inl same) = alike (Some method.Copy) (Err fault.InsufficientStorage) same
  copy_left fault.InsufficientStorage (inr h) =
      let starts = h.1.3 in
      let to = segments starts.to.bytes in
      elim (cases_Bool (is_front to p)) [
        | inl inside ↦ inr (refl, (starts.to, starts.leads.leads, inside))
        | inr out ↦
            inl (subst (IsAlike (at_path before.state.map p)) (sym (starts.copied.others p out))
            (cleared_alike h.1.1.now to p (as_found before after) starts.mid shape starts.cleared out))
      ]
  copy_left e h = alike (Some method.Copy) (Err e) h

  move_left : (e : Fault) → Leaves (Some method.Move) before request e after → Stays (Some method.Move) (Err e)
  move_left fault.InsufficientStorage (inl same) = alike (Some method.Move) (Err fault.InsufficientStorage) same
  move_left fault.InsufficientStorage (inr h) =
      let starts = h.1.3 in
      let to = segments starts.movable.to.bytes in
      elim (cases_Bool (is_front to p)) [
        | inl inside ↦ inr (refl, (starts.movable.to, starts.movable.leads.leads, inside))
        | inr out ↦ inl (cleared_alike h.1.1.now to p (as_found before after) (live h.1.1.now after.state) shape starts.cleared out)
      ]
  move_left e h = alike (Some method.Move) (Err e) h

  lock_left : (e : Fault) → Leaves (Some method.Lock) before request e after → Stays (Some method.Lock) (Err e)
  lock_left fault.InsufficientStorage (inl same) = alike (Some method.Lock) (Err fault.InsufficientStorage) same
  lock_left fault.InsufficientStorage (inr h) = same_map (Some method.Lock) (Err fault.InsufficientStorage) (elim h.3 [
    | inl back ↦ ap (λ (s : State). s.map) back
    | inr kept ↦ ap (λ (s : State). s.map) kept.1
  ])
  lock_left e h = alike (Some method.Lock) (Err e) h

  pub stays : (m : Option DavMethod) (result : Result ℕ Fault) (sent : Sent) → AnswersTo m before request result sent after → IfErr result (λ e. Leaves m before request e after)
      → Stays m result
  stays (Some method.Get) result sent h left = alike (Some method.Get) result h.1
  stays (Some method.Head) result sent h left = alike (Some method.Head) result h.1
  stays (Some method.PropFind) result sent h left = alike (Some method.PropFind) result h.1
  stays (Some method.Put) (Ok status) sent h left = elim (dec path_total path_exact p (segments h.1.path.bytes)) [
    | inl there ↦ inr (h.1.path, h.1.begins.names, there)
    | inr apart ↦ equal (Some method.Put) (Ok status) (h.1.puts.others p apart)
  ]
  stays (Some method.Put) (Err e) sent h left = alike (Some method.Put) (Err e) left
  stays (Some method.Delete) (Ok status) sent h left = elim (cases_Bool (is_front (segments h.path.bytes) p)) [
    | inl inside ↦ inr (h.path, h.begins.names, inside)
    | inr out ↦ inl (removed_alike h.who.now (segments h.path.bytes) p (as_found before after) after.state shape h.does.1.can.stood h.does.1.removed out)
  ]
  stays (Some method.Delete) (Err e) sent h left = alike (Some method.Delete) (Err e) left
  stays (Some method.Copy) (Ok status) sent h left =
      let to = segments h.does.1.to.bytes in
      elim (cases_Bool (is_front to p)) [
        | inl inside ↦ inr (h.does.1.to, h.does.1.leads.leads, inside)
        | inr out ↦
            inl (subst (IsAlike (at_path before.state.map p)) (sym (h.does.1.copied.others p out))
            (cleared_alike h.who.now to p (as_found before after) h.does.1.mid shape h.does.1.cleared out))
      ]
  stays (Some method.Copy) (Err e) sent h left = copy_left e left
  stays (Some method.Move) (Ok status) sent h left =
      let from = segments h.path.bytes in
      let to = segments h.does.1.to.bytes in
      elim (cases_Bool (is_front from p)) [
        | inl gone ↦ inr (inl (h.path, h.begins.names, gone))
        | inr out ↦ elim (cases_Bool (is_front to p)) [
          | inl inside ↦ inr (inr (h.does.1.to, h.does.1.leads.leads, inside))
          | inr away ↦
              inl (moved_alike h.who.now from to p (as_found before after) h.does.1.mid after.state h.does.1.stood_in h.does.1.fit.above
              (cleared_alike h.who.now to p (as_found before after) h.does.1.mid shape h.does.1.cleared away) h.does.1.moved out away)
        ]
      ]
  stays (Some method.Move) (Err e) sent h left = move_left e left
  stays (Some method.MkCol) (Ok status) sent h left =
      let made = h.does.1 in
      let q = segments h.path.bytes in
      elim (dec path_total path_exact p q) [
        | inl there ↦ inr ((h.path, h.begins.names, there), ap (at_path before.state.map) there ∙ made.nothing)
        | inr apart ↦ elim (dec path_total path_exact p (parent q)) [
          | inl above ↦
              inl (subst (λ x. IsAlike (at_path before.state.map x) (at_path after.state.map x)) (sym above)
              (subst (IsAlike (at_path before.state.map (parent q)))
              (ap (option_map (dated_entry h.who.now)) made.stands ∙ sym made.changed)
              (alike_dated h.who.now (at_path before.state.map (parent q)) (folder_there before.state.map (parent q) (made.above, made.stands, made.kind)))))
          | inr below ↦ equal (Some method.MkCol) (Ok status) (made.others p apart below)
        ]
      ]
  stays (Some method.MkCol) (Err e) sent h left = alike (Some method.MkCol) (Err e) left
  stays (Some method.Unlock) (Ok status) sent h left = same_map (Some method.Unlock) (Ok status) (ap (λ (s : State). s.map) h.does.1.ends.left)
  stays (Some method.Unlock) (Err e) sent h left = alike (Some method.Unlock) (Err e) left
  stays (Some method.Lock) (Ok status) sent h left = elim h.locks [
    | inl granted ↦ elim granted.1.grants.made [
      | inl there ↦ same_map (Some method.Lock) (Ok status) there.1
      | inr new ↦ elim (dec path_total path_exact p (segments h.path.bytes)) [
        | inl there ↦ inr ((h.path, h.begins.names, there), ap (at_path before.state.map) there ∙ new.0)
        | inr apart ↦ equal (Some method.Lock) (Ok status) ((put_found before.state.map after.state.map (segments h.path.bytes) [] h.who.now new.2).others p apart)
      ]
    ]
    | inr refreshed ↦ same_map (Some method.Lock) (Ok status) (ap (λ (s : State). s.map) refreshed.1.refreshes.left)
  ]
  stays (Some method.Lock) (Err e) sent h left = lock_left e left
  stays (Some method.PropPatch) (Ok status) sent h left =
      patched status (any_protected h.patches.updates) h.who.now (segments h.path.bytes) h.patches.updates h.patches.changes (λ there. (h.path, h.begins.names, there))
  stays (Some method.PropPatch) (Err e) sent h left = alike (Some method.PropPatch) (Err e) left
  stays (Some method.Options) (Ok status) sent h left = same_map (Some method.Options) (Ok status) (ap (λ (s : State). s.map) h.1)
  stays (Some method.Options) (Err e) sent h left = same_map (Some method.Options) (Err e) (ap (λ (s : State). s.map) h.1)
  stays m result sent h left = same_map m result (ap (λ (s : State). s.map) h.1)

-- ---- a run

-- what keeps a map well formed, and the locks apart
sound : (p : Path) (s s' : Server) → LeavesPath p s s' → (Exclusive s.state.locks × IsResourceMap s.state.map) → (Exclusive s'.state.locks × IsResourceMap s'.state.map)
sound p s s' itself h = h
sound p s s' (by_clock mid now run) h = sound p s mid run h
sound p s s' (by_answer mid after request response run answer leaves) h =
    let so_far = sound p s mid run h in
    (answer.exclusive so_far.0, answer.shape so_far.0 so_far.1)

pub runs_stay : (p : Path) (s s' : Server) → Exclusive s.state.locks → IsResourceMap s.state.map → LeavesPath p s s' → IsAlike (at_path s.state.map p) (at_path s'.state.map p)
runs_stay p s s' x shape itself = alike_itself (at_path s.state.map p)
runs_stay p s s' x shape (by_clock mid now run) = runs_stay p s mid x shape run
runs_stay p s s' x shape (by_answer mid after request response run answer leaves) =
    elim (stays mid after request (sound p s mid run (x, shape)).1 p answer.method answer.result answer.own answer.done answer.refused) [
      | inl same ↦ alike_on (at_path s.state.map p) (at_path mid.state.map p) (at_path after.state.map p) (runs_stay p s mid x shape run) same
      | inr touched ↦ absurd (leaves touched)
    ]

-- ---- what was put is what is gotten

still_there : (o o' : Option Resource) (file other : Resource) → IsAlike o o' → o ≡ Some file → o' ≡ Some other → IsSame file other
still_there None o' file other h here there = absurd (cc)
still_there (Some r) None file other h here there = absurd h
still_there (Some r) (Some r') file other h here there =
    let first : r ≡ file = cc in
    let second : r' ≡ other = cc in
    subst (λ x. IsSame x other) first (subst (IsSame r) second h)

pub put_is_gotten : (before s s' after : Server) (put get : Request (List ℕ)) (status : ℕ) (sent got : Sent) (h : IsPut before put status sent s)
    → Exclusive s.state.locks → IsResourceMap s.state.map → LeavesPath (segments h.path.bytes) s s' → (g : IsGotten method.Get s' get 200 got after)
    → segments g.path.bytes ≡ segments h.path.bytes → (got.body ≡ body_of put) × (sent_tags got.fields ≡ sent_tags sent.fields)
put_is_gotten before s s' after put get status sent got h x shape run g same =
    let p = segments h.path.bytes in
    let r = g.gets.resource in
    let stands = still_there (at_path s.state.map p) (at_path s'.state.map p) h.puts.file r (runs_stay p s s' x shape run) h.puts.here
    (subst (λ q. at_path s'.state.map q ≡ Some r) same g.gets.here) in
    let kind = stands.kind ∙ h.puts.kind in
    let outcome = get_outcome_of method.Get s'.state.map (segments g.path.bytes) r (head_of get).headers in (
      whole_file outcome (segments g.path.bytes) r 200 got g.gets.tells refl kind ∙ stands.bytes ∙ h.puts.bytes_are,
      told_tags s' after get got (segments g.path.bytes) r 200 outcome g.gets.tells (omega arith) ∙ sym (file_tags s' after get got r kind)
          ∙ ap (λ n. file_tag n (length r.node.bytes) ∷ []) (stands.modified h.puts.kind) ∙ ap (λ bytes. file_tag h.puts.file.node.modified (length bytes) ∷ []) stands.bytes
          ∙ ap (λ (s : Sent). sent_tags s.fields) (sym h.tells),
    )
