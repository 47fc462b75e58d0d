-- Files over a run of a server: each one stood there before with its bytes, or was changed since; so equal tags have equal bytes.
use Rattle.std.proofs.Common.{◌≡◌, ◌⊎◌, inl, inr, ℕ, ◌<◌, ◌≤◌, Bool, true, false, List, [], ◌∷◌, length, Option, None, Some, Result, Ok, Err, refl, sym, ◌∙◌, ap, subst, arith}
use Rattle.std.specs.Prelude.{IfErr}
use Rattle.std.proofs.lemmas.Bool.{false_from_ne_true, or_parts, true≢false}
use Rattle.std.specs.FinMap.{get, empty, get-empty}
use Rattle.http.specs.declared.request.Request.{Request}
use Rattle.http.specs.Request.{body_of, head_of}
use Rattle.http_server.specs.declared.response.Response.{Response}
use Rattle.http_server.specs.Exchange.{Call, Chain}
use Rattle.http_header.specs.FieldValue.{FieldValue}
use Rattle.http_header.specs.HeaderMap.{Entries}
use Rattle.dav_path_core.specs.declared.util.DavMethod.{DavMethod}
use Rattle.dav_path_core.specs.declared.util.DavMethod.TheVariants as method
use Rattle.dav_path_core.specs.Fronts.{Path, is_front, parent, path_cmp}
use Rattle.dav_path_core.specs.Segments.{segments}
use Rattle.dav_path_core.proofs.lists.FinMaps.{dec, inserted, one_some, none_some}
use Rattle.dav_path_core.proofs.lists.Orders.{path_total, path_exact}
use Rattle.dav_path_core.proofs.paths.FrontLemmas.{is_front-trans}
use Rattle.dav_files_core.specs.declared.memfs.Kind.TheVariants.{Folder, File}
use Rattle.dav_files_core.specs.Following.{dated_entry}
use Rattle.dav_files_core.specs.Outcomes.{new_folder, start}
use Rattle.dav_files_core.specs.ResourcePutting.{put}
use Rattle.dav_files_core.specs.Resources.{IsResourceMap, Node, Resource, at_path}
use Rattle.dav_guarded_core.specs.Step.{State}
use Rattle.dav_faults_core.specs.declared.faults.Fault.{Fault}
use Rattle.dav_faults_core.specs.declared.faults.Fault.TheVariants as fault
use Rattle.dav_handler_core.specs.Answers.{Answers, AnswersTo, Leaves}
use Rattle.dav_handler_core.specs.MethodAnswers.{IsLocked, as_found}
use Rattle.dav_handler_core.specs.Server.{Server}
use Rattle.dav_session_core.specs.Callers.{Caller, SameLive, live}
use Rattle.dav_session_core.specs.Clearing.{IsCleared}
use Rattle.dav_session_core.specs.Copying.{IsCopied, IsPartlyCopied}
use Rattle.dav_session_core.specs.Ends.{HasFolder}
use Rattle.dav_fields_core.specs.Fields.{Sent}
use Rattle.dav_methods_core.specs.MkcolMethod.{Makes}
use Rattle.dav_session_core.specs.Moving.{IsMoved}
use Rattle.dav_documents_core.specs.PatchBodies.{any_protected}
use Rattle.dav_methods_core.specs.ProppatchMethod.{Changes}
use Rattle.dav_session_core.specs.Patching.{IsPatched, with_updates}
use Rattle.dav_documents_core.specs.PropertyUpdates.{Update}
use Rattle.dav_methods_core.specs.PutMethod.{Puts}
use Rattle.dav_session_core.specs.Removing.{IsRemoved}
use Rattle.dav_handler_core.specs.Serving.{with_clock}
use Rattle.dav_handler_core.specs.PathMoments.{IsAlong, IsFileAt}
use Rattle.dav_handler_core.specs.TagHistories.{HasFile, HasNoFiles, MomentsTell, Restarts, TagsTell, Becomes}
use Rattle.dav_handler_core.specs.TagHistories.Becomes.{itself, by_clock, by_answer, by_restart}
use Rattle.dav_handler_core.proofs.FileHistoryLemmas.{Come, Had, bytes_of, cleared_come, cleared_folder, copied_come, moved_come, removed_come}
use Rattle.dav_handler_core.proofs.PathHistoryLemmas.{Follow, Stays, cleared_bare, cleared_follows, copied_follows, made_follows, moved_follows, one_follows, patched_stays, removed_follows, stays}
use Rattle.dav_fields_core.proofs.FileTagLemmas.{tells}
use Rattle.dav_path_core.proofs.paths.AbovePaths.{parent_front}
use Rattle.dav_methods_core.proofs.PutMethodLemmas.{Found, put_found}
use Rattle.dav_files_core.proofs.paths.RemovedMaps.{above_out}

-- ---- one answer

-- Each file after it stood there before with its bytes, or is new. The last moment is that of a new file, and later than any before; all new files
-- have the same bytes. At its path the same file stood, or that moment is along the path.
pub record Dates (before after : Server) : Type 0 where
  bytes : List ℕ
  pub moments : before.last ≤ after.last
  files : (file : Resource) → HasFile after.state.map file
      → Had before.state.map file.node.modified file.node.bytes ⊎ ((before.last < after.last) × (file.node.modified ≡ after.last) × (file.node.bytes ≡ bytes))
  pub places : IsResourceMap before.state.map → (p : Path) (file : Resource) → IsFileAt after.state.map p file
      → Stays before.state.map after.state.map p file ⊎ ((before.last < after.last) × IsAlong after.state.map p after.last)

placed : (before after : Server) → before.last < after.last → (IsResourceMap before.state.map → Follow before.state.map after.last after.state.map)
    → IsResourceMap before.state.map → (p : Path) (file : Resource) → IsFileAt after.state.map p file
    → Stays before.state.map after.state.map p file ⊎ ((before.last < after.last) × IsAlong after.state.map p after.last)
placed before after later follows shape p file here = elim (follows shape p file here) [
  | inl old ↦ inl old
  | inr new ↦ inr (later, new)
]

same_map : (before after : Server) → before.last ≤ after.last → after.state.map ≡ before.state.map → Dates before after
same_map before after later same = record {
  bytes = [];
  moments = later;
  files = λ file has. inl (file, subst (λ m. HasFile m file) same has, refl, refl);
  places = λ shape p file here. inl (stays before.state.map after.state.map p (λ q front. ap (λ m. at_path m q) same) file here);
}

file_dates : (before after : Server) (p : Path) (bytes : List ℕ) → before.last < after.last → Found before.state.map p bytes after.last after.state.map → Dates before after
file_dates before after p bytes later h = record {
  bytes = bytes;
  moments = omega arith;
  files = λ file has. elim (dec path_total path_exact has.0 p) [
    | inl here ↦
        let is = one_some (at_path after.state.map p) file h.file (subst (λ q. at_path after.state.map q ≡ Some file) here has.1) h.here in
        inr (later, ap (λ (r : Resource). r.node.modified) is ∙ h.modified, ap (λ (r : Resource). r.node.bytes) is ∙ h.bytes_are)
    | inr apart ↦ inl (file, (has.0, sym (h.others has.0 apart) ∙ has.1, has.2), refl, refl)
  ];
  places = placed before after later (λ shape. one_follows before.state.map after.state.map after.last p h.file h.here h.modified h.others);
}

put_dates : (before after : Server) (p : Path) (bytes : List ℕ) → before.last < after.last → Puts before.state after.last p bytes after.state → Dates before after
put_dates before after p bytes later h = file_dates before after p bytes later (record {
  file = h.file;
  here = h.here;
  kind = h.kind;
  bytes_are = h.bytes_are;
  modified = h.modified;
  props = h.props;
  others = h.others;
})

-- what a LOCK makes where nothing stands is an empty file
lock_dates : (before after : Server) (request : Request (List ℕ)) (status : ℕ) (sent : Sent) → before.last ≤ after.last → IsLocked before request status sent after → Dates before after
lock_dates before after request status sent later h = elim h.locks [
  | inl granted ↦ elim granted.1.grants.made [
    | inl there ↦ same_map before after later there.1
    | inr made ↦
        file_dates before after (segments h.path.bytes) [] granted.0 (put_found before.state.map after.state.map (segments h.path.bytes) [] after.last
        (subst (λ n. put before.state.map (segments h.path.bytes) [] n ≡ Ok (tt, after.state.map)) h.begins.now made.2))
  ]
  | inr refreshed ↦ same_map before after later (ap (λ (s : State). s.map) refreshed.1.refreshes.left)
]

-- a new folder is no file, and neither is the one that it stands in
make_dates : (before after : Server) (headers : Entries FieldValue) (who : Caller) (p : Path) (status : ℕ) → before.last < after.last → who.now ≡ after.last
    → Makes headers (as_found before after) who p status after.state → Dates before after
make_dates before after headers who p status later now h = record {
  bytes = [];
  moments = omega (arith, later);
  files = λ file has. elim (dec path_total path_exact has.0 p) [
    | inl here ↦
        let is = one_some (at_path after.state.map p) file h.folder (subst (λ q. at_path after.state.map q ≡ Some file) here has.1) h.here in
        let kinds : File ≡ Folder = sym has.2 ∙ ap (λ (r : Resource). r.node.kind) is ∙ ap (λ (n : Node). n.kind) h.new in
        absurd (cc)
    | inr apart ↦ elim (dec path_total path_exact has.0 (parent p)) [
      | inl above ↦
          let is = one_some (at_path after.state.map (parent p)) file (dated_entry who.now h.above) (subst (λ q. at_path after.state.map q ≡ Some file) above has.1) h.changed in
          let kinds : File ≡ Folder = sym has.2 ∙ ap (λ (r : Resource). r.node.kind) is ∙ h.kind in
          absurd (cc)
      | inr below ↦ inl (file, (has.0, sym (h.others has.0 apart below) ∙ has.1, has.2), refl, refl)
    ]
  ];
  places = placed before after later (λ shape. subst (λ n. Follow before.state.map n after.state.map) now
      (made_follows before.state.map after.state.map who.now p h.above h.changed h.others));
}

-- properties are no bytes, and their changes leave the moments
patched_dates : (before after : Server) (p : Path) (updates : List Update) → before.last ≤ after.last → IsPatched p updates (as_found before after) after.state → Dates before after
patched_dates before after p updates later h = record {
  bytes = [];
  moments = later;
  files = λ file has. elim (dec path_total path_exact has.0 p) [
    | inl here ↦
        let is : file ≡ with_updates updates h.resource =
        one_some (at_path after.state.map p) file (with_updates updates h.resource) (subst (λ q. at_path after.state.map q ≡ Some file) here has.1) h.stands in
        inl (h.resource, (p, h.stood, sym (ap (λ (r : Resource). r.node.kind) is) ∙ has.2), sym (ap (λ (r : Resource). r.node.modified) is), sym (ap (λ (r : Resource). r.node.bytes) is))
    | inr apart ↦ inl (file, (has.0, sym (h.others has.0 apart) ∙ has.1, has.2), refl, refl)
  ];
  places = λ shape q file here. inl (patched_stays before.state.map after.state.map after.last p h.resource (with_updates updates h.resource) h.stood h.stands refl refl h.others refl refl q file here);
}

patch_dates : (before after : Server) (protected : Bool) (p : Path) (updates : List Update) → before.last ≤ after.last
    → Changes protected after.last p updates (as_found before after) after.state → Dates before after
patch_dates before after true p updates later h = same_map before after later (ap (λ (s : State). s.map) h)
patch_dates before after false p updates later h = patched_dates before after p updates later h

-- what comes from a map at the last moment
come_dates : (before after : Server) (bytes : List ℕ) → before.last < after.last → Come before.state.map after.last bytes after.state.map
    → (IsResourceMap before.state.map → Follow before.state.map after.last after.state.map) → Dates before after
come_dates before after bytes later come follows = record {
  bytes = bytes;
  moments = omega (arith, later);
  files = λ file has. elim (come file has) [
    | inl had ↦ inl had
    | inr new ↦ inr (later, new.0, new.1)
  ];
  places = placed before after later follows;
}

-- what is left elsewhere is as it was, but that a folder has another moment
remove_dates : (before after : Server) (p : Path) → before.last < after.last → IsRemoved after.last p (as_found before after) after.state → Dates before after
remove_dates before after p later h = come_dates before after _ later (removed_come after.last p (as_found before after) after.state h)
    (λ shape. removed_follows after.last p (as_found before after) after.state h)

-- a copy has the bytes and the moment of what it copies
copy_dates : (before after : Server) (deep : Bool) (from to : Path) (mid : State) → before.last < after.last
    → IsCleared after.last to (as_found before after) mid → IsPartlyCopied after.last deep from to mid (live after.last after.state) → Dates before after
copy_dates before after deep from to mid later cleared copied =
    let s = as_found before after in
    let bytes = bytes_of (at_path s.map (parent to)) in
    come_dates before after bytes later (copied_come s.map after.last bytes mid (live after.last after.state) (cleared_come after.last to s mid cleared) deep from to copied)
    (λ shape. copied_follows s.map after.last mid (live after.last after.state) (cleared_follows after.last to s mid cleared) deep from to copied (cleared_bare after.last to s mid shape cleared))

-- the folders of both ends are elsewhere
parent_out : (to from : Path) → is_front to from ≡ false → is_front to (parent from) ≡ false
parent_out to from out = false_from_ne_true _ (λ h. true≢false (sym (is_front-trans to (parent from) from h (parent_front from)) ∙ out))

parent_out_own : (to from : Path) → is_front to from ≡ false → is_front to (parent to) ≡ false
parent_out_own to from out = above_out to (λ none. true≢false (ap (λ t. is_front t from) (sym none) ∙ out))

-- and so has what is moved
move_dates : (before after : Server) (from to : Path) (mid : State) → before.last < after.last → HasFolder (as_found before after).map (parent from)
    → HasFolder (as_found before after).map (parent to) → is_front to from ≡ false → is_front from to ≡ false
    → IsCleared after.last to (as_found before after) mid → IsMoved after.last from to mid after.state → Dates before after
move_dates before after from to mid later above_from above_to to_from from_to cleared moved =
    let s = as_found before after in
    let bytes = bytes_of (at_path s.map (parent to)) in
    let out_from = parent_out to from to_from in
    let out_to = parent_out_own to from to_from in
    let folder_from = cleared_folder after.last to (parent from) s mid cleared out_from above_from in
    let folder_to = cleared_folder after.last to (parent to) s mid cleared out_to above_to in
    come_dates before after bytes later (moved_come s.map after.last bytes mid after.state (cleared_come after.last to s mid cleared) from to folder_from folder_to moved)
    (λ shape. moved_follows s.map after.last mid after.state (cleared_follows after.last to s mid cleared) from to folder_from folder_to (parent_out_own from to from_to) out_from
    (parent_out from to from_to) out_to moved)

live_map : (now : ℕ) (s s' : State) → SameLive now s s' → s'.map ≡ s.map
live_map now s s' h = ap (λ (s : State). s.map) h

whole_part : (now : ℕ) (deep : Bool) (from to : Path) (s s' : State) → IsCopied now deep from to s s' → IsPartlyCopied now deep from to s s'
whole_part now deep from to s s' h = record { there = λ rest. inr (h.there rest); others = h.others; left = h.left }

-- what a COPY or a MOVE leaves that is refused
copy_left : (before after : Server) (request : Request (List ℕ)) (e : Fault) → before.last ≤ after.last → Leaves (Some method.Copy) before request e after → Dates before after
copy_left before after request fault.InsufficientStorage later (inl same) = same_map before after later (live_map after.last before.state after.state same)
copy_left before after request fault.InsufficientStorage later (inr h) =
    let from = segments h.1.0.bytes in
    let now = h.1.2.now in
    let starts = h.1.3 in
    let to = segments starts.to.bytes in
    copy_dates before after starts.deep from to starts.mid h.0 (subst (λ n. IsCleared n to (as_found before after) starts.mid) now starts.cleared)
    (subst (λ n. IsPartlyCopied n starts.deep from to starts.mid (live n after.state)) now starts.copied)
copy_left before after request _ later h = same_map before after later (live_map after.last before.state after.state h)

move_left : (before after : Server) (request : Request (List ℕ)) (e : Fault) → before.last ≤ after.last → Leaves (Some method.Move) before request e after → Dates before after
move_left before after request fault.InsufficientStorage later (inl same) = same_map before after later (live_map after.last before.state after.state same)
move_left before after request fault.InsufficientStorage later (inr h) =
    let to = segments h.1.3.movable.to.bytes in
    let s = as_found before after in
    let cleared = subst (λ n. IsCleared n to s (live n after.state)) h.1.2.now h.1.3.cleared in
    come_dates before after (bytes_of (at_path s.map (parent to))) h.0 (cleared_come after.last to s (live after.last after.state) cleared)
    (λ shape. cleared_follows after.last to s (live after.last after.state) cleared)
move_left before after request _ later h = same_map before after later (live_map after.last before.state after.state h)

lock_left : (before after : Server) (request : Request (List ℕ)) (e : Fault) → before.last ≤ after.last → Leaves (Some method.Lock) before request e after → Dates before after
lock_left before after request fault.InsufficientStorage later (inl same) = same_map before after later (live_map after.last before.state after.state same)
lock_left before after request fault.InsufficientStorage later (inr h) = same_map before after later (elim h.3 [
  | inl back ↦ ap (λ (s : State). s.map) back
  | inr kept ↦ ap (λ (s : State). s.map) kept.1
])
lock_left before after request _ later h = same_map before after later (live_map after.last before.state after.state h)

method_dates : (m : Option DavMethod) (before after : Server) (request : Request (List ℕ)) (result : Result ℕ Fault) (sent : Sent) → before.last ≤ after.last
    → AnswersTo m before request result sent after → IfErr result (λ e. Leaves m before request e after) → Dates before after
method_dates (Some method.Get) before after request result sent later h refused =
    same_map before after later (live_map after.last before.state after.state h.1)
method_dates (Some method.Head) before after request result sent later h refused =
    same_map before after later (live_map after.last before.state after.state h.1)
method_dates (Some method.PropFind) before after request result sent later h refused =
    same_map before after later (live_map after.last before.state after.state h.1)
method_dates (Some method.Put) before after request (Ok status) sent later h refused =
    put_dates before after (segments h.1.path.bytes) (body_of request) h.1.later h.1.puts
method_dates (Some method.Put) before after request (Err e) sent later h refused =
    same_map before after later (live_map after.last before.state after.state refused)
method_dates (Some method.Delete) before after request (Ok status) sent later h refused =
    remove_dates before after (segments h.path.bytes) (h.later refl)
    (subst (λ n. IsRemoved n (segments h.path.bytes) (as_found before after) after.state) h.begins.now h.does.1.removed)
method_dates (Some method.Delete) before after request (Err e) sent later h refused =
    same_map before after later (live_map after.last before.state after.state refused)
method_dates (Some method.Copy) before after request (Ok status) sent later h refused =
    let now = h.begins.now in
    let to = segments h.does.1.to.bytes in
    let from = segments h.path.bytes in
    copy_dates before after h.does.1.deep from to h.does.1.mid (h.later refl) (subst (λ n. IsCleared n to (as_found before after) h.does.1.mid) now h.does.1.cleared)
    (subst (λ n. IsPartlyCopied n h.does.1.deep from to h.does.1.mid (live n after.state)) now (whole_part h.who.now h.does.1.deep from to h.does.1.mid (live h.who.now after.state) h.does.1.copied))
method_dates (Some method.Copy) before after request (Err e) sent later h refused = copy_left before after request e later refused
method_dates (Some method.Move) before after request (Ok status) sent later h refused =
    let now = h.begins.now in
    let to = segments h.does.1.to.bytes in
    let from = segments h.path.bytes in
    let apart = or_parts (is_front to from) (is_front from to) h.does.1.leads.apart in
    move_dates before after from to h.does.1.mid (h.later refl) h.does.1.stood_in h.does.1.fit.above apart.0 apart.1
    (subst (λ n. IsCleared n to (as_found before after) h.does.1.mid) now h.does.1.cleared) (subst (λ n. IsMoved n from to h.does.1.mid after.state) now h.does.1.moved)
method_dates (Some method.Move) before after request (Err e) sent later h refused = move_left before after request e later refused
method_dates (Some method.MkCol) before after request (Ok status) sent later h refused =
    make_dates before after (head_of request).headers h.who (segments h.path.bytes) status (h.later refl) h.begins.now h.does.1
method_dates (Some method.MkCol) before after request (Err e) sent later h refused =
    same_map before after later (live_map after.last before.state after.state refused)
method_dates (Some method.Unlock) before after request (Ok status) sent later h refused =
    same_map before after later (ap (λ (s : State). s.map) h.does.1.ends.left)
method_dates (Some method.Unlock) before after request (Err e) sent later h refused =
    same_map before after later (live_map after.last before.state after.state refused)
method_dates (Some method.Lock) before after request (Ok status) sent later h refused = lock_dates before after request status sent later h
method_dates (Some method.Lock) before after request (Err e) sent later h refused = lock_left before after request e later refused
method_dates (Some method.PropPatch) before after request (Ok status) sent later h refused =
    let updates = h.patches.updates in
    let p = segments h.path.bytes in
    patch_dates before after (any_protected updates) p updates later
    (subst (λ n. Changes (any_protected updates) n p updates (as_found before after) after.state) h.begins.now h.patches.changes)
method_dates (Some method.PropPatch) before after request (Err e) sent later h refused =
    same_map before after later (live_map after.last before.state after.state refused)
method_dates (Some method.Options) before after request (Ok status) sent later h refused = same_map before after later (ap (λ (s : State). s.map) h.1)
method_dates (Some method.Options) before after request (Err e) sent later h refused = same_map before after later (ap (λ (s : State). s.map) h.1)
method_dates _ before after request result sent later h refused = same_map before after later (ap (λ (s : State). s.map) h.1)

pub answer_dates : (before after : Server) (request : Request (List ℕ)) (response : Response) → Answers before request response after → Dates before after
answer_dates before after request response h =
    method_dates h.method before after request h.result h.own h.moves.moments h.done h.refused

pub clock_dates : (s : Server) (now : ℕ) → Dates s (record s { clock = now })
clock_dates s now = same_map s (record s { clock = now }) (omega arith) refl

pub restart_dates : (s s' : Server) → Restarts s s' → Dates s s'
restart_dates s s' h = same_map s s' h.moments h.map

-- ---- moments go on to tell

pub begins : (s : Server) → HasNoFiles s.state.map → MomentsTell s
begins s none = record {
  none_later = λ file has. absurd (none file has);
  same_bytes = λ file other has also same. absurd (none file has);
}

dates_tell : (before after : Server) → MomentsTell before → Dates before after → MomentsTell after
dates_tell before after tell h = record {
  none_later = λ file has. elim (h.files file has) [
    | inl had ↦ omega (arith, tell.none_later had.0 had.1, had.2, h.moments)
    | inr new ↦ omega (arith, new.1)
  ];
  same_bytes = λ file other has also same. elim (h.files file has) [
    | inl had ↦ elim (h.files other also) [
      | inl had_other ↦
          sym had.3 ∙ tell.same_bytes had.0 had_other.0 had.1 had_other.1 (had.2 ∙ same ∙ sym had_other.2) ∙ had_other.3
      | inr new ↦ absurd (omega (arith, tell.none_later had.0 had.1, had.2, new.0, new.1, same))
    ]
    | inr new ↦ elim (h.files other also) [
      | inl had ↦ absurd (omega (arith, tell.none_later had.0 had.1, had.2, new.0, new.1, same))
      | inr new_other ↦ new.2 ∙ sym new_other.2
    ]
  ];
}

pub goes_on : (s s' : Server) → MomentsTell s → Becomes s s' → MomentsTell s'
goes_on s s' tell itself = tell
goes_on s s' tell (by_clock mid now h) = dates_tell mid (record mid { clock = now }) (goes_on s mid tell h) (clock_dates mid now)
goes_on s s' tell (by_answer mid after request response h answer) =
    dates_tell mid after (goes_on s mid tell h) (answer_dates mid after request response answer)
goes_on s s' tell (by_restart mid after h again) = dates_tell mid after (goes_on s mid tell h) (restart_dates mid after again)

-- ---- over a run

-- each file of the later server stood in the earlier one with its bytes, or was changed since
record Since (s s' : Server) : Type 0 where
  moments : s.last ≤ s'.last
  files : (file : Resource) → HasFile s'.state.map file → Had s.state.map file.node.modified file.node.bytes ⊎ (s.last < file.node.modified)

since_more : (s mid after : Server) → Since s mid → Dates mid after → Since s after
since_more s mid after x h = record {
  moments = omega (arith, x.moments, h.moments);
  files = λ file has. elim (h.files file has) [
    | inl had ↦ elim (x.files had.0 had.1) [
      | inl old ↦ inl (old.0, old.1, old.2 ∙ had.2, old.3 ∙ had.3)
      | inr later ↦ inr (subst (λ n. s.last < n) had.2 later)
    ]
    | inr new ↦ inr (omega (arith, x.moments, new.0, new.1))
  ];
}

since : (s s' : Server) → Becomes s s' → Since s s'
since s s' itself = record { moments = omega arith; files = λ file has. inl (file, has, refl, refl) }
since s s' (by_clock mid now h) = since_more s mid (record mid { clock = now }) (since s mid h) (clock_dates mid now)
since s s' (by_answer mid after request response h answer) =
    since_more s mid after (since s mid h) (answer_dates mid after request response answer)
since s s' (by_restart mid after h again) = since_more s mid after (since s mid h) (restart_dates mid after again)

tags_tell : (s s' : Server) → MomentsTell s → Becomes s s' → TagsTell s s'
tags_tell s s' tell h file other has also fits fits_other same =
    let numbers = tells file.node.modified (length file.node.bytes) other.node.modified (length other.node.bytes) fits.0 fits.1 fits_other.0 fits_other.1 same in
    elim ((since s s' h).files other also) [
      | inl old ↦ tell.same_bytes file old.0 has old.1 (numbers.0 ∙ sym old.2) ∙ old.3
      | inr later ↦ absurd (omega (arith, tell.none_later file has, numbers.0, later))
    ]

pub runs_tell : (begun s s' : Server) → HasNoFiles begun.state.map → Becomes begun s → Becomes s s' → TagsTell s s'
runs_tell begun s s' none before after = tags_tell s s' (goes_on begun s (begins begun none) before) after

-- ---- what begins and leads on

pub new_stores : (now : ℕ) → HasNoFiles (start now)
new_stores now file has = elim (inserted path_total path_exact empty [] (record { number = 1; node = new_folder now }) has.0 file has.1) [
  | inl root ↦ let kinds : Folder ≡ File = ap (λ (r : Resource). r.node.kind) (sym root.1) ∙ has.2 in absurd (cc)
  | inr other ↦ none_some (get empty has.0) file (get-empty path_cmp has.0) other.1
]

calls_on : (s mid s' : Server) (calls : List Call) → Becomes s mid → Chain Answers mid calls s' → Becomes s s'
calls_on s mid s' [] h chain = subst (Becomes s) (sym chain) h
calls_on s mid s' (c ∷ calls) h chain = calls_on s chain.0 s' calls (by_answer mid chain.0 c.0 c.1 h chain.1) chain.2

pub calls_lead : (s s' : Server) (calls : List Call) → Chain Answers s calls s' → Becomes s s'
calls_lead s s' calls chain = calls_on s s s' calls itself chain

-- a moment that is told, or none
pub told_on : (told : Option ℕ) (s mid : Server) → Becomes s mid → Becomes s (with_clock told mid)
told_on None s mid h = h
told_on (Some moment) s mid h = by_clock mid moment h

-- ---- what calls leave

pub calls_stay : (s s' : Server) (calls : List Call) → Chain Answers s calls s'
    → (s'.clock ≡ s.clock) × (s'.options ≡ s.options)
calls_stay s s' [] chain = (ap (λ (s : Server). s.clock) chain, ap (λ (s : Server). s.options) chain)
calls_stay s s' (c ∷ calls) chain =
    let rest = calls_stay chain.0 s' calls chain.2 in
    (rest.0 ∙ chain.1.moves.clock, rest.1 ∙ chain.1.moves.options)
