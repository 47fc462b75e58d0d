-- Over a run of a server a date tells whether it is the same file that stands at a path.
use Rattle.std.proofs.Common.{◌≡◌, inl, inr, ℕ, ◌*◌, ◌≤◌, Bool, true, false, not, ◌||◌, List, Option, None, Some, Result, Ok, Err, refl, sym, ◌∙◌, ap, subst, arith}
use Rattle.std.specs.Prelude.{codes, nat_le, ◌==◌, length}
use Rattle.std.proofs.Math.Nat.{div-mul-le_self}
use Rattle.std.proofs.lemmas.Bool.{cases_Bool, eqb-true, leb-true}
use Rattle.http.specs.declared.request.Request.{Request}
use Rattle.http.specs.Request.{head_of}
use Rattle.http_header.specs.FieldValue.{FieldValue}
use Rattle.http_header.specs.HeaderMap.{Entries, get_all}
use Rattle.dav_path_core.specs.declared.util.DavMethod.{DavMethod}
use Rattle.dav_path_core.specs.declared.util.DavMethod.TheVariants as method
use Rattle.dav_path_core.specs.Fronts.{Path}
use Rattle.dav_path_core.specs.Segments.{segments}
use Rattle.dav_path_core.proofs.lists.FinMaps.{one_some}
use Rattle.dav_files_core.specs.Meta.{meta_at}
use Rattle.dav_files_core.specs.Resources.{Resource, ResourceMap, at_path}
use Rattle.dav_faults_core.specs.declared.faults.Fault.{Fault}
use Rattle.dav_fields_core.specs.declared.etags.Standing.{Standing}
use Rattle.dav_fields_core.specs.declared.preconditions.Course.{Course}
use Rattle.dav_fields_core.specs.declared.preconditions.Course.TheVariants as course
use Rattle.dav_fields_core.specs.declared.ranges.Extent.{Extent}
use Rattle.dav_fields_core.specs.declared.ranges.Extent.TheVariants as extent
use Rattle.dav_fields_core.specs.Fields.{Sent}
use Rattle.dav_fields_core.specs.FileTags.{standing_at, standing_by, standing_known, standing_of}
use Rattle.dav_fields_core.specs.LatestMoments.{last_change, latest_along}
use Rattle.dav_fields_core.specs.Preconditions.{course_of, if_modified_since, if_unmodified_since, is_told_by}
use Rattle.dav_fields_core.proofs.LatestLemmas.{bounds, own_bounds}
use Rattle.dav_fields_core.proofs.PreconditionLaws.{not_modified_by_date, unmodified_told, wanted_by_date}
use Rattle.dav_methods_core.specs.ChangeConditions.{changes_by}
use Rattle.dav_safe_methods_core.specs.GetMethod.{Tells, get_outcome_by, get_outcome_of}
use Rattle.dav_handler_core.specs.Answers.{AnswersTo, status_of}
use Rattle.dav_handler_core.specs.DateConditions.{AsksModifiedSince, AsksUnmodifiedSince, FindsSame, IsSameByDate, told_second}
use Rattle.dav_handler_core.specs.Deciding.{IsToldAs, Lets, WentOn, looks}
use Rattle.dav_handler_core.specs.KeptDocuments.{IsNew}
use Rattle.dav_handler_core.specs.PathMoments.{IsAlong, IsFileAt}
use Rattle.dav_handler_core.specs.Server.{Server}
use Rattle.dav_handler_core.specs.TagHistories.{Becomes}
use Rattle.dav_guarded_core.specs.Checks.{has}
use Rattle.dav_handler_core.specs.MethodAnswers.{IsGotten}
use Rattle.dav_handler_core.proofs.AnswerStatuses.{lock_low, no_fault, put_between, transfer_low}
use Rattle.dav_handler_core.proofs.MomentLaws.{dates_tell}

-- ---- a file, as conditions see it

-- no moment along its path is after the latest of them
none_after : (m : ResourceMap) (p : Path) (file : Resource) → at_path m p ≡ Some file → (n : ℕ) → IsAlong m p n → n ≤ latest_along m p (meta_at file.node)
none_after m p file here n (inl made) =
    let same = one_some (at_path m p) made.0 file made.1 here in
    let created : file.node.created ≡ n = ap (λ (r : Resource). r.node.created) (sym same) ∙ made.2 in
    omega (arith, created, (own_bounds m p (meta_at file.node)).0)
none_after m p file here n (inr above) = elim (bounds m (length p) above.0 p refl above.2) [
  | inl own ↦
      let same = one_some (at_path m p) above.1 file (subst (λ q. at_path m q ≡ Some above.1) own above.3) here in
      let modified : file.node.modified ≡ n = ap (λ (r : Resource). r.node.modified) (sym same) ∙ above.4 in
      omega (arith, modified, (own_bounds m p (meta_at file.node)).1)
  | inr under ↦
      let is : last_change (at_path m above.0) ≡ n = ap last_change above.3 ∙ above.4 in
      omega (arith, is, under, (own_bounds m p (meta_at file.node)).2)
]

-- whether a date tells it
abbrev tells : ResourceMap → Path → Resource → ℕ → Bool
tells m p file second = second == told_second file || nat_le (latest_along m p (meta_at file.node)) (second * 1000000000)

is_told : (m : ResourceMap) (p : Path) (file : Resource) (second : ℕ) → IsFileAt m p file → is_told_by (standing_at m p) second ≡ Some (tells m p file second)
is_told m p file second here =
    ap (λ o. is_told_by (standing_of m p o) second) here.0
    ∙ ap (λ k. is_told_by (standing_by k file.node.modified (length file.node.bytes) (latest_along m p (meta_at file.node))) second) here.1

module _ (begun s before : Server) (new : IsNew begun) (first : Becomes begun s) (then : Becomes s before) where
  -- a date that tells the file that stands there, and with which an earlier one was told
  pub same_file : (p : Path) (file other : Resource) → IsFileAt s.state.map p file → IsFileAt before.state.map p other
      → tells before.state.map p other (told_second file) ≡ true → IsSameByDate file other
  same_file p file other here there told = elim (cases_Bool (told_second file == told_second other)) [
    | inl one ↦ inr (sym (eqb-true (told_second file) (told_second other) one))
    | inr apart ↦
        let behind : latest_along before.state.map p (meta_at other.node) ≤ told_second file * 1000000000 =
        leb-true _ _ (subst (λ b. (b || nat_le (latest_along before.state.map p (meta_at other.node)) (told_second file * 1000000000)) ≡ true) apart told) in
        inl (dates_tell begun s before new first then p file other (told_second file) here there (div-mul-le_self file.node.modified 1000000000)
        (λ n along. let late = none_after before.state.map p other there.0 n along in omega (arith, late, behind)))
  ]

  module _ (request : Request (List ℕ)) where
    abbrev Headers : Entries FieldValue
    Headers = (head_of request).headers

    -- ---- what a request that goes on finds

    pub found_by : (p : Path) → if_unmodified_since (standing_at before.state.map p) (get_all Headers (codes "if-unmodified-since")) ≡ true
        → (file other : Resource) → IsFileAt s.state.map p file → IsFileAt before.state.map p other → AsksUnmodifiedSince Headers (told_second file) → IsSameByDate file other
    found_by p holds file other here there asks =
        same_file p file other here there
        (sym (unmodified_told (standing_at before.state.map p) (get_all Headers (codes "if-unmodified-since")) (told_second file) _ asks.1
        (is_told before.state.map p other (told_second file) there)).0 ∙ holds)

    -- the course that lets it go on
    by_course : (m : DavMethod) (p : Path) (at : Standing) (c : Course) → at ≡ standing_at before.state.map p → course_of m at Headers ≡ Some c → ¬ (course.PreconditionFailed ≡ c)
        → (file other : Resource) → IsFileAt s.state.map p file → IsFileAt before.state.map p other → AsksUnmodifiedSince Headers (told_second file) → IsSameByDate file other
    by_course m p at c is goes other file later here there asks =
        found_by p (ap (λ (t : Standing). if_unmodified_since t (get_all Headers (codes "if-unmodified-since"))) (sym is)
        ∙ wanted_by_date m at Headers c asks.0 goes other) file later here there asks

    read_course : (m : DavMethod) (p : Path) (at : Standing) (size : ℕ) (x : Extent) (o : Option Course) → at ≡ standing_at before.state.map p → course_of m at Headers ≡ o
        → get_outcome_by m at size Headers o ≡ Ok (Some x)
        → (file other : Resource) → IsFileAt s.state.map p file → IsFileAt before.state.map p other → AsksUnmodifiedSince Headers (told_second file) → IsSameByDate file other
    read_course m p at size x None is goes h = absurd (cc)
    read_course m p at size x (Some course.PreconditionFailed) is goes h = absurd (cc)
    read_course m p at size x (Some course.NotModified) is goes h = absurd (cc)
    read_course m p at size x (Some course.Whole) is goes h = by_course m p at course.Whole is goes (λ e. cc)
    read_course m p at size x (Some course.Proceed) is goes h = by_course m p at course.Proceed is goes (λ e. cc)

    changing_course : (m : DavMethod) (p : Path) (o : Option Course) → course_of m (standing_at before.state.map p) Headers ≡ o → changes_by o ≡ Ok tt
        → (file other : Resource) → IsFileAt s.state.map p file → IsFileAt before.state.map p other → AsksUnmodifiedSince Headers (told_second file) → IsSameByDate file other
    changing_course m p None goes h = absurd (cc)
    changing_course m p (Some course.PreconditionFailed) goes h = absurd (cc)
    changing_course m p (Some course.NotModified) goes h = absurd (cc)
    changing_course m p (Some course.Whole) goes h = by_course m p (standing_at before.state.map p) course.Whole refl goes (λ e. cc)
    changing_course m p (Some course.Proceed) goes h = by_course m p (standing_at before.state.map p) course.Proceed refl goes (λ e. cc)

    -- what stands there, as a GET sees it
    known_there : (p : Path) (r : Resource) → at_path before.state.map p ≡ Some r → standing_known before.state.map p (meta_at r.node) ≡ standing_at before.state.map p
    known_there p r here = sym (ap (standing_of before.state.map p) here)

    pub lets_same : (m : Option DavMethod) (p : Path) → looks m ≡ true → Lets m before.state.map p Headers
        → (file other : Resource) → IsFileAt s.state.map p file → IsFileAt before.state.map p other → AsksUnmodifiedSince Headers (told_second file) → IsSameByDate file other
    lets_same (Some method.Get) p look (x, told) =
        let r = told.0 in
        let at = standing_known before.state.map p (meta_at r.node) in
        read_course method.Get p at (length r.node.bytes) x (course_of method.Get at Headers) (known_there p r told.1) refl told.2
    lets_same (Some method.Head) p look (x, told) =
        let r = told.0 in
        let at = standing_known before.state.map p (meta_at r.node) in
        read_course method.Head p at (length r.node.bytes) x (course_of method.Head at Headers) (known_there p r told.1) refl told.2
    lets_same (Some m) p look h = changing_course m p (course_of m (standing_at before.state.map p) Headers) refl h
    lets_same None p look h = absurd (cc)

    pub went_on_finds : (m : Option DavMethod) (after : Server) → looks m ≡ true → WentOn m before request after → FindsSame (AsksUnmodifiedSince Headers) s before request after
    went_on_finds m after look h = record { path = h.path; who = h.who; begins = h.begins; same = lets_same m (segments h.path.bytes) look h.lets }

    -- ---- what a 304 is told of

    untold : (m : DavMethod) (p : Path) (at : Standing) (size : ℕ) (o : Option Course) → at ≡ standing_at before.state.map p → course_of m at Headers ≡ o
        → get_outcome_by m at size Headers o ≡ Ok None
        → (file other : Resource) → IsFileAt s.state.map p file → IsFileAt before.state.map p other → AsksModifiedSince Headers (told_second file) → IsSameByDate file other
    untold m p at size None is goes h file other here there asks = absurd (cc)
    untold m p at size (Some course.PreconditionFailed) is goes h file other here there asks = absurd (cc)
    untold m p at size (Some course.Whole) is goes h file other here there asks = absurd (cc)
    untold m p at size (Some course.Proceed) is goes h file other here there asks = absurd (cc)
    untold m p at size (Some course.NotModified) is goes h file other here there asks =
        same_file p file other here there (back _ (sym (unmodified_told (standing_at before.state.map p) Dates (told_second file) _ asks.1
        (is_told before.state.map p other (told_second file) there)).1
        ∙ ap (λ (t : Standing). if_modified_since t Dates) (sym is) ∙ not_modified_by_date m at Headers asks.0 goes))
      where
        Dates : List FieldValue
        Dates = get_all Headers (codes "if-modified-since")

        back : (b : Bool) → not b ≡ false → b ≡ true
        back true h = refl
        back false h = absurd (cc)

    pub told_same : (m : DavMethod) (p : Path) → IsToldAs m before.state.map p Headers None
        → (file other : Resource) → IsFileAt s.state.map p file → IsFileAt before.state.map p other → AsksModifiedSince Headers (told_second file) → IsSameByDate file other
    told_same m p (r, here, h) =
        let at = standing_known before.state.map p (meta_at r.node) in
        untold m p at (length r.node.bytes) (course_of m at Headers) (known_there p r here) refl h

    -- a GET or a HEAD that is answered 304
    told_304 : (m : DavMethod) (p : Path) (r : Resource) (status : ℕ) (sent : Sent) (x : Result (Option Extent) Fault) → at_path before.state.map p ≡ Some r
        → get_outcome_of m before.state.map p r Headers ≡ x → Tells x p r status sent → status ≡ 304 → IsToldAs m before.state.map p Headers None
    told_304 m p r status sent (Err e) here is h told = absurd h
    told_304 m p r status sent (Ok None) here is h told = (r, here, is)
    told_304 m p r status sent (Ok (Some extent.Whole)) here is h told = absurd (omega (arith, h.0, told))
    told_304 m p r status sent (Ok (Some (extent.Part first end))) here is h told = absurd (omega (arith, h.0, told))
    told_304 m p r status sent (Ok (Some extent.Unsatisfiable)) here is h told = absurd (omega (arith, h.0, told))

    read_finds : (m : DavMethod) (after : Server) (status : ℕ) (sent : Sent) → IsGotten m before request status sent after → status ≡ 304
        → FindsSame (AsksModifiedSince Headers) s before request after
    read_finds m after status sent h told =
        let p = segments h.path.bytes in
        record {
          path = h.path;
          who = h.who;
          begins = h.begins;
          same = told_same m p (told_304 m p h.gets.resource status sent (get_outcome_of m before.state.map p h.gets.resource Headers) h.gets.here refl h.gets.tells told);
        }

    pub not_modified_finds : (after : Server) (sent : Sent) (m : Option DavMethod) (result : Result ℕ Fault) → AnswersTo m before request result sent after → status_of result ≡ 304
        → FindsSame (AsksModifiedSince Headers) s before request after
    not_modified_finds after sent m (Err e) h told = absurd (no_fault e 304 told (omega arith) (λ same. omega (arith, same)))
    not_modified_finds after sent (Some method.Get) (Ok status) h told = read_finds method.Get after status sent h.0 told
    not_modified_finds after sent (Some method.Head) (Ok status) h told = read_finds method.Head after status sent h.0 told
    not_modified_finds after sent (Some method.PropFind) (Ok status) h told = absurd (omega (arith, h.0.does.0, told))
    not_modified_finds after sent (Some method.Put) (Ok status) h told =
        absurd (omega (arith, told, h.1.status_is, put_between (has before.state.map (segments h.1.path.bytes))))
    not_modified_finds after sent (Some method.Delete) (Ok status) h told = absurd (omega (arith, h.does.1.status_is, told))
    not_modified_finds after sent (Some method.Copy) (Ok status) h told =
        absurd (transfer_low (has before.state.map (segments h.does.1.to.bytes)) status h.does.1.status_is (inl told))
    not_modified_finds after sent (Some method.Move) (Ok status) h told =
        absurd (transfer_low (has before.state.map (segments h.does.1.to.bytes)) status h.does.1.status_is (inl told))
    not_modified_finds after sent (Some method.MkCol) (Ok status) h told = absurd (omega (arith, h.does.1.status_is, told))
    not_modified_finds after sent (Some method.Unlock) (Ok status) h told = absurd (omega (arith, h.does.1.status_is, told))
    not_modified_finds after sent (Some method.Lock) (Ok status) h told = absurd (lock_low before request status sent after h (inl told))
    not_modified_finds after sent (Some method.PropPatch) (Ok status) h told = absurd (omega (arith, h.patches.status_is, told))
    not_modified_finds after sent (Some method.Options) (Ok status) h told = absurd (omega (arith, h.0, told))
    not_modified_finds after sent _ (Ok status) h told = absurd (cc)
