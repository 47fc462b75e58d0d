-- What a GET or a HEAD tells of what stands at a path, and why it is refused.
use Rattle.std.proofs.Common.{◌≡◌, ◌⊎◌, inl, inr, ℕ, ◌-◌, ◌/◌, List, [], ◌∷◌, ◌++◌, length, Option, Some, None, Result, Ok, Err, refl, sym, ◌∙◌, ap, subst, arith}
use Rattle.std.specs.Prelude.{IfOk, IfErr, OnOk, unwrap_or}
use Rattle.std.specs.List.{last_or as last_of}
use Rattle.std.proofs.lemmas.List.{append_assoc}
use Rattle.http_header.specs.FieldValue.{FieldValue}
use Rattle.http_header.specs.HeaderMap.{Entries}
use Rattle.dav_path_core.specs.declared.util.DavMethod.{DavMethod}
use Rattle.dav_path_core.specs.declared.util.DavMethod.TheVariants as method
use Rattle.dav_path_core.specs.Fronts.{Path}
use Rattle.dav_path_core.specs.PathText.{PathText}
use Rattle.dav_path_core.specs.Segments.{segments}
use Rattle.dav_files_core.specs.declared.memfs.Kind.{Kind}
use Rattle.dav_files_core.specs.declared.memfs.Kind.TheVariants.{Folder, File}
use Rattle.dav_files_core.specs.Meta.{Meta, meta_at}
use Rattle.dav_files_core.specs.Resources.{Resource, ResourceMap, at_path}
use Rattle.dav_fields_core.specs.declared.etags.Standing.{Standing}
use Rattle.dav_faults_core.specs.declared.faults.Fault.{Fault}
use Rattle.dav_faults_core.specs.declared.faults.Fault.TheVariants as fault
use Rattle.dav_fields_core.specs.declared.preconditions.Course.{Course}
use Rattle.dav_fields_core.specs.declared.preconditions.Course.TheVariants as course
use Rattle.dav_fields_core.specs.declared.ranges.Extent.{Extent}
use Rattle.dav_fields_core.specs.declared.ranges.Extent.TheVariants as extent
use Rattle.http_server.specs.Response.{fields_of}
use Rattle.http_server.specs.declared.response.Response.{Response}
use Rattle.dav_fields_core.specs.AnswerFields.{modified_field, part_field, ranges_field, tag_field, tag_fields, type_field}
use Rattle.dav_fields_core.specs.ContentTypes.{content_type}
use Rattle.dav_fields_core.specs.Dates.{IsHttpDate}
use Rattle.dav_fields_core.specs.Fields.{Field, SendsMore, Sent}
use Rattle.dav_fields_core.specs.FileTags.{own_tags, standing_by, standing_known, tag_of}
use Rattle.dav_safe_methods_core.specs.GetMethod.{FailsToGet, Gets, HasFields, Tells, get_outcome, get_outcome_by, get_outcome_of, resource_fields}
use Rattle.dav_safe_methods_core.specs.FolderPages.{IsPaged, page_type}
use Rattle.dav_safe_methods_core.specs.Private.KnownFields.{HasKnownFields, known_fields}
use Rattle.dav_safe_methods_core.specs.PropertyAnswers.{last_or}
use Rattle.dav_safe_methods_core.proofs.SentLemmas.{sent_is}
use Rattle.dav_fields_core.specs.Getting.{tags_by}
use Rattle.dav_fields_core.specs.Preconditions.{course_of}
use Rattle.dav_fields_core.specs.Marking.{IsNone, IsRead}
use Rattle.dav_fields_core.specs.Ranges.{part_text, unsatisfied_text}
use Rattle.dav_fields_core.specs.LatestMoments.{latest_along}
use Rattle.dav_fields_core.proofs.FileTagLemmas.{tags_known}
use Rattle.dav_fields_core.proofs.ReadMarks.{IsKnown, known_entry, read_of, whole_read}

-- ---- what is told is of the entry

abbrev pub told_known : DavMethod → ResourceMap → Path → Meta → Entries FieldValue → Result (Option Extent) Fault
told_known m map p known headers = get_outcome m (standing_known map p known) known.length headers

pub fails : (m : DavMethod) (map : ResourceMap) (p : Path) (headers : Entries FieldValue) (known : Meta) (e : Fault) → IsKnown map p known
    → told_known m map p known headers ≡ Err e → FailsToGet m map p headers e
fails m map p headers known e found is = by (course_of m (standing_known map p known) headers) is
  where
    entry : (r : Resource) × (at_path map p ≡ Some r) × (known ≡ meta_at r.node)
    entry = known_entry map p known found

    of_entry : get_outcome_of m map p entry.0 headers ≡ Err e
    of_entry = sym (ap (λ k. told_known m map p k headers) entry.2) ∙ is

    refused : (f : Fault) → f ≡ e → get_outcome_of m map p entry.0 headers ≡ Err f
    refused f same = of_entry ∙ ap Err (sym same)

    by : (o : Option Course) → get_outcome_by m (standing_known map p known) known.length headers o ≡ Err e → FailsToGet m map p headers e
    by None h =
        let same : fault.BadRequest ≡ e = cc in subst (FailsToGet m map p headers) same (entry.0, entry.1, refused fault.BadRequest same)
    by (Some course.PreconditionFailed) h =
        let same : fault.PreconditionFailed ≡ e = cc in subst (FailsToGet m map p headers) same (entry.0, entry.1, refused fault.PreconditionFailed same)
    by (Some course.NotModified) h = absurd (cc)
    by (Some course.Whole) h = absurd (cc)
    by (Some course.Proceed) h = absurd (cc)

-- ---- fields

abbrev known_by : Path → List (List ℕ) → List ℕ → Kind → List Field
known_by p tags date k = elim k [
  | Folder ↦ modified_field date ∷ type_field page_type ∷ []
  | File ↦ tag_fields tags ++ (modified_field date ∷ type_field (content_type (last_or [] p)) ∷ ranges_field ∷ [])
]

abbrev told_by : Path → Resource → List ℕ → Kind → List Field
told_by p r date k = elim k [
  | Folder ↦ modified_field date ∷ type_field page_type ∷ []
  | File ↦ tag_field (tag_of r) ∷ modified_field date ∷ type_field (content_type (last_or [] p)) ∷ ranges_field ∷ []
]

-- those of what is known there are those of what stands there
known_are : (p : Path) (r : Resource) (tags : List (List ℕ)) (date : List ℕ) → tags ≡ own_tags r → known_fields p (meta_at r.node) tags date ≡ resource_fields p r date
known_are p r tags date is = by r.node.kind is
  where
    by : (k : Kind) → tags ≡ elim k [ Folder ↦ [] | File ↦ tag_of r ∷ [] ] → known_by p tags date k ≡ told_by p r date k
    by Folder is = refl
    by File is = ap (λ tags. tag_fields tags ++ (modified_field date ∷ type_field (content_type (last_or [] p)) ∷ ranges_field ∷ [])) is

-- what is added is what is known of a file, or of a folder, which has no tags
pub file_known : (p : Path) (known : Meta) (tags : List (List ℕ)) (date : List ℕ) → known.kind ≡ File
    → tag_fields tags ++ (modified_field date ∷ type_field (content_type (last_or [] p)) ∷ ranges_field ∷ []) ≡ known_fields p known tags date
file_known p known tags date kind = sym (ap (known_by p tags date) kind)

pub page_known : (p : Path) (known : Meta) (tags : List (List ℕ)) (date : List ℕ) → known.kind ≡ Folder → modified_field date ∷ type_field page_type ∷ [] ≡ known_fields p known tags date
page_known p known tags date kind = sym (ap (known_by p tags date) kind)

pub folder_known : (first : List Field) (p : Path) (known : Meta) (a b : List (List ℕ)) (fields : List Field) → known.kind ≡ Folder → HasKnownFields first p known a fields
    → HasKnownFields first p known b fields
folder_known first p known a b fields kind h = record {
  date = h.date;
  dated = h.dated;
  are = h.are ∙ ap (λ more. first ++ more) (sym (page_known p known a h.date kind) ∙ page_known p known b h.date kind);
}

-- the name of a path is its last segment
pub name_is_last : (o : Option (List ℕ)) (p : Path) → unwrap_or (last_of o p) [] ≡ last_or (unwrap_or o []) p
name_is_last o [] = refl
name_is_last o (s ∷ p) = name_is_last (Some s) p

-- ---- what can't be missing

pub not_missing : (m : DavMethod) (map other : ResourceMap) (p : Path) (headers : Entries FieldValue) (known : Meta) (k : Kind) (e : Fault) → IsKnown map p known
    → other ≡ map → known.kind ≡ k → (e ≡ fault.InsufficientStorage) ⊎ ((e ≡ fault.NotFound) × IsNone other p k) → FailsToGet m map p headers e
not_missing m map other p headers known k e found same kind (inl short) = subst (FailsToGet m map p headers) (sym short) tt
not_missing m map other p headers known k e found same kind (inr none) =
    let entry = known_entry map p known found in
    absurd (none.1 entry.0 (ap (λ m. at_path m p) same ∙ entry.1) (sym (ap (λ (k : Meta). k.kind) entry.2) ∙ kind))

-- a part is of a file
pub part_of_file : (m : DavMethod) (map : ResourceMap) (p : Path) (known : Meta) (headers : Entries FieldValue) (first end : ℕ) → told_known m map p known headers ≡ Ok (Some (extent.Part first end))
    → known.kind ≡ File
part_of_file m map p known headers first end h = by m known.kind refl (course_of m (standing_known map p known) headers) h
  where
    by : (m : DavMethod) (k : Kind) → known.kind ≡ k → (o : Option Course)
        → get_outcome_by m (standing_by k known.modified known.length (latest_along map p known)) known.length headers o ≡ Ok (Some (extent.Part first end)) → known.kind ≡ File
    by m File is o h = is
    by m Folder is None h = absurd (cc)
    by m Folder is (Some course.PreconditionFailed) h = absurd (cc)
    by m Folder is (Some course.NotModified) h = absurd (cc)
    by m Folder is (Some course.Whole) h = absurd (cc)
    by method.Get Folder is (Some course.Proceed) h = absurd (cc)
    by _ Folder is (Some course.Proceed) h = absurd (cc)

-- ---- what each answer is

pub standing_there : (map mid : ResourceMap) (p : Path) (known : Meta) (standing : Standing) → standing ≡ standing_known mid p known → mid ≡ map → standing ≡ standing_known map p known
standing_there map mid p known standing at same = at ∙ ap (λ m. standing_known m p known) same

pub told_is : (m : DavMethod) (map : ResourceMap) (p : Path) (known : Meta) (headers : Entries FieldValue) (standing : Standing) (size : ℕ) (x : Result (Option Extent) Fault) → standing ≡ standing_known map p known
    → size ≡ known.length → x ≡ get_outcome m standing size headers → told_known m map p known headers ≡ x
told_is m map p known headers standing size x at long is =
    sym (is ∙ ap (λ t. get_outcome m t size headers) at ∙ ap (λ n. get_outcome m (standing_known map p known) n headers) long)

module _ (m : DavMethod) (map other : ResourceMap) (path : PathText) (headers : Entries FieldValue) (known : Meta) (standing : Standing) (old new : Response)
    (found : IsKnown map (segments path.bytes) known) (at : standing ≡ standing_known map (segments path.bytes) known) (same : other ≡ map) where
  abbrev p : Path
  p = segments path.bytes

  abbrev IsTold : Result (Option Extent) Fault → Type 0
  IsTold x = told_known m map p known headers ≡ x

  abbrev body : List ℕ
  body = new.body.items

  entry : (r : Resource) × (at_path map p ≡ Some r) × (known ≡ meta_at r.node)
  entry = known_entry map p known found

  tags_are : tags_by standing ≡ own_tags entry.0
  tags_are = ap tags_by at ∙ ap (λ k. tags_by (standing_known map p k)) entry.2 ∙ tags_known map p entry.0

  -- what is told of the entry
  gets : (x : Result (Option Extent) Fault) (status : ℕ) (sent : Sent) → IsTold x → Tells x p entry.0 status sent → IsPaged map path status sent.body → Gets m map path headers status sent
  gets x status sent is tells page = record {
    resource = entry.0;
    here = entry.1;
    tells = subst (λ y. Tells y p entry.0 status sent) (sym is ∙ ap (λ k. told_known m map p k headers) entry.2) tells;
    page = page;
  }

  -- another status comes with no page
  unpaged : (n status : ℕ) (told : List ℕ) → ¬ (n ≡ 200) → status ≡ n → IsPaged map path status told
  unpaged n status told apart is r here kind two_hundred = absurd (apart (sym is ∙ two_hundred))

  -- the fields of the entry, behind these
  has_fields : (first fields : List Field) → HasKnownFields first p known (tags_by standing) fields → HasFields first p entry.0 fields
  has_fields first fields h = record {
    date = h.date;
    dated = subst (λ (k : Meta). IsHttpDate (k.modified / 1_000_000_000) h.date) entry.2 h.dated;
    are = h.are ∙ ap (λ (k : Meta). first ++ known_fields p k (tags_by standing) h.date) entry.2 ∙ ap (λ more. first ++ more) (known_are p entry.0 (tags_by standing) h.date tags_are);
  }

  pub none_gotten : (result : Result ℕ Fault) → IsTold (Ok None) → body ≡ []
      → IfOk result (λ status. (status ≡ 304) × (fields_of new ≡ fields_of old ++ tag_fields (tags_by standing))) → IfOk result (λ status. SendsMore old new (Gets m map path headers status))
  none_gotten (Ok status) is empty h =
      let sent : Sent = record { fields = tag_fields (own_tags entry.0); body = [] } in (
        sent,
        sent_is new (fields_of old ++ tag_fields (own_tags entry.0)) [] (h.1 ∙ ap (λ tags. fields_of old ++ tag_fields tags) tags_are) empty,
        gets (Ok None) status sent is (h.0, refl) (unpaged 304 status [] (λ is. omega (arith, is)) h.0),
      )
  none_gotten (Err e) is empty h = tt

  pub whole_gotten : (result : Result ℕ Fault) → IsTold (Ok (Some extent.Whole))
      → IfOk result (λ status. (status ≡ 200) × HasKnownFields (fields_of old) p known (tags_by standing) (fields_of new))
      → OnOk result (known.kind ≡ File → IsRead other p 0 known.length body) → IfOk result (λ status. IsPaged map path status body)
      → IfOk result (λ status. SendsMore old new (Gets m map path headers status))
  whole_gotten (Ok status) is h read page =
      let has = has_fields (fields_of old) (fields_of new) h.1 in
      let sent : Sent = record { fields = resource_fields p entry.0 has.date; body = body } in (
        sent,
        sent_is new (fields_of old ++ resource_fields p entry.0 has.date) body has.are refl,
        gets (Ok (Some extent.Whole)) status sent is
            (h.0, record { date = has.date; dated = has.dated; are = refl }, whole_read entry.0 known map other p body same entry.1 entry.2 read) page,
      )
  whole_gotten (Err e) is h read page = tt

  pub part_gotten : (first end : ℕ) (result : Result ℕ Fault) → IsTold (Ok (Some (extent.Part first end)))
      → IfOk result (λ status. (status ≡ 206) × HasKnownFields (fields_of old ++ part_field (part_text first end known.length) ∷ []) p known (tags_by standing) (fields_of new))
      → OnOk result (IsRead other p first (end - first) body) → IfOk result (λ status. SendsMore old new (Gets m map path headers status))
  part_gotten first end (Ok status) is h read =
      let part = part_field (part_text first end known.length) ∷ [] in
      let has = has_fields (fields_of old ++ part) (fields_of new) h.1 in
      let told = resource_fields p entry.0 has.date in
      let sent : Sent = record { fields = part ++ told; body = body } in
      let long : part ≡ part_field (part_text first end (length entry.0.node.bytes)) ∷ [] =
      ap (λ (k : Meta). part_field (part_text first end k.length) ∷ []) entry.2 in (
        sent,
        sent_is new (fields_of old ++ (part ++ told)) body (has.are ∙ append_assoc (fields_of old) part told) refl,
        gets (Ok (Some (extent.Part first end))) status sent is (
          h.0,
          record { date = has.date; dated = has.dated; are = ap (λ front. front ++ told) long },
          read_of entry.0 map other p first (end - first) body same read entry.1,
        ) (unpaged 206 status body (λ is. omega (arith, is)) h.0),
      )
  part_gotten first end (Err e) is h read = tt

  pub unsatisfied_gotten : (size : ℕ) (result : Result ℕ Fault) → IsTold (Ok (Some extent.Unsatisfiable)) → size ≡ known.length → body ≡ []
      → IfOk result (λ status. (status ≡ 416) × (fields_of new ≡ fields_of old ++ part_field (unsatisfied_text size) ∷ [])) → IfOk result (λ status. SendsMore old new (Gets m map path headers status))
  unsatisfied_gotten size (Ok status) is long empty h =
      let told : List Field = part_field (unsatisfied_text (length entry.0.node.bytes)) ∷ [] in
      let sent : Sent = record { fields = told; body = [] } in (
        sent,
        sent_is new (fields_of old ++ told) [] (h.1 ∙ ap (λ n. fields_of old ++ part_field (unsatisfied_text n) ∷ []) (long ∙ ap (λ (k : Meta). k.length) entry.2)) empty,
        gets (Ok (Some extent.Unsatisfiable)) status sent is (h.0, refl) (unpaged 416 status [] (λ is. omega (arith, is)) h.0),
      )
  unsatisfied_gotten size (Err e) is long empty h = tt

  pub part_fails : (first end : ℕ) (result : Result ℕ Fault) → IsTold (Ok (Some (extent.Part first end)))
      → IfErr result (λ e. (e ≡ fault.InsufficientStorage) ⊎ ((e ≡ fault.NotFound) × IsNone other p File)) → IfErr result (λ e. FailsToGet m map p headers e)
  part_fails first end (Ok status) is h = tt
  part_fails first end (Err e) is h = not_missing m map other p headers known File e found same (part_of_file m map p known headers first end is) h
