-- What a read or a write at a path answers, through a file that is opened for it; and what is known of a path.
use Rattle.std.proofs.Common.{◌≡◌, inl, inr, ℕ, ◌+◌, ◌^◌, Bool, true, false, List, length, None, Option, Some, Result, Ok, Err, refl, sym, ap, ◌∙◌, subst}
use Rattle.std.specs.Option.{ok_or}
use Rattle.std.specs.Prelude.{nat_lt, unwrap_or, is_none, is_ok, if◌then◌else◌}
use Rattle.std.proofs.lemmas.Bool.{false≢true}
use Rattle.dav_path_core.specs.StoreAnswers.{AnswersAs, TellsOutcome}
use Rattle.dav_path_core.specs.declared.errors.FsError.{FsError}
use Rattle.dav_path_core.specs.declared.errors.FsError.TheVariants.{NotFound, Forbidden, TooLarge}
use Rattle.dav_path_core.specs.Fronts.{Path}
use Rattle.dav_files_core.specs.declared.fs.OpenOptions.{OpenOptions}
use Rattle.dav_files_core.specs.declared.memfs.Kind.{Kind}
use Rattle.dav_files_core.specs.declared.memfs.Kind.TheVariants.{Folder, File}
use Rattle.dav_files_core.specs.Describing.{metadata}
use Rattle.dav_files_core.specs.ContentParts.{read_at, write_at}
use Rattle.dav_files_core.specs.Finding.{find, refusal_at}
use Rattle.dav_files_core.specs.Meta.{meta_at}
use Rattle.dav_files_core.specs.OpenFiles.{open_file, overwritten_at, part, read_bytes, start_of_write, write_bytes}
use Rattle.dav_files_core.specs.Opening.{OpenFile, opened_file, opening, opening_at}
use Rattle.dav_files_core.specs.Outcomes.{Outcome, ◌>>=◌, only_file, with_other_node}
use Rattle.dav_files_core.specs.Private.TreeCalls.{entry_number}
use Rattle.dav_files_core.specs.Resources.{Resource, ResourceMap, at_path, IsResourceMap}
use Rattle.dav_files_core.proofs.opens.NumberedLemmas.{number_is}

-- what a file that is there is opened with to be read or written
abbrev pub using : Bool → Bool → Bool → OpenOptions
using read write append =
    record { read = read; write = write; append = append; truncate = false; create = false; create_new = false; size = None; checksum = None }

-- a file that was opened so: it stands at the path, and nothing was changed
pub record OpenedAt (append : Bool) (m : ResourceMap) (p : Path) (f : OpenFile) (m' : ResourceMap) : Type 0 where
  pub entry : Resource
  pub here : at_path m p ≡ Some entry
  pub file : entry.node.kind ≡ File
  pub left : m' ≡ m
  pub number : f ≡ record { number = entry.number; position = 0; append = append }

module _ (read write append : Bool) (m : ResourceMap) (p : Path) (now : ℕ) where
  abbrev by_kind : Resource → Kind → Result Resource FsError
  by_kind r k = elim k [ Folder ↦ Err Forbidden | File ↦ Ok r ]

  abbrev opens : Resource → Outcome OpenFile
  opens r = Ok (opened_file r.number (using read write append), m)

  pub opened_there : (f : OpenFile) (m' : ResourceMap) → opening m p (using read write append) now ≡ Ok (f, m') → OpenedAt append m p f m'
  opened_there f m' h = by (at_path m p) refl h
    where
      kind : (r : Resource) → at_path m p ≡ Some r → (k : Kind) → r.node.kind ≡ k → by_kind r k >>= opens ≡ Ok (f, m') → OpenedAt append m p f m'
      kind r here Folder is h = absurd (cc)
      kind r here File is h =
          let pairs : (opened_file r.number (using read write append), m) ≡ (f, m') = cc in
          record { entry = r; here = here; file = is; left = ap (λ (x : OpenFile × ResourceMap). x.1) (sym pairs); number = ap (λ (x : OpenFile × ResourceMap). x.0) (sym pairs) }

      by : (o : Option Resource) → at_path m p ≡ o → opening_at m p (using read write append) now o ≡ Ok (f, m') → OpenedAt append m p f m'
      by (Some r) here h = kind r here r.node.kind refl h
      by None none h = let both : ◌≡◌ {A = Outcome OpenFile} (Err (refusal_at m p)) (Ok (f, m')) = sym (ap (λ o. ok_or o (refusal_at m p) >>= opens) none) ∙ h in absurd (cc)

  module _ (at count : ℕ) where
    found : (r : Resource) → at_path m p ≡ Some r → read_at m p at count ≡ (only_file r >>= λ (r : Resource). Ok (part r.node.bytes at count))
    found r here = ap (λ (o : Option Resource). ok_or o (refusal_at m p) >>= (λ (r : Resource). only_file r >>= (λ (r : Resource). Ok (part r.node.bytes at count)))) here

    module _ (is_map : IsResourceMap m) (f : OpenFile) (m' : ResourceMap) (o : OpenedAt append m p f m') where
      abbrev file : OpenFile
      file = record f { position = at }

      its_entry : open_file m file ≡ Ok (p, o.entry)
      its_entry =
          ap (λ (e : Option (Path × Resource)). ok_or e NotFound >>= λ (e : Path × Resource). only_file e.1 >>= λ (_ : Resource). Ok e)
          (number_is m is_map p o.entry o.here f.number (ap (λ (f : OpenFile). f.number) (sym o.number)))
          ∙ ap (λ k. by_kind o.entry k >>= λ (_ : Resource). Ok (p, o.entry)) o.file

      abbrev bytes : List ℕ
      bytes = part o.entry.node.bytes at count

      reads : read_bytes m file count ≡ Ok (bytes, record file { position = at + length bytes })
      reads =
          ap (λ (e : Result (Path × Resource) FsError). e >>= λ (e : Path × Resource). Ok (part e.1.node.bytes at count, record file { position = at + length (part e.1.node.bytes at count) })) its_entry

      pub read_is : read_at m p at count ≡ Ok bytes
      read_is = found o.entry o.here ∙ ap (λ k. by_kind o.entry k >>= λ (r : Resource). Ok (part r.node.bytes at count)) o.file

      pub read_through : (result : Result (List ℕ) FsError) (g g' : OpenFile) → AnswersAs (λ b. b) result (read_bytes m file count) g g' → TellsOutcome (λ b. b) result (read_at m p at count)
      read_through (Ok b) g g' h =
          let both : ◌≡◌ {A = Result (List ℕ × OpenFile) FsError} (Ok (bytes, record file { position = at + length bytes })) (Ok (b, g')) = sym reads ∙ h in
          let pairs : (bytes, record file { position = at + length bytes }) ≡ (b, g') = cc in
          read_is ∙ ap (λ (x : List ℕ × OpenFile). Ok x.0) pairs
      read_through (Err e) g g' h = elim h.1 [
        | inl out ↦ inl (out.0, ap is_ok read_is)
        | inr refused ↦ absurd (let both : ◌≡◌ {A = Result (List ℕ × OpenFile) FsError} (Ok (bytes, record file { position = at + length bytes })) (Err e) = sym reads ∙ refused in cc)
      ]

module _ (m : ResourceMap) (p : Path) (is_map : IsResourceMap m) (at : Option ℕ) (new : List ℕ) (f : OpenFile) (m' : ResourceMap) (o : OpenedAt (is_none at) m p f m') where
  abbrev old : List ℕ
  old = o.entry.node.bytes

  abbrev start : ℕ
  start = unwrap_or at (length old)

  abbrev behind : OpenFile
  behind = record f { position = unwrap_or at 0 }

  abbrev written : ResourceMap
  written = with_other_node m p o.entry (record o.entry.node { bytes = overwritten_at old start new })

  abbrev fits : Bool
  fits = nat_lt (start + length new) (2 ^ 64)

  starts : start_of_write behind old ≡ start
  starts = ap (λ b. if b then length old else unwrap_or at 0) (ap (λ (f : OpenFile). f.append) o.number) ∙ by at
    where
      by : (at : Option ℕ) → (if is_none at then length old else unwrap_or at 0) ≡ unwrap_or at (length old)
      by None = refl
      by (Some n) = refl

  abbrev through : Path × Resource → ℕ → Result (Unit {0} × (OpenFile × ResourceMap)) FsError
  through e n =
      if nat_lt (n + length new) (2 ^ 64)
      then Ok (tt, (record behind { position = n + length new }, with_other_node m e.0 e.1 (record e.1.node { bytes = overwritten_at e.1.node.bytes n new })))
      else Err TooLarge

  its_place : open_file m behind ≡ Ok (p, o.entry)
  its_place =
      ap (λ (e : Option (Path × Resource)). ok_or e NotFound >>= λ (e : Path × Resource). only_file e.1 >>= λ (_ : Resource). Ok e)
      (number_is m is_map p o.entry o.here f.number (ap (λ (f : OpenFile). f.number) (sym o.number)))
      ∙ ap (λ k. elim k [ Folder ↦ Err Forbidden | File ↦ Ok o.entry ] >>= λ (_ : Resource). Ok (p, o.entry)) o.file

  writes : write_bytes m behind new ≡ through (p, o.entry) start
  writes = ap (λ (e : Result (Path × Resource) FsError). e >>= λ (e : Path × Resource). through e (start_of_write behind e.1.node.bytes)) its_place
      ∙ ap (through (p, o.entry)) starts

  abbrev leaves : Bool → Outcome (Unit {0})
  leaves b = if b then Ok (tt, written) else Err TooLarge

  write_is : write_at m p at new ≡ leaves fits
  write_is =
      ap (λ (x : Option Resource). ok_or x (refusal_at m p) >>= (λ (r : Resource). only_file r >>= rest)) o.here
      ∙ ap (λ k. elim k [ Folder ↦ Err Forbidden | File ↦ Ok o.entry ] >>= rest) o.file
    where
      rest : Resource → Outcome (Unit {0})
      rest r =
          let n = unwrap_or at (length r.node.bytes) in
          if nat_lt (n + length new) (2 ^ 64) then Ok (tt, with_other_node m p r (record r.node { bytes = overwritten_at r.node.bytes n new })) else Err TooLarge

  -- a write through the file is a write at the path
  pub write_through : (result : Result (Unit {0}) FsError) (g : OpenFile) (m'' : ResourceMap) → AnswersAs {S = OpenFile × ResourceMap} (λ x. x) result (write_bytes m behind new) (behind, m) (g, m'')
      → AnswersAs (λ x. x) result (write_at m p at new) m m''
  write_through result g m'' h = by fits result (subst (λ w. AnswersAs {S = OpenFile × ResourceMap} (λ x. x) result w (behind, m) (g, m'')) writes h) write_is
    where
      by : (b : Bool) (result : Result (Unit {0}) FsError)
          → AnswersAs {S = OpenFile × ResourceMap} (λ x. x) result (if b then Ok (tt, (record behind { position = start + length new }, written)) else Err TooLarge) (behind, m) (g, m'')
          → write_at m p at new ≡ leaves b → AnswersAs (λ x. x) result (write_at m p at new) m m''
      by true (Ok x) h is =
          let pairs : (tt {0}, (record behind { position = start + length new }, written)) ≡ (x, (g, m'')) = cc in
          is ∙ ap (λ (y : Unit {0} × (OpenFile × ResourceMap)). Ok (y.0, y.1.1)) pairs
      by true (Err e) h is = (ap (λ (y : OpenFile × ResourceMap). y.1) h.0, elim h.1 [ inl out ↦ inl (out.0, ap is_ok is) | inr refused ↦ absurd (cc) ])
      by false (Ok x) h is = absurd (cc)
      by false (Err e) h is = (
        ap (λ (y : OpenFile × ResourceMap). y.1) h.0,
        elim h.1 [
          | inl out ↦ absurd (false≢true out.1)
          | inr refused ↦ inr (is ∙ (let same : TooLarge ≡ e = cc in ap (λ (x : FsError). Err x) same))
        ],
      )

-- where a seek left the file
pub stands_at : (at x : ℕ) (f g : OpenFile) → ◌≡◌ {A = Result (ℕ × OpenFile) FsError} (Ok (at, record f { position = at })) (Ok (x, g)) → g ≡ record f { position = at }
stands_at at x f g h = let pairs : (at, record f { position = at }) ≡ (x, g) = cc in ap (λ (x : ℕ × OpenFile). x.1) (sym pairs)
