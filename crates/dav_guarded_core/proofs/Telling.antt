-- What questions of a resource map tell, and where they are refused.
use Rattle.std.proofs.Common.{true, ◌≡◌, ℕ, List, map, take, drop, Option, Some, None, Result, Ok, Err, refl, sym, ◌∙◌, ap}
use Rattle.std.specs.Prelude.{ok_or}
use Rattle.std.specs.FinMap.{entries, values}
use Rattle.dav_path_core.specs.declared.errors.FsError.{FsError}
use Rattle.dav_path_core.specs.declared.errors.FsError.TheVariants.{Forbidden}
use Rattle.dav_path_core.specs.Fronts.{Segment, Path}
use Rattle.dav_files_core.specs.declared.memfs.Kind.{Kind}
use Rattle.dav_files_core.specs.declared.memfs.Kind.TheVariants.{Folder, File}
use Rattle.dav_files_core.specs.Finding.{refusal_at, members}
use Rattle.dav_files_core.specs.Listing.{listed_member, read_dir}
use Rattle.dav_files_core.specs.Meta.{Meta as Known, meta_at}
use Rattle.dav_files_core.specs.Outcomes.{◌>>=◌, only_file, only_folder}
use Rattle.dav_files_core.specs.ContentParts.{read_at}
use Rattle.dav_files_core.specs.Properties.{shown_property}
use Rattle.dav_files_core.specs.Resources.{Resource, ResourceMap, at_path}
use Rattle.dav_guarded_core.specs.Requests.{Reply, Meta, Bytes, Entries, Props}
use Rattle.dav_guarded_core.specs.ResourceStep.{tells}

-- ---- what a `Read` tells

told_ok : {A : Type 0} (m m' : ResourceMap) (tell : A → Reply) (x : A) (reply : Reply) → tells m tell (Ok x) ≡ Ok (reply, m') → reply ≡ tell x
told_ok m m' tell x reply h =
    let same : (tell x, m) ≡ (reply, m') = cc in
    ap (λ (y : Reply × ResourceMap). y.0) (sym same)

-- a file stands there, and these are its bytes
abbrev pub IsRead : ResourceMap → Path → ℕ → ℕ → Reply → Type 0
IsRead m p at count reply =
    (r : Resource) × (at_path m p ≡ Some r) × (r.node.kind ≡ File) × (reply ≡ Bytes (take count (drop at r.node.bytes)))

pub read_tells : (m m' : ResourceMap) (p : Path) (at count : ℕ) (reply : Reply) → tells m Bytes (read_at m p at count) ≡ Ok (reply, m') → IsRead m p at count reply
read_tells m m' p at count reply h = by (at_path m p) refl h
  where
    part : Resource → Result (List ℕ) FsError
    part r = Ok (take count (drop at r.node.bytes))

    by_kind : (r : Resource) (k : Kind) → at_path m p ≡ Some r → r.node.kind ≡ k → tells m Bytes (elim k [ Folder ↦ Err Forbidden | File ↦ Ok r ] >>= part) ≡ Ok (reply, m')
        → IsRead m p at count reply
    by_kind r Folder here kind h = absurd (cc)
    by_kind r File here kind h = (r, here, kind, told_ok m m' Bytes (take count (drop at r.node.bytes)) reply h)

    by : (o : Option Resource) → at_path m p ≡ o → tells m Bytes (ok_or o (refusal_at m p) >>= λ r. only_file r >>= part) ≡ Ok (reply, m') → IsRead m p at count reply
    by (Some r) here h = by_kind r r.node.kind here refl h
    by None here h = absurd (cc)

-- ---- what a `List` tells

-- on a folder it is not refused
pub list_refused : (m : ResourceMap) (p : Path) (r : Resource) (e : FsError) → at_path m p ≡ Some r → r.node.kind ≡ Folder → ¬ (tells m Entries (read_dir m p) ≡ Err e)
list_refused m p r e here kind h = by (at_path m p) here h
  where
    tell : ResourceMap → List (Segment × Known)
    tell m = map listed_member (entries (members m p))

    by_kind : (q : Resource) (k : Kind) → k ≡ Folder → tells m Entries (elim k [ Folder ↦ Ok q | File ↦ Err Forbidden ] >>= λ (_ : Resource). Ok (tell m)) ≡ Err e → ⊥
    by_kind q Folder is h = absurd (cc)
    by_kind q File is h = absurd (cc)

    by : (o : Option Resource) → o ≡ Some r → tells m Entries ((ok_or o (refusal_at m p) >>= only_folder) >>= λ (_ : Resource). Ok (tell m)) ≡ Err e → ⊥
    by (Some q) same h = let one : q ≡ r = cc in by_kind q q.node.kind (ap (λ (x : Resource). x.node.kind) one ∙ kind) h
    by None same h = absurd (cc)

-- ---- what a `Meta` and a `GetProps` tell

pub meta_missing : (m : ResourceMap) (o : Option Resource) (e f : FsError) → tells m Meta (ok_or o e >>= λ r. Ok (meta_at r.node)) ≡ Err f → o ≡ None
meta_missing m (Some r) e f h = absurd (cc)
meta_missing m None e f h = refl
