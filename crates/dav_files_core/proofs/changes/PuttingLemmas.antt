-- What `put` answers, by where the path leads.
use Rattle.std.proofs.Common.{◌≡◌, ℕ, List, Option, Some, None, Result, Ok, Err, refl, ap, ◌∙◌}
use Rattle.std.specs.Prelude.{ok_or}
use Rattle.dav_path_core.specs.declared.errors.FsError.{FsError}
use Rattle.dav_path_core.specs.declared.errors.FsError.TheVariants.{NotFound, Forbidden}
use Rattle.dav_files_core.specs.declared.memfs.Kind.TheVariants.{Folder, File}
use Rattle.dav_files_core.specs.ResourcePutting.{put, put_at}
use Rattle.dav_files_core.specs.Finding.{refusal_at}
use Rattle.dav_files_core.specs.Outcomes.{◌>>=◌, with_new_entry, with_other_node, new_file}
use Rattle.dav_files_core.specs.Resources.{Resource, ResourceMap, at_path}
use Rattle.dav_files_core.specs.Private.TreeCalls.{entry_number, IsMissing}
use Rattle.dav_path_core.specs.Fronts.{Segment, Path}
use Rattle.dav_files_core.proofs.walks.FoundLemmas.{not_there}

-- a number that was found
pub found_number : (m : ResourceMap) (p : Path) (id : ℕ) → Ok id ≡ entry_number m p → (r : Resource) × (at_path m p ≡ Some r) × (r.number ≡ id)
found_number m p id h = by (at_path m p) refl
  where
    by : (o : Option Resource) → at_path m p ≡ o → (r : Resource) × (at_path m p ≡ Some r) × (r.number ≡ id)
    by None e = let both : ◌≡◌ {A = Result ℕ FsError} (Ok id) (Err (refusal_at m p)) = h ∙ ap (λ o. ok_or o (refusal_at m p) >>= (λ (r : Resource). Ok r.number)) e in absurd (cc)
    by (Some r) e = let both : ◌≡◌ {A = Result ℕ FsError} (Ok id) (Ok r.number) = h ∙ ap (λ o. ok_or o (refusal_at m p) >>= (λ (r : Resource). Ok r.number)) e in (r, e, cc)
