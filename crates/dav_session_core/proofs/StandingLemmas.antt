-- A file, as conditions see it.
use Rattle.std.proofs.Common.{◌≡◌, ◌∙◌, ℕ, List, ap, refl}
use Rattle.dav_path_core.specs.Fronts.{Path}
use Rattle.dav_path_core.specs.declared.util.Moment.{Moment}
use Rattle.dav_files_core.specs.declared.memfs.Kind.{Kind}
use Rattle.dav_files_core.specs.declared.memfs.Kind.TheVariants.{File, Folder}
use Rattle.dav_files_core.specs.Meta.{Meta}
use Rattle.dav_files_core.specs.Resources.{ResourceMap}
use Rattle.dav_fields_core.specs.declared.etags.Standing.TheVariants as standing
use Rattle.dav_fields_core.specs.FileTags.{file_tag, standing_by, standing_known}
use Rattle.dav_fields_core.specs.LatestMoments.{latest_along}

-- what is known to be no folder stands as a file, by its tag and its moments
pub file_stands : (m : ResourceMap) (p : Path) (known : Meta) (tag : List ℕ) (modified latest : Moment) → ¬ (known.kind ≡ Folder) → tag ≡ file_tag known.modified known.length
    → modified.0 ≡ known.modified → latest.0 ≡ latest_along m p known → standing.File tag modified latest ≡ standing_known m p known
file_stands m p known tag modified latest other tag_is modified_is latest_is = by known.kind other
  where
    by : (kind : Kind) → ¬ (kind ≡ Folder) → standing.File tag modified latest ≡ standing_by kind known.modified known.length (latest_along m p known)
    by Folder is_other = absurd (is_other refl)
    by File is_other =
        ap (λ t. standing.File t modified latest) tag_is
        ∙ ap (λ n. standing.File (file_tag known.modified known.length) (record { 0 = n }) latest) modified_is
        ∙ ap (λ n. standing.File (file_tag known.modified known.length) (record { 0 = known.modified }) (record { 0 = n })) latest_is
