-- How large a file is, and a folder with all that stands below it.
use Rattle.std.specs.Prelude.{◌≡◌, ℕ, ◌+◌, List, [], ◌∷◌, ◌++◌, map, Ok}
use Rattle.dav_path_core.specs.Fronts.{Segment, Path}
use Rattle.dav_files_core.specs.declared.memfs.Kind.TheVariants.{File}
use Rattle.dav_files_core.specs.Describing.{metadata}
use Rattle.dav_files_core.specs.Listing.{read_dir}
use Rattle.dav_files_core.specs.Meta.{Meta}
use Rattle.dav_files_core.specs.Resources.{ResourceMap}

-- the paths of listed members of the folder at `p`
abbrev pub member_paths : Path → List (Segment × Meta) → List Path
member_paths p listed = map (λ (member : Segment × Meta). p ++ (member.0 ∷ [])) listed

mutual
  -- what stands at a path has a size: a file its length, a folder the size of all its members together
  pub data HasSize (m : ResourceMap) : Path → ℕ → Type 0 where
    file : (p : Path) (meta : Meta) → metadata m p ≡ Ok meta → meta.kind ≡ File → HasSize m p meta.length
    folder : (p : Path) (listed : List (Segment × Meta)) (size : ℕ) → read_dir m p ≡ Ok listed → HaveSize m (member_paths p listed) size → HasSize m p size

  -- what stands at some paths has a size together
  pub data HaveSize (m : ResourceMap) : List Path → ℕ → Type 0 where
    nothing : HaveSize m [] 0
    each : (p : Path) (ps : List Path) (size rest : ℕ) → HasSize m p size → HaveSize m ps rest → HaveSize m (p ∷ ps) (size + rest)
