-- Paths by their bytes as folders.
use Rattle.std.proofs.Common.{◌≡◌, ℕ, Bool, true, false, cond, List, length, Result, Ok, Err, refl, sym, ap, subst}
use Rattle.std.specs.Str.{bytes_eq}
use Rattle.dav_path_core.specs.Fronts.{Path}
use Rattle.dav_path_core.specs.PathText.{folder_bytes}
use Rattle.dav_path_core.specs.Segments.{segments}
use Rattle.dav_path_core.proofs.paths.ParentLemmas.{all_segments, segments-folder_bytes}
use Rattle.dav_effects_core.specs.ByteForms.{HasCount, following_at}
use Rattle.dav_effects_core.specs.RecordReading.{path_at}
use Rattle.dav_effects_core.specs.Records.{IsPath}

pub folder_whole : (bs : List ℕ) → segments (folder_bytes (segments bs)) ≡ segments bs
folder_whole bs = segments-folder_bytes (segments bs) (all_segments bs)

pub is_path : (bs text : List ℕ) → text ≡ folder_bytes (segments bs) → HasCount text → IsPath (segments bs)
is_path bs text e short = record { short = subst HasCount e short; whole = folder_whole bs }
