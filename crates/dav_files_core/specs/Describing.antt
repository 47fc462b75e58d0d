-- What is known of what is at a path (RFC 4918 section 15).
use Rattle.std.specs.Prelude.{Result, Ok}
use Rattle.dav_path_core.specs.declared.errors.FsError.{FsError}
use Rattle.dav_path_core.specs.Fronts.{Path}
use Rattle.dav_files_core.specs.Resources.{ResourceMap}
use Rattle.dav_files_core.specs.Finding.{find}
use Rattle.dav_files_core.specs.Meta.{Meta, meta_at}
use Rattle.dav_files_core.specs.Outcomes.{◌>>=◌}

-- what is known of what is at a path
abbrev pub metadata : ResourceMap → Path → Result Meta FsError
metadata m p = find m p >>= λ r. Ok (meta_at r.node)
