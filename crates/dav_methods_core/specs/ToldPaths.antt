-- The path of a resource as it is told: that of a folder ends with a slash (RFC 4918 section 5.2).
use Rattle.std.specs.Prelude.{[], ◌∷◌, ◌++◌, Option, None, Some, if◌then◌else◌}
use Rattle.dav_path_core.specs.PathReading.{ends_in_slash}
use Rattle.dav_path_core.specs.PathText.{PathText}
use Rattle.dav_path_core.specs.Segments.{segments}
use Rattle.dav_files_core.specs.Meta.{Meta}
use Rattle.dav_files_core.specs.Resources.{ResourceMap, is_folder}
use Rattle.dav_session_core.specs.Ends.{known_at}

-- with a slash at its end
abbrev pub with_slash : PathText → PathText
with_slash path =
    if ends_in_slash path.bytes then path else record path { bytes = path.bytes ++ 47 ∷ [] }

-- by what is known to stand there
abbrev pub told_by : Option Meta → PathText → PathText
told_by None path = path
told_by (Some known) path = if is_folder known.kind then with_slash path else path

abbrev pub told_path : ResourceMap → PathText → PathText
told_path m path = told_by (known_at m (segments path.bytes)) path
