-- The path that the target of a request names (RFC 9110 section 7.1): decoded, resolved, and behind the prefix of the server.
use Rattle.std.specs.Prelude.{ℕ, List}
use Rattle.http_uri.specs.declared.uri.Uri.{Uri}
use Rattle.http_uri.specs.Uri.{uri_path}
use Rattle.dav_path_core.specs.declared.davpath.ParseError.{ParseError}
use Rattle.dav_path_core.specs.declared.davpath.ParseError.TheVariants as parse
use Rattle.dav_path_core.specs.Fault as path
use Rattle.dav_path_core.specs.PathText.{PathText, full}
use Rattle.dav_path_core.specs.PathReading.{Read}
use Rattle.dav_path_core.specs.Prefix.{SetsPrefix}

-- the text is read as the path, behind the prefix
pub record IsPathOf (prefix text : List ℕ) (path : PathText) : Type 0 where
  pub whole : List ℕ
  pub read : Read text whole
  pub sets : SetsPrefix whole prefix (full path) path.prefix

-- The text is read as no path, leads out of the root, or isn't behind the prefix. Of memory nothing is said.
abbrev pub RefusesPath : List ℕ → List ℕ → ParseError → Type 0
RefusesPath prefix text parse.PrefixMismatch = (whole : List ℕ) × Read text whole × ((after set : List ℕ) → ¬ SetsPrefix whole prefix after set)
RefusesPath prefix text parse.OutOfMemory = Unit {0}
RefusesPath prefix text e = path.Fault text e

abbrev pub IsTargetOf : List ℕ → Uri → PathText → Type 0
IsTargetOf prefix uri path = IsPathOf prefix (uri_path uri) path
