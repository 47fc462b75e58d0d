-- The tag that an answer has of what stands at a path (RFC 9110 section 8.8.3).
use Rattle.std.specs.Prelude.{ℕ, List, [], ◌∷◌}
use Rattle.dav_fields_core.specs.declared.etags.Standing.{Standing}
use Rattle.dav_fields_core.specs.declared.etags.Standing.TheVariants as standing

-- the tag of a file; a folder has none
abbrev pub tags_by : Standing → List (List ℕ)
tags_by (standing.File tag modified latest) = tag ∷ []
tags_by _ = []
