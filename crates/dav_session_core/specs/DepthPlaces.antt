-- The places that a request is about, by its depth (RFC 4918 section 10.2).
use Rattle.std.specs.Prelude.{◌≡◌, List, [], ◌∷◌}
use Rattle.dav_path_core.specs.Fronts.{Path}
use Rattle.dav_headers_core.specs.declared.davheaders.depths.Depth.{Depth}
use Rattle.dav_headers_core.specs.declared.davheaders.depths.Depth.TheVariants as reach
use Rattle.dav_files_core.specs.Resources.{ResourceMap}
use Rattle.dav_session_core.specs.MemberPaths.{paths_of_members}
use Rattle.dav_session_core.specs.Subtrees.{HasOddMember, HasOddName, IsSubtreeWalk}

-- The places that are told of: the path alone, or with its members by the bytes of their names,
-- or all that stands there and below. A map, a path and a depth have one such list.
abbrev pub AreWithin : Depth → ResourceMap → Path → List Path → Type 0
AreWithin reach.Zero m p places = places ≡ p ∷ []
AreWithin reach.One m p places = places ≡ p ∷ paths_of_members m p
AreWithin reach.Infinity m p places = IsSubtreeWalk m p places
AreWithin reach.Default m p places = ⊥

-- a name within the depth is one that no path has which is read
abbrev pub HasOddWithin : Depth → ResourceMap → Path → Type 0
HasOddWithin reach.One m p = HasOddMember m p
HasOddWithin reach.Infinity m p = HasOddName m p
HasOddWithin d m p = ⊥
