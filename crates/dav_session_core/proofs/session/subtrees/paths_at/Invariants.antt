use Rattle.std.proofs.Common.{◌≡◌, map}
use Rattle.dav_session_core.specs.Private.WalkPlaces.{place_path}
use Rattle.dav_session_core.specs.Unhindered.{paths_of}
use Rattle.dav_session_core.proofs.session.subtrees.paths_at.Given as goal

abbrev pub invariant-loop-place : goal.invariant-loop-place
invariant-loop-place l = paths_of l.paths.items ≡ map place_path l.yielded
