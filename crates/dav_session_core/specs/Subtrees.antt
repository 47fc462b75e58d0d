-- All that stands at a path and below it, as a list in order (RFC 4918 sections 9.6.1 and 9.8.3).
use Rattle.std.specs.Prelude.{◌≡◌, ◌↔◌, true, List, [], ◌∷◌, ◌++◌, Contains, IsSome}
use Rattle.std.specs.List.{AllPairs}
use Rattle.std.specs.declared.cmp.Ordering.TheVariants.{Less}
use Rattle.dav_path_core.specs.Fronts.{Segment, Path, is_front, path_cmp}
use Rattle.dav_path_core.specs.PathReading.{CanBeSegment}
use Rattle.dav_files_core.specs.Resources.{ResourceMap, at_path}

-- by the bytes of the first segments that differ, and a folder before all that is in it
abbrev pub ComesBefore : Path → Path → Type 0
ComesBefore q r = path_cmp q r ≡ Less

-- a member has a name that no path has which is read
abbrev pub HasOddMember : ResourceMap → Path → Type 0
HasOddMember m p = (name : Segment) × IsSome (at_path m (p ++ (name ∷ []))) × ¬ CanBeSegment name

-- something at or below the path has a name that no path has which is read
pub record HasOddName (m : ResourceMap) (p : Path) : Type 0 where
  pub folder : Path
  pub name : Segment
  pub below : is_front p folder ≡ true
  pub stands : IsSome (at_path m (folder ++ (name ∷ [])))
  pub odd : ¬ CanBeSegment name

-- It is the only such list.
pub record IsSubtreeWalk (m : ResourceMap) (p : Path) (places : List Path) : Type 0 where
  -- a path is in the list exactly where it is at or below the given one and something stands there
  pub members : (q : Path) → Contains places q ↔ ((is_front p q ≡ true) × IsSome (at_path m q))
  -- each path comes before all behind it in the list
  pub sorted : AllPairs ComesBefore places
  -- each has a name that a path can have which is read
  pub plain : ¬ HasOddName m p
