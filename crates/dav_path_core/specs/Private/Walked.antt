-- Where a walk through a tree stands (own).
use Rattle.std.specs.Prelude.{ℕ, Option, Some, None}
use Rattle.dav_path_core.specs.Keyed.{IsKnown, Under, parent_number}
use Rattle.dav_path_core.specs.TreeValue.{TreeValue}

-- at a node below the root, or behind the last
abbrev pub IsWalkedTo : {K D : Type 0} → TreeValue K D → Option ℕ → Type 0
IsWalkedTo t None = Unit {0}
IsWalkedTo t (Some n) = IsKnown t.keyed n × Under (parent_number t.keyed) 1 n
