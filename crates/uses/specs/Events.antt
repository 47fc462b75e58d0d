-- The events of a calendar, kept as children of the root of a tree by their names.
use Rattle.std.specs.Prelude.{ℕ, Option, List, String, nat_eq, option_map, option_and_then, string_bytes}
use Rattle.std.specs.Cmp.Lexicographic.{pointwise}
use Rattle.std.specs.declared.alloc.Global.{Global}
use Rattle.dav_path_core.specs.Keyed.{child, item}
use Rattle.dav_path_core.specs.TreeValue.{TreeValue}

-- the text of the event of that name
abbrev pub event : TreeValue (List ℕ) (String Global) → List ℕ → Option (List ℕ)
event events name =
    option_and_then (λ n. option_map string_bytes (item events.keyed n)) (child (λ k. pointwise nat_eq k name) events.keyed 1)
