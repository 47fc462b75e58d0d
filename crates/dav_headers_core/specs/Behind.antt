-- What stands behind the front of a text.
use Rattle.std.specs.Prelude.{ℕ, nat_eq, List, drop, length, Option}
use Rattle.std.specs.List.{starts_with}
use Rattle.dav_headers_core.specs.Optional.{when}

-- the rest, where the text begins so
abbrev pub rest_after : List ℕ → List ℕ → Option (List ℕ)
rest_after front text = when (starts_with nat_eq text front) (drop (length front) text)
