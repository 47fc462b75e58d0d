-- Bytes that end in a segment.
use Rattle.std.specs.Prelude.{ℕ, List, length, get_or, ◌<◌, ◌-◌, ◌≡◌, false}
use Rattle.dav_path_core.specs.Segments.{is_slash}

-- the last byte, if there is one, is no slash
abbrev pub EndsInName : List ℕ → Type 0
EndsInName bytes = 0 < length bytes → is_slash (get_or bytes (length bytes - 1) 0) ≡ false
