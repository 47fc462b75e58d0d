-- How much room is made behind the last round (own).
use Rattle.std.specs.Prelude.{ℕ, ◌/◌, max, min, Option, None, Some}

-- Where no more is asked for: an eighth of the file up to its gate, from 4 to 64 MiB, and no more than a quarter of what is free on the disk. 4 MiB where it isn't known what is free.
abbrev pub spare_room : ℕ → Option ℕ → ℕ
spare_room gate None = 4_194_304
spare_room gate (Some free) = min (free / 4) (max (min 67_108_864 (gate / 8)) 4_194_304)

-- for a round of so many bytes
abbrev pub made_room : ℕ → Option ℕ → ℕ → ℕ
made_room gate free bytes = max bytes (spare_room gate free)
