-- What a contract sees of a path: the bytes of its prefix, and the bytes behind the prefix.
use Rattle.std.specs.Prelude.{ℕ, List, [], ◌∷◌, ◌++◌}
use Rattle.std.specs.List.{flat_map}
use Rattle.dav_path_core.specs.Fronts.{Path}

pub record PathText : Type 0 where
  pub prefix : List ℕ
  pub bytes : List ℕ

-- prefix and all
abbrev pub full : PathText → List ℕ
full path = path.prefix ++ path.bytes

-- the bytes of a folder: a slash, and each segment followed by a slash
abbrev pub folder_bytes : Path → List ℕ
folder_bytes p = 47 ∷ flat_map (λ s. s ++ 47 ∷ []) p
