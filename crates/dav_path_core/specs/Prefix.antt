-- The prefix split: which prefix a path gets, and which whole path it is set in (own).
use Rattle.std.specs.Prelude.{◌≡◌, ℕ, List, [], ◌∷◌, ◌++◌, false}
use Rattle.dav_path_core.specs.PathReading.{ends_in_slash}

-- For the asked prefix, the prefix that is set and the whole path after it. The asked one ends in a slash and is set without
-- it; or it is the whole path, which gets a slash; or a slash stands right behind it.
pub data SetsPrefix (before asked after prefix : List ℕ) : Type 0 where
  cut : (rest : List ℕ) → before ≡ asked ++ rest → asked ≡ prefix ++ 47 ∷ [] → after ≡ before → SetsPrefix before asked after prefix
  whole : before ≡ asked → ends_in_slash asked ≡ false → prefix ≡ asked → after ≡ before ++ 47 ∷ [] → SetsPrefix before asked after prefix
  front : (rest : List ℕ) → before ≡ asked ++ 47 ∷ rest → ends_in_slash asked ≡ false → prefix ≡ asked → after ≡ before → SetsPrefix before asked after prefix

-- the asked prefix is the whole path, which needs a slash behind it
pub record NeedsSlash (before asked : List ℕ) : Type 0 where
  pub is_whole : before ≡ asked
  pub no_slash : ends_in_slash asked ≡ false
