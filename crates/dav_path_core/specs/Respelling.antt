-- What the URL text of a path keeps of it: it is read as that path again, and it is no other path's text (own).
use Rattle.std.specs.Prelude.{◌≡◌, ℕ, ◌<◌, List, All}
use Rattle.dav_path_core.specs.PathReading.{Read}
use Rattle.dav_path_core.specs.Url.{url}

pub record KeepsPath (text path : List ℕ) : Type 0 where
  -- where path reading gives the path for some text, it gives it for this one too
  pub read_again : (source : List ℕ) → Read source path → Read text path
  -- other bytes have another text
  pub once : (other : List ℕ) → All (λ b. b < 256) other → url other ≡ text → other ≡ path

-- the URL text of a path is read as that path
abbrev pub IsReadAsItself : List ℕ → Type 0
IsReadAsItself path = Read (url path) path
