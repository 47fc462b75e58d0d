-- How `DavPath::new` goes on by one piece: the pieces kept after it, or why it is refused. Private contracts alone speak of it.
use Rattle.std.specs.Prelude.{◌≡◌, ℕ, List, [], ◌∷◌, ◌++◌, All, Contains, IsTrue}
use Rattle.std.specs.List.{flat_map}
use Rattle.dav_path_core.specs.declared.davpath.ParseError.{ParseError}
use Rattle.dav_path_core.specs.declared.davpath.ParseError.TheVariants.{InvalidPath, ForbiddenPath}
use Rattle.dav_path_core.specs.PathReading.{is_idle, is_up, is_ordinary, IsForeign, Rewrites}

-- the path of kept pieces: each behind a slash
abbrev pub behind_slashes : List (List ℕ) → List ℕ
behind_slashes kept = flat_map (λ s. 47 ∷ s) kept

-- these bytes are the path of these pieces, of which none holds a slash
pub record Spells (kept : List (List ℕ)) (path : List ℕ) : Type 0 where
  pub whole : All (λ s. ¬ Contains s 47) kept
  pub spelling : path ≡ behind_slashes kept

-- the pieces kept after this one
pub data TakesPiece (old : List (List ℕ)) (piece : List ℕ) (new : List (List ℕ)) : Type 0 where
  idle : IsTrue (is_idle piece) → new ≡ old → TakesPiece old piece new
  up : (last : List ℕ) → IsTrue (is_up piece) → old ≡ new ++ last ∷ [] → TakesPiece old piece new
  ordinary : IsTrue (is_ordinary piece) → new ≡ old ++ piece ∷ [] → TakesPiece old piece new

-- why this one is refused
pub data RefusesPiece (old : List (List ℕ)) (piece : List ℕ) : ParseError → Type 0 where
  foreign : IsForeign piece → RefusesPiece old piece InvalidPath
  above : IsTrue (is_up piece) → old ≡ [] → RefusesPiece old piece ForbiddenPath

-- the pieces are at no fault, and come down to these ordinary ones
pub record ComesDown (pieces kept : List (List ℕ)) : Type 0 where
  pub clean : All (λ piece. ¬ IsForeign piece) pieces
  pub rewrites : Rewrites pieces kept
  pub ordinary : All (λ piece. IsTrue (is_ordinary piece)) kept
