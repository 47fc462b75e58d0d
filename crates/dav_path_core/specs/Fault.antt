-- Why a text is no path: the first fault, by counts of the pieces before it.
use Rattle.std.specs.Prelude.{◌≡◌, ℕ, ◌<◌, List, [], take, length, IsTrue, count_by, slice_index_or}
use Rattle.dav_path_core.specs.PathReading.{is_up, is_ordinary, IsForeign, IsTarget, decoded_pieces, raw}
use Rattle.dav_path_core.specs.declared.davpath.ParseError.{ParseError}
use Rattle.dav_path_core.specs.declared.davpath.ParseError.TheVariants.{InvalidPath, ForbiddenPath}

abbrev pub nth_piece : List (List ℕ) → ℕ → List ℕ
nth_piece pieces k = slice_index_or pieces k []

-- the piece at k is `..`, and as many pieces before it are `..` as are ordinary
abbrev pub LeavesRoot : List (List ℕ) → ℕ → Type 0
LeavesRoot pieces k =
    IsTrue (is_up (nth_piece pieces k)) × (count_by is_up (take k pieces) ≡ count_by is_ordinary (take k pieces))

-- the piece at k is at fault, by this error
pub data IsFaultAt (pieces : List (List ℕ)) (k : ℕ) : ParseError → Type 0 where
  foreign : IsForeign (nth_piece pieces k) → IsFaultAt pieces k InvalidPath
  above : LeavesRoot pieces k → IsFaultAt pieces k ForbiddenPath

abbrev pub NoFaultBelow : List (List ℕ) → ℕ → Type 0
NoFaultBelow pieces k = (j : ℕ) → j < k → (e : ParseError) → ¬ IsFaultAt pieces j e

-- the first faulty piece has this error
pub record FirstFault (pieces : List (List ℕ)) (e : ParseError) : Type 0 where
  pub at : ℕ
  pub within : at < length pieces
  pub earlier : NoFaultBelow pieces at
  pub fault : IsFaultAt pieces at e

-- the text is no target, or its first faulty piece decides
pub data Fault (text : List ℕ) : ParseError → Type 0 where
  no_target : ¬ IsTarget text → Fault text InvalidPath
  first : (e : ParseError) → IsTarget text → FirstFault (decoded_pieces (raw text)) e → Fault text e
