-- Which notes a record is of (own).
use Rattle.std.specs.Prelude.{◌≡◌, ◌++◌, ℕ, Bool, List as Sequence, length, Option, IfSome}
use Rattle.std.specs.List.{AllByRecursion, flat_map}
use Rattle.dav_path_core.specs.Fronts.{Path}
use Rattle.dav_path_core.specs.PathText.{PathText, folder_bytes}
use Rattle.dav_path_core.specs.Segments.{segments}
use Rattle.dav_files_core.specs.Resources.{Property}
use Rattle.dav_guarded_core.specs.Requests.{Command}
use Rattle.dav_notes_core.specs.Asking.{Caller}
use Rattle.dav_notes_core.specs.Noting.{Noted}
use Rattle.dav_effects_core.specs.declared.pieces.Pieces.{Pieces}
use Rattle.dav_effects_core.specs.ByteForms.{FitsInEight, HasCount, IsUtf8Text}
use Rattle.dav_effects_core.specs.RecordText.{asker, caller_text, head_text, record_of_notes}

-- ---- values that can be in a store

-- each is a segment
pub record IsPath (path : Path) : Type 0 where
  pub short : HasCount (folder_bytes path)
  pub whole : segments (folder_bytes path) ≡ path

pub record IsPathText (path : PathText) : Type 0 where
  pub prefix : IsUtf8Text path.prefix
  pub bytes : HasCount path.bytes

pub record IsCaller (who : Caller) : Type 0 where
  pub moment : FitsInEight who.now
  pub principal : IfSome who.principal IsUtf8Text
  pub few : FitsInEight (length who.tokens)
  pub tokens : AllByRecursion IsUtf8Text who.tokens

pub record IsProperty (p : Property) : Type 0 where
  pub name : IsUtf8Text p.name
  pub prefix : IfSome p.prefix IsUtf8Text
  pub namespace : IfSome p.namespace IsUtf8Text
  pub xml : IfSome p.xml HasCount

abbrev pub ArePatches : Sequence (Bool × Property) → Type 0
ArePatches patch = FitsInEight (length patch) × AllByRecursion (λ e. IsProperty e.1) patch

-- the command changes something, and its values are such
abbrev pub IsChange : Command → Type 0
IsChange (Command.Put path bytes) = IsPath path × HasCount bytes
IsChange (Command.Write path at bytes) = IsPath path × (IfSome at FitsInEight × HasCount bytes)
IsChange (Command.MkCol path) = IsPath path
IsChange (Command.Remove path) = IsPath path
IsChange (Command.Move from to) = IsPath from × IsPath to
IsChange (Command.Copy from to) = IsPath from × IsPath to
IsChange (Command.PatchProps path patch) = IsPath path × ArePatches patch
IsChange (Command.Lock path owner timeout shared deep) = IsPathText path × (IfSome owner IsUtf8Text × IfSome timeout FitsInEight)
IsChange (Command.Unlock path token) = IsPath path × IsUtf8Text token
IsChange (Command.Refresh path token timeout) = IsPath path × (IsUtf8Text token × IfSome timeout FitsInEight)
IsChange _ = ⊥

pub record IsNoted (n : Noted) : Type 0 where
  pub caller : IsCaller (asker n.request)
  pub brief : HasCount (caller_text (asker n.request))
  pub command : IsChange n.request.command
  pub drawn : IfSome n.drawn (λ drawn. length drawn ≡ 16)

-- ---- a record

-- the head, and the bodies
abbrev pub bytes_of_pieces : Pieces → Sequence ℕ
bytes_of_pieces pieces = pieces.head.items ++ flat_map (λ body. body) pieces.bodies.items

-- the bytes are the record of these notes
pub record IsRecord (ns : Sequence Noted) (bytes : Sequence ℕ) : Type 0 where
  pub few : FitsInEight (length ns)
  pub notes : AllByRecursion IsNoted ns
  pub short : HasCount (head_text ns)
  pub written : bytes ≡ record_of_notes ns
