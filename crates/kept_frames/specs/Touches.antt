-- Which frames ask whether the file may still be written (own).
use Rattle.std.specs.Prelude.{Option, Some}
use Rattle.http_frames.specs.declared.frames.Head.{Head}
use Rattle.http_frames.specs.declared.frames.Head.TheVariants as head

-- the frame asks for a touch
abbrev pub AsksTouch : Option Head → Type 0
AsksTouch (Some head.Touch) = Unit {0}
AsksTouch _ = ⊥
