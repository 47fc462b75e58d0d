use Rattle.std.proofs.Common.{◌≡◌, ℕ, List, ◌++◌}
use Rattle.std.specs.Fmt.{HasWritten, IsPlainFormatter}
use Rattle.std.specs.Str.Chunks.{utf8_chunks_rest}
use Rattle.std.specs.Str.Lossy.{utf8_lossy}
use Rattle.dav_path_core.specs.Shown.{display_text}
use Rattle.dav_path_core.proofs.davpath.shown.DavPathDisplay.fmt.Given as goal

-- what is written, with the text of what is left, is the whole text
abbrev pub invariant-loop-chunk : goal.invariant-loop-chunk
invariant-loop-chunk g l = IsPlainFormatter l.initial.f → (done : List ℕ) × HasWritten g.W.Write.write_str_gives l.initial.f done l.f × (done ++ utf8_lossy (utf8_chunks_rest l.chunk-iterator) ≡ display_text l.fn.self)
