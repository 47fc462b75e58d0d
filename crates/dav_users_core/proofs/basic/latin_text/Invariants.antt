use Rattle.std.proofs.Common.{◌≡◌, string_bytes, take}
use Rattle.dav_users_core.specs.Basic.{latin_text}
use Rattle.dav_users_core.proofs.basic.latin_text.Given as goal

-- the text of the bytes so far
abbrev pub invariant-reading : goal.invariant-reading
invariant-reading l = string_bytes l.text ≡ latin_text (take l.byte-index l.bytes)
