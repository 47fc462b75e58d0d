use Rattle.std.proofs.Common.{◌≡◌, ◌≤◌, ◌+◌, length, Ok}
use Rattle.std.specs.List.{fold}
use Rattle.line_streams.specs.Lines.{lines}
use Rattle.dav_users_core.specs.Users.{read_line, users_in, users_of}
use Rattle.dav_users_core.proofs.users.Users.read.Given as goal

abbrev pub decreases-reading : goal.decreases-reading
decreases-reading l = length l.rest

-- the lines that are left, read behind those so far, give what the file gives
abbrev pub invariant-reading : goal.invariant-reading
invariant-reading l = record {
  left : fold read_line (Ok (users_in l.users, l.number)) (lines l.rest) ≡ users_of l.file;
  few : l.number + length l.rest ≤ length l.file;
}
