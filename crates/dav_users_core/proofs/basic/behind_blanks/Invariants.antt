use Rattle.std.proofs.Common.{◌≡◌, length}
use Rattle.dav_users_core.specs.Basic.{behind_blanks}
use Rattle.dav_users_core.proofs.basic.behind_blanks.Given as goal

abbrev pub decreases-passing : goal.decreases-passing
decreases-passing l = length l.rest

-- so many blanks were passed
abbrev pub invariant-passing : goal.invariant-passing
invariant-passing l = behind_blanks l.rest ≡ behind_blanks l.bytes
