use Rattle.std.proofs.Common.{◌≡◌}
use Rattle.dav_users_core.specs.Crypt.{rounds}
use Rattle.dav_users_core.proofs.crypting.rounds.Given as goal

-- the sum behind so many rounds
abbrev pub invariant-rounds : goal.invariant-rounds
invariant-rounds g l = l.sum.items ≡ rounds g.H.Hash.digest l.p.items l.s.items l.fn.first.items l.number
