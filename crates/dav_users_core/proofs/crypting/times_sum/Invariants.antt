use Rattle.dav_users_core.specs.Crypt.{times}
use Rattle.dav_users_core.proofs.crypting.times_sum.Given as goal

-- it holds so many times the bytes
abbrev pub invariant-adding : goal.invariant-adding
invariant-adding g l = g.H.Hash.holds l.hash (times l.counter l.bytes)
