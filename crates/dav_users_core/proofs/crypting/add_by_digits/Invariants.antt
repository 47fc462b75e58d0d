use Rattle.std.proofs.Common.{ℕ, List, ◌≡◌, ◌++◌, ◌-◌}
use Rattle.dav_users_core.specs.Crypt.{by_digits}
use Rattle.dav_users_core.proofs.crypting.add_by_digits.Given as goal

-- what it holds, with the digits that are left, is all of it
abbrev pub invariant-digits : goal.invariant-digits
invariant-digits g l = (m : List ℕ) → g.H.Hash.holds l.fn.hash m
    → (so_far : List ℕ) × g.H.Hash.holds l.hash so_far × (so_far ++ by_digits (l.number - l.counter) l.rest l.one l.other ≡ m ++ by_digits l.number l.number l.one l.other)
