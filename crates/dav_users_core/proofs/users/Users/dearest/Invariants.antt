use Rattle.std.proofs.Common.{◌≡◌, drop, map}
use Rattle.dav_users_core.specs.GuessCosts.{dearest, dearest_with}
use Rattle.dav_users_core.specs.Users.{user_in, users_in}
use Rattle.dav_users_core.proofs.users.Users.dearest.Given as goal

-- with the users that are left it gives the dearest of all
abbrev pub invariant-looking : goal.invariant-looking
invariant-looking l = dearest_with l.so_far (map user_in (drop l.user-index l.others)) ≡ dearest (users_in l.self)
