use Rattle.std.proofs.Common.{◌≡◌, drop, map}
use Rattle.dav_users_core.specs.Users.{hash_named, user_in, users_in}
use Rattle.dav_users_core.proofs.users.Users.hash_named.Given as goal

-- no user so far has the name
abbrev pub invariant-looking : goal.invariant-looking
invariant-looking l = hash_named (map user_in (drop l.user-index l.self.users.items)) l.name ≡ hash_named (users_in l.self) l.name
