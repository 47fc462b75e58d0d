use Rattle.std.proofs.Common.{string_bytes, arith}
use Rattle.dav_users_core.specs.Users.{users_in}
use Rattle.dav_login_core.specs.declared.known.Known.{Known}
use Rattle.dav_login_core.specs.Digests.{WasAcceptedOf}
use Rattle.dav_login_core.proofs.DigestLemmas.{all_behind, room_made, room_there}
use Rattle.dav_login_core.proofs.digests.Accepted.make_room.Goals as goal

pub invariant_of-self-clause-are_accepted : goal.invariant_of-self-clause-are_accepted
invariant_of-self-clause-are_accepted c =
    all_behind (λ (k : Known). WasAcceptedOf (users_in c.args.self.now.users) c.args.self.now.key (string_bytes k.name) k.digest) c.pop_front-unused.result _ _
    c.pop_front-unused.ensures.items c.args.self.now.are_accepted

pub returns-then-len-ge-MOST-clause-known : goal.returns-then-len-ge-MOST-clause-known
returns-then-len-ge-MOST-clause-known c = room_made c.pop_front-unused.new.self.items c.args.self.now.known.items c.pop_front-unused.ensures.rest (omega arith)

pub returns-else-len-ge-MOST-clause-known : goal.returns-else-len-ge-MOST-clause-known
returns-else-len-ge-MOST-clause-known c = room_there c.args.self.now.known.items (omega arith)
