use Rattle.std.proofs.Common.{ℕ, List, arith}
use Rattle.dav_users_core.specs.Users.{users_in}
use Rattle.dav_login_core.specs.Digests.{WasRefused}
use Rattle.dav_login_core.proofs.DigestLemmas.{all_behind, room_made, room_there}
use Rattle.dav_login_core.proofs.digests.Accepted.make_room_refused.Goals as goal

pub invariant_of-self-clause-are_refused : goal.invariant_of-self-clause-are_refused
invariant_of-self-clause-are_refused c =
    all_behind (λ (r : ℕ × List ℕ). WasRefused (users_in c.args.self.now.users) c.args.self.now.key r.1) c.pop_front-oldest.result _ _
    c.pop_front-oldest.ensures.items c.args.self.now.are_refused

pub returns-then-len-ge-MOST-clause-refused : goal.returns-then-len-ge-MOST-clause-refused
returns-then-len-ge-MOST-clause-refused c = room_made c.pop_front-oldest.new.self.items c.args.self.now.refused.items c.pop_front-oldest.ensures.rest (omega arith)

pub returns-else-len-ge-MOST-clause-refused : goal.returns-else-len-ge-MOST-clause-refused
returns-else-len-ge-MOST-clause-refused c = room_there c.args.self.now.refused.items (omega arith)
