use Rattle.std.proofs.Common.{ℕ, List, sym, subst, is_ok, string_bytes}
use Rattle.dav_users_core.specs.declared.users.Users.{Users}
use Rattle.dav_users_core.specs.Users.{users_in}
use Rattle.dav_login_core.specs.declared.known.Known.{Known}
use Rattle.dav_login_core.specs.Digests.{WasAcceptedOf}
use Rattle.dav_login_core.proofs.DigestLemmas.{all_pushed, learns_one}
use Rattle.dav_login_core.proofs.digests.Accepted.keep.Goals as goal

pub invariant_of-self-clause-are_accepted : goal.invariant_of-self-clause-are_accepted
invariant_of-self-clause-are_accepted c =
    all_pushed (λ (k : Known). WasAcceptedOf (users_in c.make_room.new.self.users) c.make_room.new.self.key (string_bytes k.name) k.digest)
    (is_ok c.push_back-kept.result) _ _ c.args.accepted c.push_back-kept.ensures.items c.make_room.new.self.are_accepted
    (subst (λ (u : Users). WasAcceptedOf (users_in u) c.make_room.new.self.key (string_bytes c.args.accepted.name) c.args.accepted.digest) (sym c.make_room.ensures.users)
    (subst (λ (k : List ℕ). WasAcceptedOf (users_in c.args.self.now.users) k (string_bytes c.args.accepted.name) c.args.accepted.digest) (sym c.make_room.ensures.key) c.requires))

pub returns-clause-learns : goal.returns-clause-learns
returns-clause-learns c =
    learns_one (is_ok c.push_back-kept.result) c.args.self.now.known.items c.make_room.new.self.known.items _ c.args.accepted c.make_room.ensures.known
    c.push_back-kept.ensures.items
