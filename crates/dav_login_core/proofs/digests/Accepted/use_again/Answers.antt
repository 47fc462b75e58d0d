use Rattle.std.proofs.Common.{◌<◌, arith, length, is_ok, refl, string_bytes, subst, sym}
use Rattle.dav_users_core.specs.Users.{users_in}
use Rattle.dav_login_core.specs.declared.known.Known.{Known}
use Rattle.dav_login_core.specs.Digests.{WasAcceptedOf}
use Rattle.dav_login_core.proofs.DigestLemmas.{all_pushed, all_removed}
use Rattle.dav_login_core.proofs.digests.Accepted.use_again.Goals as goal

pub invariant_of-self-clause-are_accepted : goal.invariant_of-self-clause-are_accepted
invariant_of-self-clause-are_accepted c =
    let was = λ (k : Known). WasAcceptedOf (users_in c.args.self.now.users) c.args.self.now.key (string_bytes k.name) k.digest in
    let place = c.place_of-place.result in
    let within : place < length c.args.self.now.known.items = omega (arith, c.in-Some.ensures.variant.0 refl) in
    all_pushed was (is_ok c.push_back-kept.result) c.remove.new.self.items c.push_back-kept.new.self.items c.in-Some.known c.push_back-kept.ensures.items
    (all_removed was place c.args.self.now.known.items c.remove.new.self.items c.in-Some.ensures.items c.args.self.now.are_accepted)
    (subst was (sym c.in-Some.ensures.value) (c.args.self.now.are_accepted place c.in-Some.known within))

pub invariant_of-self-in-None-clause-are_accepted : goal.invariant_of-self-in-None-clause-are_accepted
invariant_of-self-in-None-clause-are_accepted c = rw c.in-None.ensures.unchanged c.args.self.now.are_accepted
