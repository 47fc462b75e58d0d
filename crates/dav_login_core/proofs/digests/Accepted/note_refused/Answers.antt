use Rattle.std.proofs.Common.{ℕ, List, sym, subst, is_ok}
use Rattle.dav_users_core.specs.declared.users.Users.{Users}
use Rattle.dav_users_core.specs.Users.{users_in}
use Rattle.dav_login_core.specs.Digests.{WasRefused}
use Rattle.dav_login_core.proofs.DigestLemmas.{all_pushed, notes_one}
use Rattle.dav_login_core.proofs.digests.Accepted.note_refused.Goals as goal

pub invariant_of-self-clause-are_refused : goal.invariant_of-self-clause-are_refused
invariant_of-self-clause-are_refused c =
    all_pushed (λ (r : ℕ × List ℕ). WasRefused (users_in c.make_room_refused.new.self.users) c.make_room_refused.new.self.key r.1)
    (is_ok c.push_back-kept.result) _ _ (c.args.label, c.args.digest) c.push_back-kept.ensures.items c.make_room_refused.new.self.are_refused
    (subst (λ (u : Users). WasRefused (users_in u) c.make_room_refused.new.self.key c.args.digest) (sym c.make_room_refused.ensures.users)
    (subst (λ (k : List ℕ). WasRefused (users_in c.args.self.now.users) k c.args.digest) (sym c.make_room_refused.ensures.key) c.requires))

pub returns-clause-notes : goal.returns-clause-notes
returns-clause-notes c =
    notes_one (is_ok c.push_back-kept.result) c.args.self.now.refused.items c.make_room_refused.new.self.refused.items _ c.args.label c.args.digest c.make_room_refused.ensures.refused
    c.push_back-kept.ensures.items
