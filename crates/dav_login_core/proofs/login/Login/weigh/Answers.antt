use Rattle.std.proofs.Common.{ℕ, List, ap, subst, sym, ◌∙◌}
use Rattle.dav_users_core.specs.Users.{users_in}
use Rattle.dav_login_core.specs.Digests.{WasRefused, is_refused}
use Rattle.dav_login_core.proofs.login.Login.weigh.Goals as goal

pub returns-then-was_refused-clause-weighs : goal.returns-then-was_refused-clause-weighs
returns-then-was_refused-clause-weighs g c = (
  ap (is_refused c.args.self.now.accepted.refused.items c.args.label) (sym c.requires) ∙ sym c.was_refused.ensures.value ∙ c.if-was_refused.true,
  subst (λ (d : List ℕ). WasRefused (users_in c.args.self.now.accepted.users) c.args.self.now.accepted.key d) c.requires (c.was_refused.ensures.refused c.if-was_refused.true),
)
