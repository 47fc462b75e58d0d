use Rattle.std.proofs.Common.{sym, ◌∙◌}
use Rattle.dav_users_core.specs.Users.{users_in}
use Rattle.dav_login_core.specs.Digests.{WasRefused}
use Rattle.dav_login_core.proofs.DigestLemmas.{holds_of_second}
use Rattle.dav_login_core.proofs.digests.Accepted.was_refused.Goals as goal

pub returns-clause-refused : goal.returns-clause-refused
returns-clause-refused c is_kept =
    holds_of_second (WasRefused (users_in c.args.self.now.users) c.args.self.now.key) c.args.self.now.refused.items c.args.label c.args.digest
    c.args.self.now.are_refused (sym c.contains.ensures.value ∙ is_kept)
