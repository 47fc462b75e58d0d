use Rattle.std.proofs.Common.{◌≡◌, Ok, string_bytes, refl, sym, ap, subst, inl, inr, ◌∙◌}
use Rattle.dav_login_core.specs.declared.addresses.Addresses.{Addresses}
use Rattle.dav_users_core.specs.declared.users.Users.{Users}
use Rattle.dav_users_core.specs.Users.{UsersReading, hash_named, users_in}
use Rattle.dav_login_core.specs.declared.known.Known.{Known}
use Rattle.dav_login_core.specs.Digests.{Retains}
use Rattle.dav_login_core.proofs.RetainLemmas.{retains_all}
use Rattle.dav_login_core.proofs.login.Login.list_users.Goals as goal

pub returns-in-Ok-clause-lists : goal.returns-in-Ok-clause-lists
returns-in-Ok-clause-lists g c =
    let before = users_in c.args.self.now.accepted.users in
    record {
      users = inl (record {
        count = c.in-Ok.ensures.0;
        users = c.in-Ok.ensures.1 ∙ ap (λ (u : Users). (let r : UsersReading = Ok (users_in u, c.in-Ok.ensures.0) in r)) (sym c.list.ensures.users);
        host = refl;
      });
      known =
          subst (λ (u : Users). Retains (λ (k : Known). hash_named before (string_bytes k.name) ≡ hash_named (users_in u) (string_bytes k.name))
          c.args.self.now.accepted.known.items c.list.new.self.known.items)
          (sym c.list.ensures.users) c.list.ensures.known;
      challenge = refl;
      header = refl;
      address_field = refl;
      key = c.list.ensures.key;
    }

pub returns-in-Err-clause-lists : goal.returns-in-Err-clause-lists
returns-in-Err-clause-lists g c =
    let before = users_in c.args.self.now.accepted.users in
    record {
      users = inr (record { error = c.in-Err.error; is_told = c.tell.ensures.told; is_true = c.in-Err.ensures; users = refl });
      known = retains_all (λ (k : Known). hash_named before (string_bytes k.name) ≡ hash_named before (string_bytes k.name)) (λ k. refl)
          c.args.self.now.accepted.known.items;
      challenge = refl;
      header = refl;
      address_field = ap (λ (a : Addresses). a.field) c.tell.ensures.addresses;
      key = refl;
    }
