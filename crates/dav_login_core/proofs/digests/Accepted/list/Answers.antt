use Rattle.std.proofs.Common.{◌≡◌, string_bytes, rules}
use Rattle.dav_users_core.specs.Users.{hash_named, users_in}
use Rattle.dav_login_core.specs.declared.known.Known.{Known}
use Rattle.dav_login_core.specs.Digests.{WasAcceptedOf}
use Rattle.dav_login_core.proofs.RetainLemmas.{accepted_alike, all_retained, retained, told_by}
use Rattle.dav_login_core.proofs.digests.Accepted.list.Goals as goal

pub invariant_of-self-clause-are_accepted : goal.invariant_of-self-clause-are_accepted
invariant_of-self-clause-are_accepted c =
    let before = users_in c.args.self.now.users in
    let after = users_in c.args.users in
    let key = c.args.self.now.key in
    all_retained (λ (k : Known). hash_named before (string_bytes k.name) ≡ hash_named after (string_bytes k.name))
    (λ (k : Known). WasAcceptedOf before key (string_bytes k.name) k.digest) (λ (k : Known). WasAcceptedOf after key (string_bytes k.name) k.digest)
    (λ k same was. accepted_alike before after key (string_bytes k.name) k.digest same was)
    c.args.self.now.known.items c.retain.new.self.items
    (retained _ (λ (k : Known). hash_named before (string_bytes k.name) ≡ hash_named after (string_bytes k.name)) _
    (λ x b f' t. let told = told_by b (hash_named before (string_bytes x.name) ≡ hash_named after (string_bytes x.name)) (search rules) in (told.0, told.1, search rules))
    _ _ c.retain.ensures.filtered)
    c.args.self.now.are_accepted

pub returns-clause-known : goal.returns-clause-known
returns-clause-known c =
    let before = users_in c.args.self.now.users in
    let after = users_in c.args.users in
    retained _ (λ (k : Known). hash_named before (string_bytes k.name) ≡ hash_named after (string_bytes k.name)) _
    (λ x b f' t. let told = told_by b (hash_named before (string_bytes x.name) ≡ hash_named after (string_bytes x.name)) (search rules) in (told.0, told.1, search rules))
    _ _ c.retain.ensures.filtered
