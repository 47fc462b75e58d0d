use Rattle.std.proofs.Common.{inr, ◌∙◌, ap, subst, option_copied, option_to_list}
use Rattle.std.specs.Prelude.{IsUtf8}
use Rattle.dav_fields_core.proofs.RefusalLemmas.{nobody_named}
use Rattle.dav_fields_core.proofs.senders.principal_of.Goals as goal

pub returns-in_default-from_utf8-clause-err : goal.returns-in_default-from_utf8-clause-err
returns-in_default-from_utf8-clause-err c =
    inr (nobody_named c.args.user_header.now c.args.headers.now c.in-Some.name c.in-Some-2.value.now c.in-Some.is
    (c.in_ok-value.ensures.ok ∙ ap (λ o. option_to_list (option_copied o)) c.in-Some-2.is)
    (inr (subst (λ bytes. ¬ IsUtf8 bytes) c.as_bytes.ensures.value c.in_default-from_utf8.ensures.cases.0)))
