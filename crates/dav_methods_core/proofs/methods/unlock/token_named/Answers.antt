use Rattle.std.proofs.Common.{sym, ap, ◌∙◌, subst, option_copied, option_to_list}
use Rattle.http_header.specs.HeaderMap.{get_all}
use Rattle.dav_methods_core.specs.UnlockMethod.{IsBracketed}
use Rattle.dav_methods_core.proofs.methods.unlock.token_named.Goals as goal

pub returns-clause-ok : goal.returns-clause-ok
returns-clause-ok c = (
  c.in-Some.value.now,
  sym (ap (get_all c.args.headers.now) c.from_static.ensures) ∙ c.in_ok-value.ensures.ok ∙ ap (λ o. option_to_list (option_copied o)) c.in-Some.is,
  subst (IsBracketed c.in-Some.value.now.bytes) (sym c.in_ok-from_str.ensures.ok) c.in-Some-token_in.ensures,
)
