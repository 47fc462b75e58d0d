use Rattle.std.proofs.Common.{◌++◌, ap, ◌∙◌}
use Rattle.std.specs.Prelude.{codes}
use Rattle.dav_fields_core.proofs.BaseLemmas.{base_ok, base_err}
use Rattle.dav_fields_core.proofs.bases.base_of.Goals as goal

pub returns-clause-ok : goal.returns-clause-ok
returns-clause-ok c =
    base_ok c.args.site.now c.args.headers.now c.in_ok-host.host.now c.in_ok-host.ensures.ok c.deref.result.now
    (c.deref.ensures ∙ c.in_ok-text.ensures.ok ∙ ap
    (λ front. front ++ (c.in_ok-host.host.now ++ codes "/")) c.front-front.ensures)
    c.url_of.result c.url_of.ensures

pub returns-clause-err : goal.returns-clause-err
returns-clause-err c =
    base_err c.args.site.now c.args.headers.now c.in_ok-host.host.now c.in_ok-host.ensures.ok c.deref.result.now
    (c.deref.ensures ∙ c.in_ok-text.ensures.ok ∙ ap
    (λ front. front ++ (c.in_ok-host.host.now ++ codes "/")) c.front-front.ensures)
    c.url_of.result c.url_of.ensures
