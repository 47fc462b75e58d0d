use Rattle.std.proofs.Common.{◌∙◌, Some, sym, subst}
use Rattle.std.proofs.lemmas.Result.{err_from_is_err_and}
use Rattle.dav_fields_core.specs.TransferDestinations.{LeadsTo}
use Rattle.dav_fields_core.specs.TransferDestinations.LeadsNowhere.{another}
use Rattle.dav_fields_core.specs.TransferDestinations.LeadsTo.{itself, by_url, elsewhere}
use Rattle.dav_fields_core.proofs.DestinationLemmas.{without_text, without_url, without_host, with_path, without_path}
use Rattle.dav_fields_core.proofs.destinations.destination_in.Goals as goal

pub returns-in_err-text-clause-err : goal.returns-in_err-text-clause-err
returns-in_err-text-clause-err c =
    let p = err_from_is_err_and c.from_residual.result c.from_residual.ensures.1 in
    rw (p.1, p.2) (without_text c.args.site.now c.args.prefix.now c.args.headers.now c.in_err-text.field-0.0 c.in_err-text.ensures.err)

pub returns-then-is_rooted-clause-ok : goal.returns-then-is_rooted-clause-ok
returns-then-is_rooted-clause-ok c =
    let text = c.in_ok-text.text.now in
    with_path c.args.site.now c.args.prefix.now c.args.headers.now text c.in_ok-text.ensures.ok text (itself (sym c.is_rooted.ensures ∙ c.if-is_rooted.true))
    c.path_on.result c.path_on.ensures.ok

pub returns-then-is_rooted-clause-err : goal.returns-then-is_rooted-clause-err
returns-then-is_rooted-clause-err c =
    let text = c.in_ok-text.text.now in
    without_path c.args.site.now c.args.prefix.now c.args.headers.now text c.in_ok-text.ensures.ok text (itself (sym c.is_rooted.ensures ∙ c.if-is_rooted.true))
    c.path_on.result c.path_on.ensures.err

pub returns-in_err-url-clause-err : goal.returns-in_err-url-clause-err
returns-in_err-url-clause-err c =
    let p = err_from_is_err_and c.from_residual-in_err-url.result c.from_residual-in_err-url.ensures.1 in
    rw (p.1, p.2) (without_url c.args.site.now c.args.prefix.now c.args.headers.now c.in_ok-text.text.now c.in_ok-text.ensures.ok c.in_err-url.field-0.0
    (sym c.is_rooted.ensures ∙ c.if-is_rooted.false) c.in_err-url.ensures)

pub returns-in_err-base-clause-err : goal.returns-in_err-base-clause-err
returns-in_err-base-clause-err c =
    let p = err_from_is_err_and c.from_residual-in_err-base.result c.from_residual-in_err-base.ensures.1 in
    rw (p.1, p.2) (without_host c.args.site.now c.args.prefix.now c.args.headers.now c.in_ok-text.text.now c.in_ok-text.ensures.ok c.in_err-base.field-0.0
    (sym c.is_rooted.ensures ∙ c.if-is_rooted.false) c.in_err-base.ensures.err)

pub returns-then-not-is_same_server-clause-err : goal.returns-then-not-is_same_server-clause-err
returns-then-not-is_same_server-clause-err c =
    another c.in_ok-text.text.now c.in_ok-text.ensures.ok
    (elsewhere c.in_ok-url.url c.in_ok-base.base (sym c.is_rooted.ensures ∙ c.if-is_rooted.false) c.in_ok-url.ensures c.in_ok-base.ensures.ok
    (λ same. let yes = c.is_same_server.ensures.1 same in let no = c.if-not-is_same_server.true in cc))

pub returns-clause-ok : goal.returns-clause-ok
returns-clause-ok c =
    let text = c.in_ok-text.text.now in
    with_path c.args.site.now c.args.prefix.now c.args.headers.now text c.in_ok-text.ensures.ok c.path.result.now
    (subst (λ at. LeadsTo c.args.site.now c.args.headers.now text (Some at)) (sym c.path.ensures.value)
    (by_url c.in_ok-url.url c.in_ok-base.base (sym c.is_rooted.ensures ∙ c.if-is_rooted.false) c.in_ok-url.ensures c.in_ok-base.ensures.ok
    (c.is_same_server.ensures.0 c.if-not-is_same_server.false)))
    c.path_on-2.result c.path_on-2.ensures.ok

pub returns-clause-err : goal.returns-clause-err
returns-clause-err c =
    let text = c.in_ok-text.text.now in
    without_path c.args.site.now c.args.prefix.now c.args.headers.now text c.in_ok-text.ensures.ok c.path.result.now
    (subst (λ at. LeadsTo c.args.site.now c.args.headers.now text (Some at)) (sym c.path.ensures.value)
    (by_url c.in_ok-url.url c.in_ok-base.base (sym c.is_rooted.ensures ∙ c.if-is_rooted.false) c.in_ok-url.ensures c.in_ok-base.ensures.ok
    (c.is_same_server.ensures.0 c.if-not-is_same_server.false)))
    c.path_on-2.result c.path_on-2.ensures.err
