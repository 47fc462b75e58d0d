use Rattle.std.proofs.Common.{◌≡◌, [], map, subst}
use Rattle.std.specs.Prelude.{MatchOption, codes}
use Rattle.std.proofs.lemmas.Result.{err_from_is_err_and}
use Rattle.http_header.specs.HeaderMap.{get_all}
use Rattle.dav_headers_core.specs.IfValues.{located_list}
use Rattle.dav_fields_core.specs.RootedTags.{IfSays}
use Rattle.dav_session_core.specs.Callers.{live}
use Rattle.dav_session_core.specs.Sessions as spec
use Rattle.dav_methods_core.proofs.AdmitLemmas.{no_base}
use Rattle.dav_session_core.proofs.Looking.{looks_none}
use Rattle.dav_methods_core.proofs.conditions.admit.Goals as goal

pub returns-in_err-base-clause-err : goal.returns-in_err-base-clause-err
returns-in_err-base-clause-err g c =
    let p = err_from_is_err_and c.from_residual-in_err-base.result c.from_residual-in_err-base.ensures.1 in
    let e = c.in_err-base.field-0.0 in
    rw (p.1, p.2) (no_base c.args.site.now (live (spec.caller c.args.session.now).now (spec.state g.R.Rng.stream c.args.session.now)) c.args.headers.now c.args.here.now (map located_list c.in-Some.header.0.items) e
    (subst (λ o. MatchOption o (get_all c.args.headers.now (codes "if") ≡ []) (λ header. IfSays c.args.site.now c.args.headers.now (map located_list header.0.items)))
    c.in-Some.is c.in_ok-header.ensures.ok) c.in_err-base.ensures.err)

pub returns-in_err-header-clause-looks : goal.returns-in_err-header-clause-looks
returns-in_err-header-clause-looks g c = looks_none g.R.Rng.stream c.args.session.now

pub returns-in_default-clause-looks : goal.returns-in_default-clause-looks
returns-in_default-clause-looks g c = looks_none g.R.Rng.stream c.args.session.now

pub returns-in_err-base-clause-looks : goal.returns-in_err-base-clause-looks
returns-in_err-base-clause-looks g c = looks_none g.R.Rng.stream c.args.session.now
