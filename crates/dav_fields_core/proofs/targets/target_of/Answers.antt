use Rattle.std.proofs.Common.{subst}
use Rattle.std.proofs.lemmas.Result.{err_from_is_err_and}
use Rattle.dav_fields_core.specs.Targets.{RefusesPath}
use Rattle.dav_fields_core.proofs.RefusalLemmas.{refuses_target}
use Rattle.dav_fields_core.proofs.targets.target_of.Goals as goal

pub returns-in_err-path_behind-clause-err : goal.returns-in_err-path_behind-clause-err
returns-in_err-path_behind-clause-err c =
    let p = err_from_is_err_and c.from_residual.result c.from_residual.ensures.1 in
    let e = c.in_err-path_behind.field-0.0 in
    rw (p.1, p.2) (refuses_target c.args.prefix.now c.args.uri.now e
    (subst (λ text. RefusesPath c.args.prefix.now text e) c.path.ensures.value c.in_err-path_behind.ensures.err))
