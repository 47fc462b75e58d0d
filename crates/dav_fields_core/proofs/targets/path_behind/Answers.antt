use Rattle.std.proofs.Common.{◌++◌, ap, subst}
use Rattle.std.proofs.lemmas.Result.{err_from_is_err_and}
use Rattle.dav_path_core.specs.PathText.{full}
use Rattle.dav_path_core.specs.Prefix.{SetsPrefix}
use Rattle.dav_fields_core.proofs.RefusalLemmas.{faulty_text, foreign_only, foreign_text}
use Rattle.dav_fields_core.proofs.targets.path_behind.Goals as goal

pub returns-in_err-path-clause-only : goal.returns-in_err-path-clause-only
returns-in_err-path-clause-only c =
    let p = err_from_is_err_and c.from_residual.result c.from_residual.ensures.1 in
    λ path is. rw (p.1, p.2) (c.in_err-path.ensures.only is.whole is.read)

pub returns-in_err-path-clause-err : goal.returns-in_err-path-clause-err
returns-in_err-path-clause-err c =
    let p = err_from_is_err_and c.from_residual.result c.from_residual.ensures.1 in
    rw (p.1, p.2) (faulty_text c.args.prefix.now c.args.text.now c.in_err-path.field-0.0 c.in_err-path.ensures.err)

pub returns-in-Ok-clause-ok : goal.returns-in-Ok-clause-ok
returns-in-Ok-clause-ok c = record {
  whole = c.in_ok-path.path.bytes;
  read = c.in_ok-path.ensures.ok.1;
  sets = subst (λ w. SetsPrefix w c.args.prefix.now (full c.set_prefix.new.self) c.set_prefix.new.self.prefix)
      (ap (λ front. front ++ c.in_ok-path.path.bytes) c.in_ok-path.ensures.ok.0) c.in-Ok.ensures.ok;
}

pub returns-in-Err-clause-only : goal.returns-in-Err-clause-only
returns-in-Err-clause-only c =
    foreign_only c.args.prefix.now c.args.text.now c.in_ok-path.path.bytes c.in_ok-path.path.prefix c.in_ok-path.ensures.ok.0 c.in_ok-path.ensures.ok.1
    c.in-Err.error c.in-Err.ensures.err c.in_ok-path.ensures.only

pub returns-in-Err-clause-err : goal.returns-in-Err-clause-err
returns-in-Err-clause-err c =
    foreign_text c.args.prefix.now c.args.text.now c.in_ok-path.path.bytes c.in_ok-path.path.prefix c.in_ok-path.ensures.ok.0 c.in_ok-path.ensures.ok.1
    c.in-Err.error c.in-Err.ensures.err
