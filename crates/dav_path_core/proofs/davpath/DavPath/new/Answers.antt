use Rattle.std.proofs.Common.{inl, inr, ⊎_elim, refl}
use Rattle.std.proofs.lemmas.Result.{err_from_is_err_and}
use Rattle.dav_path_core.specs.PathReading.{decoded_pieces}
use Rattle.dav_path_core.specs.Fault.{FirstFault}
use Rattle.dav_path_core.specs.Fault.Fault.{no_target, first}
use Rattle.dav_path_core.proofs.paths.Laws.{no_path, one_path, read_from}
use Rattle.dav_path_core.proofs.paths.ReadLaws.{read_again}
use Rattle.dav_path_core.proofs.davpath.DavPath.new.Goals as goal

pub returns-in_err-raw-clause-err : goal.returns-in_err-raw-clause-err
returns-in_err-raw-clause-err c =
    let p = err_from_is_err_and c.from_residual.result c.from_residual.ensures.1 in
    let e = c.in_err-raw.ensures.err in
    rw (p.1, p.2, e.0) (inr (no_target (rw c.as_bytes.ensures.value at e.1)))

pub returns-in_err-fullpath-clause-only : goal.returns-in_err-fullpath-clause-only
returns-in_err-fullpath-clause-only c = λ bytes r.
    let p = err_from_is_err_and c.from_residual-in_err-fullpath.result c.from_residual-in_err-fullpath.ensures.1 in
    let target = c.in_ok-raw.ensures.ok in
    rw (p.1, p.2)
    (⊎_elim (λ e. e)
    (λ (f : FirstFault (decoded_pieces c.in_ok-raw.raw.now) c.in_err-fullpath.field-0.0). absurd (no_path c.args.src.now bytes c.in_err-fullpath.field-0.0 (first _ r.target (rw (target.1, c.as_bytes.ensures.value) at f)) r))
    c.in_err-fullpath.ensures.err)

pub returns-in_err-fullpath-clause-err : goal.returns-in_err-fullpath-clause-err
returns-in_err-fullpath-clause-err c =
    let p = err_from_is_err_and c.from_residual-in_err-fullpath.result c.from_residual-in_err-fullpath.ensures.1 in
    let target = c.in_ok-raw.ensures.ok in
    rw (p.1, p.2)
    (⊎_elim inl (λ (f : FirstFault (decoded_pieces c.in_ok-raw.raw.now) c.in_err-fullpath.field-0.0). inr (first _ (rw c.as_bytes.ensures.value at target.0) (rw (target.1, c.as_bytes.ensures.value) at f))) c.in_err-fullpath.ensures.err)

pub returns-clause-ok : goal.returns-clause-ok
returns-clause-ok c =
    let target = c.in_ok-raw.ensures.ok in
    let kept = c.in_ok-fullpath.ensures.ok in (
      refl,
      read_from c.args.src.now c.in_ok-raw.raw.now _ kept.0 (rw c.as_bytes.ensures.value at target.0) (rw c.as_bytes.ensures.value at target.1) kept.1
          (rw c.ends_with.ensures.value at (c.in_ok-end_in_slash.ensures kept.0 kept.2)),
    )

pub returns-clause-only : goal.returns-clause-only
returns-clause-only c = λ bytes r.
    let target = c.in_ok-raw.ensures.ok in
    let kept = c.in_ok-fullpath.ensures.ok in
    one_path c.args.src.now _ bytes
    (read_from c.args.src.now c.in_ok-raw.raw.now _ kept.0 (rw c.as_bytes.ensures.value at target.0) (rw c.as_bytes.ensures.value at target.1) kept.1
    (rw c.ends_with.ensures.value at (c.in_ok-end_in_slash.ensures kept.0 kept.2))) r

pub returns-clause-readable : goal.returns-clause-readable
returns-clause-readable c = read_again c.args.src.now _ (returns-clause-ok c).1
