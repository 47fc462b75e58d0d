use Rattle.std.proofs.Common.{◌≡◌, ◌+◌, ◌-◌, ◌<◌, length, true, get_or, sym, subst, arith}
use Rattle.std.proofs.lemmas.Bool.Decides.{nat_tests}
use Rattle.std.proofs.lemmas.List.Folds.{list_any_at}
use Rattle.dav_path_core.specs.Segments.{is_slash}
use Rattle.dav_path_core.proofs.paths.NameLemmas.{NoSlashFrom, before_last_at, no_slash}
use Rattle.dav_path_core.proofs.davpath.lent.before_last_slash.Goals as goal

pub returns-then-bytes-end-eq47 : goal.returns-then-bytes-end-eq47
returns-then-bytes-end-eq47 c =
    let at = c.loop-end.end - 1 in
    let within : at < length c.args.bytes.now = omega (arith, c.loop-end.invariant.within) in
    let here : is_slash (get_or c.args.bytes.now at 0) ≡ true = grind (arith, nat_tests) in
    let behind : at + 1 ≡ c.loop-end.end = omega arith in
    (list_any_at is_slash c.args.bytes.now at 0 within here, sym (before_last_at c.args.bytes.now at within here (subst (NoSlashFrom c.args.bytes.now) (sym behind) c.loop-end.invariant.none)))

pub returns : goal.returns
returns c =
    let none : c.loop-end.end ≡ 0 = omega arith in
    no_slash c.args.bytes.now (subst (NoSlashFrom c.args.bytes.now) none c.loop-end.invariant.none)
