use Rattle.std.proofs.Common.{◌≡◌, ◌-◌, ◌<◌, true, get_or, arith}
use Rattle.std.proofs.lemmas.Bool.Decides.{nat_tests}
use Rattle.dav_path_core.specs.Segments.{is_slash}
use Rattle.dav_path_core.proofs.paths.TrimLemmas.{above-cut}
use Rattle.dav_path_core.proofs.davpath.lent.above_name.Goals.{then-loop-end-test+else-bytes-end-ne47, else-loop-end-test}
use Rattle.dav_path_core.proofs.davpath.lent.above_name.Goals as goal

pub returns : goal.returns
returns c =
    let bs = c.args.bytes.now in
    let end = c.loop-end.end in
    let at_slash : 0 < end → is_slash (get_or bs (end - 1) 0) ≡ true = elim c.loop-end-test.branch [
      | then-loop-end-test+else-bytes-end-ne47 w ↦ λ pos. grind (arith, nat_tests)
      | else-loop-end-test w ↦ λ pos. absurd (omega (arith, pos))
    ] in
    above-cut bs end c.loop-end.invariant.within c.loop-end.invariant.none c.requires at_slash
