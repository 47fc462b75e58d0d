use Rattle.std.proofs.Common.{◌≡◌, ◌+◌, ◌-◌, ◌<◌, length, take, true, get_or, ap, ◌∙◌, arith}
use Rattle.std.proofs.lemmas.Bool.Decides.{nat_tests}
use Rattle.dav_path_core.specs.Segments.{segments, is_slash}
use Rattle.dav_path_core.proofs.paths.TrimLemmas.{segments-less}
use Rattle.dav_path_core.proofs.davpath.lent.trim_slashes.Goals as goal

pub loop-end-preserved : goal.loop-end-preserved
loop-end-preserved c =
    let at = c.loop-end.end - 1 in
    let within : at < length c.args.bytes.now = omega (arith, c.loop-end.invariant.within) in
    let here : is_slash (get_or c.args.bytes.now at 0) ≡ true = grind (arith, nat_tests) in
    let behind : at + 1 ≡ c.loop-end.end = omega arith in
    record {
      within = omega (arith, c.loop-end.invariant.within);
      same = segments-less c.args.bytes.now at within here ∙ ap (λ n. segments (take n c.args.bytes.now)) behind ∙ c.loop-end.invariant.same;
    }
