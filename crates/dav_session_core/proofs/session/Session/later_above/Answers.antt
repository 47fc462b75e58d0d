use Rattle.std.proofs.Common.{◌≡◌, ◌+◌, ◌<◌, ap, ◌∙◌, subst, length, arith}
use Rattle.std.specs.Prelude.{max}
use Rattle.dav_path_core.specs.Fronts.{Path, parent}
use Rattle.dav_path_core.specs.PathText.{PathText}
use Rattle.dav_path_core.specs.Segments.{segments}
use Rattle.dav_path_core.proofs.paths.AbovePaths.{one_less}
use Rattle.dav_files_core.specs.Resources.{ResourceMap, at_path}
use Rattle.dav_guarded_core.specs.Step.{State}
use Rattle.dav_fields_core.specs.LatestMoments.{last_change, latest_above}
use Rattle.dav_fields_core.proofs.LatestLemmas.{at_top, one_up}
use Rattle.dav_session_core.specs.Sessions as spec
use Rattle.dav_session_core.proofs.Looking.{looks_none, looks_on}
use Rattle.dav_session_core.proofs.session.Session.later_above.Goals as goal

pub loop-init : goal.loop-init
loop-init g c =
    let start = spec.state g.R.Rng.stream c.args.self.now in
    let here : segments c.in_ok-here.here.bytes ≡ segments c.args.path.now.bytes = ap (λ (path : PathText). segments path.bytes) c.in_ok-here.ensures in
    record {
      looks = looks_none g.R.Rng.stream c.args.self.now;
      left = omega (arith, ap length here);
      latest = ap (λ (q : Path). max c.args.first.0 (latest_above start.map q)) here;
    }

pub loop-preserved : goal.loop-preserved
loop-preserved g c =
    let start = spec.state g.R.Rng.stream c.args.self.now in
    let p = segments c.args.path.now.bytes in
    let here = segments c.loop.here.bytes in
    let whole = max c.args.first.0 (latest_above start.map p) in
    let up : segments c.in_ok-here-2.here.bytes ≡ parent here = c.in_ok-here-2.ensures.above in
    let same = ap (λ (s : State). s.map) c.loop.invariant.looks.live in
    let asked : c.changed.result.0 ≡ last_change (at_path start.map (parent here)) =
    c.changed.ensures.changed ∙ ap (λ (path : PathText). last_change (at_path c.loop.self.stores.stores.map (segments path.bytes))) c.in_ok-copy_of.ensures
    ∙ ap (λ (m : ResourceMap). last_change (at_path m (segments c.in_ok-here-2.here.bytes))) same ∙ ap (λ q. last_change (at_path start.map q)) up in
    let less = one_less here c.loop.counter (length p) c.loop.invariant.left (subst (λ n. c.loop.counter < n) c.depth_of-end.ensures c.loop-test.true) in
    let long : length here ≡ length (parent here) + 1 = omega (arith, less, c.loop.invariant.left) in
    record {
      looks = looks_on c.loop.invariant.looks c.changed.ensures.looks;
      left = ap (λ (q : Path). length q + (c.loop.counter + 1)) up ∙ less;
      latest = ap (λ n. max n (latest_above start.map (segments c.in_ok-here-2.here.bytes))) (c.later-latest.ensures ∙ ap (max c.loop.latest.0) asked)
          ∙ ap (λ q. max (max c.loop.latest.0 (last_change (at_path start.map (parent here)))) (latest_above start.map q)) up
          ∙ one_up start.map here (length (parent here)) c.loop.latest.0 whole long c.loop.invariant.latest;
    }

pub returns-clause-ok : goal.returns-clause-ok
returns-clause-ok g c =
    let start = spec.state g.R.Rng.stream c.args.self.now in
    at_top start.map (segments c.loop.here.bytes) c.loop.latest.0 _ (omega (arith, c.loop.invariant.left, c.loop-test.false, c.depth_of-end.ensures)) c.loop.invariant.latest
