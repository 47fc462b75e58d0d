use Rattle.std.proofs.Common.{◌∙◌, ap, not, subst, sym}
use Rattle.dav_path_core.specs.Fronts.{parent}
use Rattle.dav_path_core.specs.PathText.{PathText}
use Rattle.dav_path_core.specs.Segments.{segments}
use Rattle.dav_files_core.specs.Meta.{meta_at, meta_of}
use Rattle.dav_files_core.specs.Resources.{Resource, ResourceMap, at_path}
use Rattle.dav_guarded_core.specs.Step.{State}
use Rattle.dav_session_core.specs.Ends.{HasFolder}
use Rattle.dav_session_core.specs.Ends.{known_at}
use Rattle.dav_session_core.specs.Sessions as spec
use Rattle.dav_session_core.proofs.Looking.{looks_none, looks_on}
use Rattle.dav_methods_core.proofs.EndsLemmas.{may_stand}
use Rattle.dav_session_core.proofs.PutLemmas.{known_there}
use Rattle.dav_files_core.proofs.paths.SubtreeMaps.{stands_as}
use Rattle.dav_methods_core.proofs.methods.ends.check_fit.Goals.{else-is_some-via-then-is_some+else-not-replaces, else-is_some-via-else-is_some}
use Rattle.dav_methods_core.proofs.methods.ends.check_fit.Goals as goal

pub returns-clause-ok : goal.returns-clause-ok
returns-clause-ok g c =
    let start = spec.state g.R.Rng.stream c.args.session.now in
    let to = segments c.args.to.now.bytes in
    let still = looks_on c.meta.ensures.looks c.meta-known.ensures.looks in
    let found = c.meta-known.ensures.found ∙ ap (λ (s : State). known_at s.map (segments c.in_ok-copy_of-2.field-0.bytes)) c.meta.ensures.looks.live
    ∙ ap (λ (q : PathText). known_at start.map (segments q.bytes)) c.in_ok-copy_of-2.ensures in
    let there = known_there meta_of (λ (r : Resource). meta_at r.node) c.meta-known.result (at_path start.map to) found in
    record {
      fit = record {
        stands = stands_as c.meta.result (at_path start.map (segments c.args.from.now.bytes))
            (c.meta.ensures.found ∙ ap (λ (q : PathText). known_at start.map (segments q.bytes)) c.in_ok-copy_of.ensures) (c.is_none.ensures ∙ ap not c.if-is_none.false);
        may = elim c.else-is_some.branch [
          | else-is_some-via-then-is_some+else-not-replaces w ↦ λ h. w.if-not-replaces.false
          | else-is_some-via-else-is_some w ↦ may_stand c.meta-known.result start.map to c.args.replaces there (sym c.is_some.ensures ∙ w.if-is_some.false)
        ];
        above = subst (λ (m : ResourceMap). HasFolder m (parent to)) (ap (λ (s : State). s.map) still.live) c.in_ok-check_above.ensures.ok;
      };
      known_is = found;
    }

pub returns-in_err-copy_of-clause-looks : goal.returns-in_err-copy_of-clause-looks
returns-in_err-copy_of-clause-looks g c = looks_none g.R.Rng.stream c.args.session.now

pub returns-then-not-replaces-clause-looks : goal.returns-then-not-replaces-clause-looks
returns-then-not-replaces-clause-looks g c = looks_on c.meta.ensures.looks c.meta-known.ensures.looks

pub returns-in_err-check_above-clause-looks : goal.returns-in_err-check_above-clause-looks
returns-in_err-check_above-clause-looks g c = looks_on (looks_on c.meta.ensures.looks c.meta-known.ensures.looks) c.check_above.ensures.looks

pub returns-clause-looks : goal.returns-clause-looks
returns-clause-looks g c = looks_on (looks_on c.meta.ensures.looks c.meta-known.ensures.looks) c.check_above.ensures.looks
